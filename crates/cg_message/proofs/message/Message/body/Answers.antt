use Rattle.std.proofs.Common.{subst}
use Rattle.cg_message.specs.Value.{IsValue, value_in}
use Rattle.cg_message.proofs.NameLemmas.{message-value}
use Rattle.cg_message.proofs.message.Message.body.Goals as goal

pub returns : goal.returns
returns c = subst (λ seen. IsValue seen (value_in c.self.inside.body)) c.self.view_is (message-value _ _ c.self.invariant)
