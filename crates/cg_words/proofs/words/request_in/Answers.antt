use Rattle.std.proofs.Common.{arith}
use Rattle.std.proofs.lemmas.List.{length-map}
use Rattle.cg_words.specs.Reading.{lists_in}
use Rattle.cg_words.proofs.AskLemmas.{no-turns}
use Rattle.cg_words.proofs.words.request_in.Goals as goal

pub returns-in_default-4-clause-none : goal.returns-in_default-4-clause-none
returns-in_default-4-clause-none c = λ request ask.
    no-turns (lists_in c.args.lists.now) _ c.len.result request (rw c.in-Some-2.is at c.in_ok-sessions.ensures.some)
    (rw length-map (omega (arith, c.in-Some-2.sessions.ok.0))) (rw c.in_default-4.is at c.in_ok-turns.ensures.none) ask
