use Rattle.cg_gen.proofs.TextLemmas.{values}
use Rattle.cg_gen.proofs.model.push_values.Goals as goal

pub returns : goal.returns
returns c = values c.args.text.now.items c.push_number.new.text.items c.push.new.self.items c.push_number-2.new.text.items c.args.age c.args.error c.in_ok-push_number.ensures c.in_ok-push.ensures.items c.in_ok-push_number-2.ensures
