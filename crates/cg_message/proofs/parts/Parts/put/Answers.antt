use Rattle.std.proofs.Common.{◌∙◌, Some, arith}
use Rattle.std.specs.Arc.{arc_value}
use Rattle.cg_message.proofs.SlotLemmas.{part_at-set, part_at-others}
use Rattle.cg_message.proofs.parts.Parts.put.Goals as goal

pub returns-clause-put : goal.returns-clause-put
returns-clause-put c = part_at-set (λ m. arc_value m) c.loop-self.self-inside.slots.items c.args.place (Some c.args.m) (omega arith)

pub returns-clause-others : goal.returns-clause-others
returns-clause-others c = λ other elsewhere.
    part_at-others (λ m. arc_value m) c.loop-self.self-inside.slots.items c.args.place other (Some c.args.m) elsewhere ∙ c.loop-self.invariant other
