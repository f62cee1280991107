use Rattle.std.proofs.Common.{◌∙◌, ap, None, arith}
use Rattle.std.specs.Arc.{arc_value}
use Rattle.cg_message.specs.Parts.{part_at}
use Rattle.cg_message.proofs.SlotLemmas.{part_at-set, part_at-others}
use Rattle.cg_message.proofs.parts.Parts.forget.Goals as goal

pub returns-clause-gone : goal.returns-clause-gone
returns-clause-gone c = part_at-set (λ m. arc_value m) c.self.inside.slots.items c.args.place None (omega arith)

pub returns-clause-others : goal.returns-clause-others
returns-clause-others c = λ other elsewhere.
    part_at-others (λ m. arc_value m) c.self.inside.slots.items c.args.place other None elsewhere ∙ ap (λ parts. part_at parts other) c.self.view_is
