use Rattle.std.proofs.Common.{◌≡◌, drop}
use Rattle.cg_part.specs.Elements.{has_among}
use Rattle.cg_message.specs.Element.{all_in}
use Rattle.cg_message.proofs.size.+has.Given as goal

-- those so far don't have it
abbrev pub invariant-has_among-loop-e : goal.invariant-has_among-loop-e
invariant-has_among-loop-e l = has_among l.event (all_in l.items) ≡ has_among l.event (all_in (drop l.e-index l.items))
