use Rattle.std.proofs.Common.{◌≡◌, true, false, take, drop}
use Rattle.cg_part.specs.Elements.{has_among}
use Rattle.cg_message.specs.Element.{all_in}
use Rattle.cg_message.proofs.size.place_of.Given as goal

-- those so far don't have it, and one of the others does
abbrev pub invariant-loop-place : goal.invariant-loop-place
invariant-loop-place l = record {
  before : has_among l.event (all_in (take l.place l.items)) ≡ false;
  later : has_among l.event (all_in (drop l.place l.items)) ≡ true;
}
