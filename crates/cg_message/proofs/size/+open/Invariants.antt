use Rattle.std.proofs.Common.{◌≡◌, ◌+◌, ◌≤◌, drop}
use Rattle.cg_part.specs.Elements.{open_in}
use Rattle.cg_recipe.specs.Bounds.{events_among}
use Rattle.cg_message.specs.Element.{all_in}
use Rattle.cg_message.proofs.size.+open.Given as goal

-- the open events so far and those of the elements that are left are all, and few
abbrev pub invariant-open_in-loop-e : goal.invariant-open_in-loop-e
invariant-open_in-loop-e l = record {
  sum : l.sum + open_in (all_in (drop l.e-index l.items)) ≡ open_in (all_in l.items);
  few : l.sum + events_among (all_in (drop l.e-index l.items)) ≤ 100;
}
