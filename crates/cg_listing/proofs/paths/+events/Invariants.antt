use Rattle.std.proofs.Common.{◌≡◌, ◌+◌, ◌-◌, ◌^◌, ◌≤◌, min}
use Rattle.cg_meaning.specs.Tree.{count_all}
use Rattle.cg_model.specs.Node.{items_of, trees_of}
use Rattle.cg_model.proofs.NodeLemmas.{trees_from}
use Rattle.cg_listing.proofs.paths.+events.Given as goal

-- the events so far and those of the members that are left are all, up to the limit of the count
abbrev pub invariant-events_in-loop-place : goal.invariant-events_in-loop-place
invariant-events_in-loop-place l = record {
  counted : min (l.sum + count_all (trees_from (items_of l.members) l.place)) (2 ^ 64 - 1) ≡ min (count_all (trees_of l.members)) (2 ^ 64 - 1);
  fits : l.sum ≤ 2 ^ 64 - 1;
}
