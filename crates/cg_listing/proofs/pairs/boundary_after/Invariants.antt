use Rattle.std.proofs.Common.{◌≡◌, ◌+◌, ◌-◌, ◌^◌, ◌≤◌}
use Rattle.cg_meaning.specs.Tree.{count_all}
use Rattle.cg_meaning.specs.Pairs.{boundary_after}
use Rattle.cg_model.specs.Member.{trees_from}
use Rattle.cg_listing.proofs.pairs.boundary_after.Given as goal

-- what is left has the same first Boundary
abbrev pub invariant-loop-place : goal.invariant-loop-place
invariant-loop-place l = record {
  fits : l.next + count_all (trees_from l.members l.place) ≤ 2 ^ 64 - 1;
  same : boundary_after l.number (trees_from l.members l.from) ≡ boundary_after l.next (trees_from l.members l.place);
}
