use Rattle.std.proofs.Common.{◌≡◌, drop}
use Rattle.cg_meaning.specs.Tree.{datings_of_all}
use Rattle.cg_meaning.specs.Scene.{is_dated}
use Rattle.cg_listing.proofs.order.is_dated.Given as goal

-- what is left decides
abbrev pub invariant-loop-event : goal.invariant-loop-event
invariant-loop-event l = is_dated l.grid (datings_of_all l.model.top) l.cells ≡ is_dated l.grid (drop l.event (datings_of_all l.model.top)) (drop l.event l.cells)
