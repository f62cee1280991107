use Rattle.std.proofs.Common.{◌≡◌, ◌-◌, length}
use Rattle.cg_meaning.specs.Tree.{count_all, root_of}
use Rattle.cg_meaning.specs.Scene.{scene_on}
use Rattle.cg_meaning.specs.Sums.{sum_below}
use Rattle.cg_listing.specs.Listing.{share_of}
use Rattle.cg_listing.proofs.SumLemmas.{sum_behind}
use Rattle.cg_listing.proofs.listing.+sum_of_lists.Given as goal

abbrev pub decreases-sum_of_lists : goal.decreases-sum_of_lists
decreases-sum_of_lists l = count_all l.listing.now.model.now.top - length l.cells.now.items

-- the lists that have one of the cells so far behind the first ones
abbrev pub invariant-loop-cell : goal.invariant-loop-cell
invariant-loop-cell l = record {
  same : l.cells.items ≡ l.initial.cells.items;
  sum : l.sum ≡ sum_below l.cell
      (sum_behind l.listing.grid.now.cells (count_all l.listing.model.now.top)
      (λ cells. share_of (root_of l.listing.model.now) (scene_on l.listing.grid.now) l.listing.held cells) l.initial.cells.items);
}
