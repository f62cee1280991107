use Rattle.std.proofs.Common.{◌≡◌, ℕ, ◌^◌, List, [], ◌∷◌, ◌++◌, ap, ◌∙◌, arith}
use Rattle.cg_meaning.specs.Tree.{count_all, root_of}
use Rattle.cg_meaning.specs.Scene.{scene_on}
use Rattle.cg_meaning.specs.Pairs.{factorial}
use Rattle.cg_listing.specs.Listing.{share_of}
use Rattle.cg_listing.proofs.ShareLemmas.{share_of-le, largest_sum-parts}
use Rattle.cg_listing.proofs.SumLemmas.{sum_behind-next, sum_behind-all, sum_behind-fits, popped-first}
use Rattle.cg_listing.proofs.listing.+sum_of_lists.Goals as goal

pub overflow_add-sum : goal.overflow_add-sum
overflow_add-sum t c =
    let listing = c.args.listing.now in
    let g = listing.grid.now.cells in
    let events = count_all listing.model.now.top in
    let root = root_of listing.model.now in
    let scene = scene_on listing.grid.now in
    let f = λ (cells : List ℕ). share_of root scene listing.held cells in
    let first = c.args.cells.now.items in
    let cell : ℕ = c.loop-cell.cell in
    let pushed : c.push.new.self.items ≡ first ++ cell ∷ [] =
    ◌∙◌ {A = List ℕ} c.in_ok-push.ensures.items (ap (λ cells. cells ++ cell ∷ []) c.loop-cell.invariant.same) in
    let next = sum_behind-next g events f first c.push.new.self.items cell c.loop-cell.sum c.in_ok-sum.field-0 pushed c.in_ok-sum.ensures.sum c.loop-cell.invariant.sum in
    let fits = sum_behind-fits g events (factorial g ^ events) f first cell (omega arith) (omega arith) (λ cells. share_of-le root scene listing.held cells) in
    omega (arith, next, fits, largest_sum-parts g events, listing.is_small)

pub loop-cell-preserved : goal.loop-cell-preserved
loop-cell-preserved t c =
    let listing = c.args.listing.now in
    let f = λ (cells : List ℕ). share_of (root_of listing.model.now) (scene_on listing.grid.now) listing.held cells in
    let cell : ℕ = c.loop-cell.cell in
    let pushed : c.push.new.self.items ≡ c.args.cells.now.items ++ cell ∷ [] =
    ◌∙◌ {A = List ℕ} c.in_ok-push.ensures.items (ap (λ cells. cells ++ cell ∷ []) c.loop-cell.invariant.same) in
    record {
      same = popped-first c.args.cells.now.items c.sum_of_lists.new.cells.items c.pop.new.self.items cell _
          (c.in_ok-sum.ensures.same ∙ pushed) c.sum_of_lists.new.cells.ok.0 c.pop.ensures.rest;
      sum = sum_behind-next listing.grid.now.cells (count_all listing.model.now.top) f c.args.cells.now.items c.push.new.self.items cell
          c.loop-cell.sum c.in_ok-sum.field-0 pushed c.in_ok-sum.ensures.sum c.loop-cell.invariant.sum;
    }

pub returns-clause-sum : goal.returns-clause-sum
returns-clause-sum t c =
    let listing = c.args.listing.now in
    let f = λ (cells : List ℕ). share_of (root_of listing.model.now) (scene_on listing.grid.now) listing.held cells in
    sum_behind-all listing.grid.now.cells (count_all listing.model.now.top) f c.args.cells.now.items c.loop-cell.cell c.loop-cell.sum
    (omega arith) (omega arith) c.loop-cell.invariant.sum
