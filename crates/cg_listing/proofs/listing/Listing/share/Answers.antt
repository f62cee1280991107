use Rattle.std.proofs.Common.{◌≡◌, ◌^◌, ◌≤◌, length, sym, ap, ◌∙◌, arith, None}
use Rattle.cg_meaning.specs.Tree.{count_all, root_of}
use Rattle.cg_meaning.specs.Pairs.{factorial, pair_at, span_weight}
use Rattle.cg_meaning.specs.Sums.{product_by}
use Rattle.cg_meaning.specs.Scene.{scene_on}
use Rattle.cg_listing.specs.Listing.{largest_sum}
use Rattle.cg_listing.proofs.PairLemmas.{length-pairs_of}
use Rattle.cg_listing.proofs.ShareLemmas.{share_of-listed, largest_sum-weights}
use Rattle.cg_listing.proofs.listing.Listing.share.Goals as goal

pub span_product-requires : goal.span_product-requires
span_product-requires c =
    let listing = c.args.self.now in
    let events = count_all listing.model.now.top in
    let pairs_are = c.deref.ensures.value ∙ listing.pairs_are in
    let long : length c.deref.result.now ≡ events = ap length pairs_are ∙ length-pairs_of None 0 (root_of listing.model.now) in
    let cells_are = c.cells.ensures.cells in
    let most : factorial listing.grid.now.cells ^ events ≤ largest_sum listing.grid.now.cells events =
    largest_sum-weights listing.grid.now.cells events (omega arith) in
    rw (long, cells_are) (omega (arith, most, listing.is_small))

pub returns : goal.returns
returns c =
    let listing = c.args.self.now in
    share_of-listed (root_of listing.model.now) (scene_on listing.grid.now) listing.held c.args.cells.now c.deref.result.now c.span_product.result
    (sym c.lists.ensures ∙ c.if-not-lists.false) (c.deref.ensures.value ∙ listing.pairs_are)
    (c.span_product.ensures ∙ ap (λ g. product_by (λ pair. span_weight g (pair_at c.args.cells.now pair)) c.deref.result.now) c.cells.ensures.cells)
