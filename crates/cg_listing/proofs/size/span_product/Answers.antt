use Rattle.std.proofs.Common.{◌+◌, ◌*◌, length, ap, ap₂, sym, ◌∙◌, arith, None}
use Rattle.cg_meaning.specs.Pairs.{factorial, pair_at, span_weight}
use Rattle.cg_listing.proofs.SizeLemmas.{factorial-some, base-fits, product_by-next, product_by-fits}
use Rattle.cg_listing.proofs.size.span_product.Goals as goal

pub span_weight-product-requires : goal.span_weight-product-requires
span_weight-product-requires c = omega (arith, base-fits (factorial c.args.grid_cells) (length c.args.pairs.now) (factorial-some c.args.grid_cells) (omega arith))

pub overflow_mul-product : goal.overflow_mul-product
overflow_mul-product c =
    let pairs = c.args.pairs.now in
    let i = c.loop-pair.pair-index in
    let next = product_by-next (λ pair. span_weight c.args.grid_cells (pair_at c.args.cells.now pair)) pairs i None c.loop-pair-test.true in
    let same = ap₂ (λ m n. m * n) c.loop-pair.invariant (c.span_weight-product.ensures ∙ ap (λ pair. span_weight c.args.grid_cells pair) c.pair_at.ensures) in
    omega (arith, next, same, product_by-fits c.args.grid_cells c.args.cells.now pairs (i + 1))

pub loop-pair-preserved : goal.loop-pair-preserved
loop-pair-preserved c =
    ap₂ (λ m n. m * n) c.loop-pair.invariant (c.span_weight-product.ensures ∙ ap (λ pair. span_weight c.args.grid_cells pair) c.pair_at.ensures)
    ∙ sym (product_by-next (λ pair. span_weight c.args.grid_cells (pair_at c.args.cells.now pair)) c.args.pairs.now c.loop-pair.pair-index None c.loop-pair-test.true)
