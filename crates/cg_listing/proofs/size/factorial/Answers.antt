use Rattle.std.proofs.Common.{◌≡◌, ◌+◌, ◌*◌, ◌^◌, ◌<◌, ap, ◌∙◌, arith}
use Rattle.cg_meaning.specs.Pairs.{factorial}
use Rattle.cg_listing.proofs.SizeLemmas.{factorial-next, factorial-past}
use Rattle.cg_listing.proofs.size.factorial.Goals as goal

pub loop-done-preserved : goal.loop-done-preserved
loop-done-preserved c =
    let fits : c.loop-done.product * (c.loop-done.done + 1) < 2 ^ 128 = c.in_ok-product.ensures.0 in
    let next : c.in_ok-product.product ≡ c.loop-done.product * (c.loop-done.done + 1) = c.in_ok-product.ensures.1 in
    record {
      product = next ∙ factorial-next c.loop-done.done c.loop-done.product c.loop-done.invariant.product;
      fits = omega (arith, fits, next);
    }

pub returns-in_err-product : goal.returns-in_err-product
returns-in_err-product c =
    rw c.from_residual.ensures (factorial-past c.args.n c.loop-done.done c.loop-done.product c.loop-done.invariant.product c.loop-done-test.true c.in_err-product.ensures)

pub returns : goal.returns
returns c =
    let all : c.loop-done.done ≡ c.args.n = omega arith in
    let whole : c.loop-done.product ≡ factorial c.args.n = c.loop-done.invariant.product ∙ ap factorial all in
    (omega (arith, whole), whole)
