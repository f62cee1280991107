use Rattle.std.proofs.Common.{arith, ◌∙◌, pos, ◌+ℤ◌, refl, sym}
use Rattle.std.proofs.lemmas.Int.{ints}
use Rattle.cg_enc.proofs.Norming.{same, norm-right, right_62, right_63}
use Rattle.cg_enc.proofs.product.scaled.Goals as goal

pub returns-then-high : goal.returns-then-high
returns-then-high c =
    c.made.ensures ∙ same _ _ _ _ _ (c.args.exp +ℤ pos 62) refl refl (omega (arith, ints)) ∙
    sym (norm-right c.args.lo c.args.hi 62 c.args.exp (omega (arith, c.requires.least)) (right_62 c.args.hi c.requires.least c.if-high.true))

pub returns-else-high : goal.returns-else-high
returns-else-high c =
    c.made-else-high.ensures ∙ same _ _ _ _ _ (c.args.exp +ℤ pos 63) refl refl (omega (arith, ints)) ∙
    sym (norm-right c.args.lo c.args.hi 63 c.args.exp (omega (arith, c.requires.least)) (right_63 c.args.hi c.requires.most c.if-high.false))
