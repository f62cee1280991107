use Rattle.std.proofs.Common.{arith, ◌<◌, ◌∙◌, sym, inl, inr, ◌+ℤ◌}
use Rattle.std.proofs.lemmas.Int.{ints}
use Rattle.cg_enc.proofs.Norming.{norm-same}
use Rattle.cg_enc.proofs.Products.{times-zero_left, times-zero_right, times-full}
use Rattle.cg_enc.proofs.product.product.Goals as goal

pub returns-then-hi-eq0-clause-value : goal.returns-then-hi-eq0-clause-value
returns-then-hi-eq0-clause-value c =
    elim c.then-hi-eq0.either [
      | inl z ↦ c.zero.ensures.value ∙ sym (times-zero_left c.args.a.now c.args.b.now (sym c.hi.ensures.value ∙ z))
      | inr z ↦ c.zero.ensures.value ∙ sym (times-zero_right c.args.a.now c.args.b.now (sym c.hi-high.ensures.value ∙ z.1))
    ]

pub returns-clause-value : goal.returns-clause-value
returns-clause-value c =
    let left_full : 0 < c.args.a.now.hi = omega (arith, c.hi.ensures.value, c.if-hi-eq0.false) in
    let right_full : 0 < c.args.b.now.hi = omega (arith, c.hi-high.ensures.value, c.if-high-eq0.false) in
    c.scaled.ensures ∙ norm-same _ _ _ _ _ (c.args.a.now.exp +ℤ c.args.b.now.exp) (cc) (cc) (omega (arith, ints, c.exp.ensures.value, c.exp-2.ensures.value)) ∙
    sym (times-full c.args.a.now c.args.b.now left_full right_full)
