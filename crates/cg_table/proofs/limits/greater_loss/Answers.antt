use Rattle.std.proofs.Common.{arith, ◌≡◌, ◌<◌, ◌≤◌, ◌+◌, ◌-◌, ◌*◌, ◌^◌, ◌/◌, ◌%◌, ◌∙◌, ap, refl, ℕ}
use Rattle.std.proofs.Math.Nat.{mul-le-mul_right, mod-eq_of_lt}
use Rattle.cg_enc.specs.Rounding.{ceil_div}
use Rattle.cg_table.proofs.LossLemmas.{no_greater_loss, greater_loss}
use Rattle.cg_table.proofs.limits.greater_loss.Goals as goal

-- what the code shifts doesn't wrap
unwrapped : (l h : ℕ) → h < 2 ^ 63 → (h - l) * 2 ^ 62 % 2 ^ 128 ≡ (h - l) * 2 ^ 62
unwrapped l h small = let le : h - l ≤ 2 ^ 63 = omega arith in mod-eq_of_lt (omega (arith, mul-le-mul_right (2 ^ 62) le))

quotient : (n m d d' : ℕ) → n ≡ m → d ≡ d' → (n + (d - 1)) / d ≡ ceil_div m d'
quotient n m d d' e e' = rw (e, e') refl

pub returns-then-apart-k-clause-value : goal.returns-then-apart-k-clause-value
returns-then-apart-k-clause-value c =
    let whole = unwrapped c.lo.result c.hi.result (omega (arith, c.hi.ensures.valid.most)) in
    no_greater_loss c.args.e.now c.args.k (omega (arith, c.if-apart-k.true, whole, ap (λ (x : ℕ). c.args.k * x) c.hi-hi.ensures.value))

pub returns-clause-value : goal.returns-clause-value
returns-clause-value c =
    let whole = unwrapped c.lo.result c.hi.result (omega (arith, c.hi.ensures.valid.most)) in
    let apart : (c.hi.result - c.lo.result) * 2 ^ 62 % 2 ^ 128 ≡ (c.args.e.now.hi - c.args.e.now.lo) * 2 ^ 62 = omega (arith, whole) in
    quotient _ _ _ _ apart c.hi-hi.ensures.value ∙
    greater_loss c.args.e.now c.args.k (omega (arith, c.if-apart-k.false, whole, ap (λ (x : ℕ). c.args.k * x) c.hi-hi.ensures.value))
