-- Some weights are admitted: for each great multiplier there is a whole number between the two bounds.
use Rattle.std.proofs.Common.{◌≡◌, ℕ, zero, suc, ◌+◌, ◌-◌, ◌*◌, ◌^◌, ◌<◌, ◌≤◌, inl, inr, arith, refl, Option, Some, None}
use Rattle.std.proofs.Math.Nat.{mul-le-mul, mul-le-mul_right, mul-le-mul_left, le_of_mul-le-mul_right, mul-pos}
use Rattle.std.proofs.lemmas.Bool.{cases_eq, cases_lt}
use Rattle.cg_enc.specs.Rounding.{ceil_div, root_above}
use Rattle.cg_enc.proofs.Divisions.{ceil_above, ceil_near}
use Rattle.cg_enc.proofs.Roots.{IsRootAbove-root_above}
use Rattle.cg_meaning.specs.Taylor.{IsHalving, bound_top, bound_bottom}
use Rattle.cg_meaning.specs.Weights.{Distance, IsWeight, IsWeightAt}
use Rattle.cg_meaning.specs.Sums.{sum_below}
use Rattle.cg_exp.specs.Exponential.{halvings}
use Rattle.cg_exp.proofs.Halving.{halvings-IsHalving}
use Rattle.cg_exp.proofs.Recipes.{IsArgument, exp_neg-IsExpNeg}
use Rattle.cg_like.proofs.LikelihoodLemmas.{bottom-positive}
use Rattle.cg_like.specs.Distance.{IsMeasured}

-- the least number whose square is at least (2 ^ 64 - 1) m ^ 2 top / (2 ^ 64 bottom)
unfoldable pub least_weight : ℕ → ℕ → ℕ → ℕ
least_weight m top bottom = root_above (ceil_div ((2 ^ 64 - 1) * (m * m) * top) (2 ^ 64 * bottom))

-- w is the least number whose square isn't below n
record IsLeastRoot (n w : ℕ) : Type 0 where
  square : n ≤ w * w
  least : (s : ℕ) → n ≤ s * s → w ≤ s

-- one unit less is too little
unit_less : (n w a b : ℕ) → 0 < w → IsLeastRoot n w → n * b < a + b → (w - 1) * (w - 1) * b < a
unit_less n w a b some is near =
    elim (cases_lt ((w - 1) * (w - 1)) n) [
      | inr le ↦ absurd (omega (arith, some, is.least (w - 1) le))
      | inl less ↦
          let more : (w - 1) * (w - 1) + 1 ≤ n = omega arith in
          omega (arith, mul-le-mul_right b more, near)
    ]

-- the number before it is below m top
small_root : (x m top bottom : ℕ) → 0 < top → 0 < bottom → x * x * (2 ^ 64 * bottom) < (2 ^ 64 - 1) * (m * m) * top → x < m * top
small_root x m top bottom st sb less =
    elim (cases_lt x (m * top)) [
      | inl lt ↦ lt
      | inr le ↦
          let squares : (m * top) * (m * top) ≤ x * x = mul-le-mul le le in
          let one : 1 * (x * x) ≤ bottom * (x * x) = mul-le-mul_right (x * x) sb in
          let whole : 1 * (m * m * top) ≤ top * (m * m * top) = mul-le-mul_right (m * m * top) st in
          absurd (omega (arith, less, squares, one, whole))
    ]

-- its square doesn't pass the upper bound, where the multiplier is great
room : (x m top bottom top' bottom' : ℕ) → 0 < bottom → x < m * top → 2 ^ 64 * bottom ≤ m → top * bottom' ≤ top' * bottom
    → x * x * (2 ^ 64 * bottom) < (2 ^ 64 - 1) * (m * m) * top → 2 ^ 64 * ((x + 1) * (x + 1)) * bottom' ≤ (2 ^ 64 + 1) * (m * m) * top'
room x m top bottom top' bottom' sb small great ordered less =
    let units : 2 * x + 1 ≤ 2 * (m * top) = omega arith in
    let wide : 2 ^ 64 * bottom * (2 * x + 1) ≤ m * (2 * (m * top)) = mul-le-mul great units in
    let first : x * x * (2 ^ 64 * bottom) ≤ (2 ^ 64 - 1) * (m * m) * top = omega arith in
    let big : (2 ^ 64 * ((x + 1) * (x + 1)) * bottom') * bottom ≤ ((2 ^ 64 + 1) * (m * m) * top') * bottom =
    omega (arith, mul-le-mul_right bottom' first, mul-le-mul_right bottom' wide, mul-le-mul_left ((2 ^ 64 + 1) * (m * m)) ordered) in
    le_of_mul-le-mul_right big sb

-- what the least weight is
record IsBetween (m w top bottom top' bottom' : ℕ) : Type 0 where
  lower : (2 ^ 64 - 1) * (m * m) * top ≤ 2 ^ 64 * (w * w) * bottom
  upper : 2 ^ 64 * (w * w) * bottom' ≤ (2 ^ 64 + 1) * (m * m) * top'

between_at : (n m w top bottom top' bottom' : ℕ) → 0 < top → 0 < bottom → 2 ^ 64 * bottom ≤ m → top * bottom' ≤ top' * bottom → IsLeastRoot n w
    → (2 ^ 64 - 1) * (m * m) * top ≤ n * (2 ^ 64 * bottom) → n * (2 ^ 64 * bottom) < (2 ^ 64 - 1) * (m * m) * top + 2 ^ 64 * bottom → IsBetween m w top bottom top' bottom'
between_at n m w top bottom top' bottom' st sb great ordered is above near = record {
  lower = omega (arith, above, mul-le-mul_right (2 ^ 64 * bottom) is.square);
  upper = elim (cases_eq w 0) [
    | inl z ↦ rw z (omega arith)
    | inr some ↦
        let positive : 0 < w = omega arith in
        let less = unit_less n w ((2 ^ 64 - 1) * (m * m) * top) (2 ^ 64 * bottom) positive is near in
        let e : w ≡ w - 1 + 1 = omega arith in
        rw e (room (w - 1) m top bottom top' bottom' sb (small_root (w - 1) m top bottom st sb less) great ordered less)
  ];
}

least_weight-IsBetween : (m top bottom top' bottom' : ℕ) → 0 < top → 0 < bottom → 2 ^ 64 * bottom ≤ m → top * bottom' ≤ top' * bottom
    → IsBetween m (least_weight m top bottom) top bottom top' bottom'
unfolding least_weight
least_weight-IsBetween m top bottom top' bottom' st sb great ordered =
    let some : 0 < 2 ^ 64 * bottom = omega arith in
    let n : ℕ = ceil_div ((2 ^ 64 - 1) * (m * m) * top) (2 ^ 64 * bottom) in
    between_at n m (root_above n) top bottom top' bottom' st sb great ordered (record { square = (IsRootAbove-root_above n).square; least = (IsRootAbove-root_above n).least })
    (ceil_above ((2 ^ 64 - 1) * (m * m) * top) (2 ^ 64 * bottom) some) (ceil_near ((2 ^ 64 - 1) * (m * m) * top) (2 ^ 64 * bottom) some)

-- ---- at a distance

unfoldable pub enough : Distance → ℕ
enough d = 2 ^ 64 * (d.q * bound_bottom d.q (halvings d.p d.q) 17)

unfoldable pub weight_for : ℕ → Distance → ℕ
weight_for m d = least_weight m (bound_top d.p d.q (halvings d.p d.q) 17 * (d.gap * d.gap)) (d.q * bound_bottom d.q (halvings d.p d.q) 17)

sides_ordered : (a b c d g q : ℕ) → a * d ≤ c * b → (a * g) * (q * d) ≤ (c * g) * (q * b)
sides_ordered a b c d g q le = omega (arith, mul-le-mul_right (g * q) le)

is_weight : (m w : ℕ) (d : Distance) (h a b c e : ℕ) → IsHalving d.p d.q h → a ≡ bound_top d.p d.q h 17 → b ≡ bound_bottom d.q h 17 → c ≡ bound_top d.p d.q h 16 → e ≡ bound_bottom d.q h 16
    → IsBetween m w (a * (d.gap * d.gap)) (d.q * b) (c * (d.gap * d.gap)) (d.q * e) → IsWeight m w d
is_weight m w d h a b c e halved ea eb ec ee is = record {
  halvings = h;
  halved = halved;
  lower = rw (← ea, ← eb) (lower_side m w d.q b a (d.gap * d.gap) is.lower);
  upper = rw (← ec, ← ee) (upper_side m w d.q e c (d.gap * d.gap) is.upper);
}
  where
    lower_side : (m w q b a g : ℕ) → (2 ^ 64 - 1) * (m * m) * (a * g) ≤ 2 ^ 64 * (w * w) * (q * b) → (2 ^ 64 - 1) * (m * m) * a * g ≤ 2 ^ 64 * (w * w) * q * b
    lower_side m w q b a g h = omega (arith, h)

    upper_side : (m w q e c g : ℕ) → 2 ^ 64 * (w * w) * (q * e) ≤ (2 ^ 64 + 1) * (m * m) * (c * g) → 2 ^ 64 * (w * w) * q * e ≤ (2 ^ 64 + 1) * (m * m) * c * g
    upper_side m w q e c g h = omega (arith, h)

pub weight_for-IsWeight : (m : ℕ) (d : Distance) → IsMeasured d → enough d ≤ m → IsWeight m (weight_for m d) d
unfolding weight_for enough
weight_for-IsWeight m d measured great =
    let h : ℕ = halvings d.p d.q in
    let halved = halvings-IsHalving d.p d.q measured.reach in
    let r : IsArgument d.p d.q = record { some = measured.some; reach = measured.reach } in
    let e = exp_neg-IsExpNeg d.p d.q h r halved in
    let a : ℕ = bound_top d.p d.q h 17 in
    let b : ℕ = bound_bottom d.q h 17 in
    let square : 0 < d.gap * d.gap = mul-pos measured.gap_low measured.gap_low in
    is_weight m (least_weight m (a * (d.gap * d.gap)) (d.q * b)) d h a b (bound_top d.p d.q h 16) (bound_bottom d.q h 16) halved refl refl refl refl
    (least_weight-IsBetween m (a * (d.gap * d.gap)) (d.q * b) (bound_top d.p d.q h 16 * (d.gap * d.gap)) (d.q * bound_bottom d.q h 16)
    (mul-pos e.some square) (mul-pos measured.some (bottom-positive d.q h 17 measured.some)) great
    (sides_ordered a b (bound_top d.p d.q h 16) (bound_bottom d.q h 16) (d.gap * d.gap) d.q e.ordered))

-- ---- at all cells

abbrev pub enough_at : Option Distance → ℕ
enough_at None = 0
enough_at (Some d) = enough d

abbrev pub weight_for_at : ℕ → Option Distance → ℕ
weight_for_at m None = 0
weight_for_at m (Some d) = weight_for m d

abbrev pub IsMeasuredAt : Option Distance → Type 0
IsMeasuredAt None = ⊥
IsMeasuredAt (Some d) = IsMeasured d

pub weight_for_at-IsWeightAt : (m : ℕ) (found : Option Distance) → IsMeasuredAt found → enough_at found ≤ m → IsWeightAt m (weight_for_at m found) found
weight_for_at-IsWeightAt m None measured great = tt
weight_for_at-IsWeightAt m (Some d) measured great = weight_for-IsWeight m d measured great

-- one multiplier serves all cells
pub each_below_sum : (n : ℕ) (f : ℕ → ℕ) (k : ℕ) → k < n → f k ≤ sum_below n f
each_below_sum zero f k less = absurd (omega arith)
each_below_sum (suc n) f k less =
    elim (cases_lt k n) [
      | inl lt ↦ omega (arith, each_below_sum n f k lt)
      | inr le ↦ let e : k ≡ n = omega arith in rw e (omega arith)
    ]
