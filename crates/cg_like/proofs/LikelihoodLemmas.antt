-- The likelihood at a distance: the enclosure encloses every weight there, and loses and reaches little.
use Rattle.std.proofs.Common.{◌≡◌, ℕ, ◌+◌, ◌-◌, ◌*◌, ◌^◌, ◌<◌, ◌≤◌, ℤ, pos, ◌+ℤ◌, ◌-ℤ◌, inl, inr, arith, refl}
use Rattle.std.proofs.Math.Nat.{mul-le-mul, mul-le-mul_right, le_of_mul-le-mul_right, mul-pos, one-le-pow}
use Rattle.std.proofs.lemmas.Bool.{cases_eq}
use Rattle.std.proofs.lemmas.Nat.{pow_pos}
use borrow.Author.Differences.{up, down}
use Rattle.cg_enc.specs.Enclosure.{Enclosure, IsEnclosure, IsExponent, IsFirm, Encloses, HasLoss}
use Rattle.cg_enc.specs.Rounding.{of_whole, times, over, root, margin, root_below, root_above, root_places, half}
use Rattle.cg_enc.proofs.Powers.{pow_le}
use Rattle.cg_enc.proofs.Products.{Factors, times-full, times-IsProduct, product_high}
use Rattle.cg_enc.proofs.Quotients.{over-IsQuotient}
use Rattle.cg_enc.proofs.Roots.{Ends, IsRootBelow-root_below, IsRootAbove-root_above, ends_ordered, upper_full, upper_most, root-full, root-IsRoot}
use Rattle.cg_enc.proofs.Margins.{margin-value, margin-IsMargin}
use Rattle.cg_enc.proofs.Widening.{norm-IsEnclosure, norm-positive}
use Rattle.cg_enc.proofs.WholeNumbers.{of_whole-positive, of_whole_encloses, of_whole_exact, of_whole_loss, of_whole-exponent}
use Rattle.cg_meaning.specs.Taylor.{bound_top, bound_bottom, denominator}
use Rattle.cg_meaning.specs.Weights.{Distance, IsWeight}
use Rattle.cg_exp.specs.Exponential.{halvings, reduced_below, reduced_above, start, squared, halved, exp_neg_of}
use Rattle.cg_exp.proofs.Halving.{halving_few, halvings-IsHalving}
use Rattle.cg_exp.proofs.Reductions.{reduced-IsReduced}
use Rattle.cg_exp.proofs.Recipes.{IsArgument, exp_neg-IsExpNeg}
use Rattle.cg_exp.proofs.Squarings.{IsFull, squared-exponent, near-IsExponent}
use Rattle.cg_exp.proofs.Starting.{start-Starts, denominator-positive}
use Rattle.cg_like.specs.Likelihood.{likelihood_of}
use Rattle.cg_like.specs.Distance.{IsMeasured}
use Rattle.cg_like.proofs.RootLemmas.{IsNearSquare, root_encloses_near}

-- ---- each step is an enclosure that isn't zero

pub whole-IsFull : (n : ℕ) → 0 < n → n < 2 ^ 128 → IsFull (of_whole n)
whole-IsFull n some fits = rw (of_whole-positive n some) (record {
  valid = norm-IsEnclosure n n (pos 0) (omega arith) some fits;
  full = norm-positive n n (pos 0) (omega arith) some fits;
})

times-IsFull : (a b : Enclosure) → IsFull a → IsFull b → IsFull (times a b)
times-IsFull a b va vb =
    let f : Factors a b = record { left = va.valid; right = vb.valid; left_full = va.full; right_full = vb.full } in
    let ordered : a.lo * b.lo ≤ a.hi * b.hi = mul-le-mul va.valid.ordered vb.valid.ordered in
    let some : 0 < a.hi * b.hi = mul-pos va.full vb.full in
    let fits : a.hi * b.hi < 2 ^ 128 = omega (arith, product_high a b f) in
    rw (times-full a b va.full vb.full) (record {
      valid = norm-IsEnclosure (a.lo * b.lo) (a.hi * b.hi) (a.exp +ℤ b.exp) ordered some fits;
      full = norm-positive (a.lo * b.lo) (a.hi * b.hi) (a.exp +ℤ b.exp) ordered some fits;
    })

over-IsFull : (a b : Enclosure) → IsFull a → IsEnclosure b → IsFirm b → IsFull (over a b)
over-IsFull a b va vb firm =
    let r = over-IsQuotient a b va.valid vb firm in
    record {
      valid = r.valid;
      full = elim (cases_eq (over a b).hi 0) [ inl z ↦ absurd (omega (arith, va.full, r.zero.0 z)) | inr n ↦ omega arith ];
    }

root-IsFull : (a : Enclosure) → IsFull a → IsFull (root a)
root-IsFull a v =
    let t : ℕ = root_places a.exp in
    let low : ℕ = root_below (a.lo * 2 ^ t) in
    let high : ℕ = root_above (a.hi * 2 ^ t) in
    let h : Ends a t low high = record {
      valid = v.valid;
      full = v.full;
      places = refl;
      lower = IsRootBelow-root_below (a.lo * 2 ^ t);
      upper = IsRootAbove-root_above (a.hi * 2 ^ t);
    } in
    let le = ends_ordered a t low high h in
    let some : 0 < high = omega (arith, upper_full a t low high h) in
    let fits : high < 2 ^ 128 = omega (arith, upper_most a t low high h) in
    rw (root-full a v.full) (record {
      valid = norm-IsEnclosure low high (half (a.exp -ℤ pos t)) le some fits;
      full = norm-positive low high (half (a.exp -ℤ pos t)) le some fits;
    })

margin-IsFull : (a : Enclosure) → IsFull a → IsFull (margin a)
margin-IsFull a v =
    let ordered : a.lo - 1 ≤ a.hi + 1 = omega (arith, v.valid.ordered) in
    let fits : a.hi + 1 < 2 ^ 128 = omega (arith, v.valid.most) in
    rw (margin-value a v.full) (record {
      valid = norm-IsEnclosure (a.lo - 1) (a.hi + 1) a.exp ordered (omega arith) fits;
      full = norm-positive (a.lo - 1) (a.hi + 1) a.exp ordered (omega arith) fits;
    })

little_loss : (lo hi : ℕ) → 2 ^ 62 ≤ hi → (hi - lo) * 2 ^ 62 ≤ 1 * hi → hi < 2 ^ 63 → 1 ≤ lo
little_loss lo hi full loss most = omega arith

whole-firm : (n : ℕ) → 0 < n → n < 2 ^ 128 → IsFirm (of_whole n)
whole-firm n some fits =
    let v = whole-IsFull n some fits in
    little_loss (of_whole n).lo (of_whole n).hi (v.valid.least v.full) (of_whole_loss n fits) v.valid.most

-- ---- the steps

abbrev scaled : Distance → Enclosure
scaled d = times (exp_neg_of d.p d.q) (of_whole (d.gap * d.gap))

abbrev squared_weight : Distance → Enclosure
squared_weight d = over (scaled d) (of_whole d.q)

likelihood-is : (d : Distance) → likelihood_of d ≡ margin (root (squared_weight d))
unfolding likelihood_of
likelihood-is d = refl

in_range : (d : Distance) → IsMeasured d → IsArgument d.p d.q
in_range d m = record { some = m.some; reach = m.reach }

-- the exponent of e^-z stands within 2 ^ 30 and a little
exp_neg-near : (p q : ℕ) → IsArgument p q → IsExponent (2 ^ 30 + 62) (exp_neg_of p q).exp
unfolding halved
exp_neg-near p q r =
    let h : ℕ = halvings p q in
    let v = halvings-IsHalving p q r.reach in
    let few = halving_few p q h r.reach v in
    let some : 0 < q * 2 ^ h = mul-pos r.some (pow_pos h) in
    let small : p ≤ q * 2 ^ h = omega (arith, v.small) in
    let s = start-Starts p (q * 2 ^ h) (reduced_below p q h) (reduced_above p q h) some small (reduced-IsReduced p q h r.some v.small) in
    let a : Enclosure = start (reduced_below p q h) (reduced_above p q h) in
    near-IsExponent (squared a h).exp (2 ^ h) (2 ^ 30 + 62) (omega (arith, pow_le h 30 few)) (squared-exponent a h s.full s.exponent)

-- what is known of an enclosure at a cell
pub record IsSmall (a : Enclosure) : Type 0 where
  pub valid : IsEnclosure a
  pub loss : HasLoss a (9 * 2 ^ 30 + 16)
  pub exponent : IsExponent (2 ^ 31) a.exp

pub more_loss : (a : Enclosure) (k j : ℕ) → k ≤ j → HasLoss a k → HasLoss a j
more_loss a k j le h = omega (arith, h, mul-le-mul_right a.hi le)

pub more_exponent : (e : ℤ) (m n : ℕ) → m ≤ n → IsExponent m e → IsExponent n e
more_exponent e m n le h = (omega (arith, h), omega (arith, h))

gap_square : (gap : ℕ) → 1 ≤ gap → gap ≤ 1000 → (0 < gap * gap) × (gap * gap < 2 ^ 63)
gap_square gap low high = (mul-pos low low, omega (arith, mul-le-mul high high))

record Steps (d : Distance) : Type 0 where
  power : IsFull (exp_neg_of d.p d.q)
  gap : IsFull (of_whole (d.gap * d.gap))
  variance : IsFull (of_whole d.q)
  firm : IsFirm (of_whole d.q)
  product : IsFull (scaled d)
  quotient : IsFull (squared_weight d)
  root : IsFull (root (squared_weight d))

steps : (d : Distance) → IsMeasured d → Steps d
steps d m =
    let e = (exp_neg-IsExpNeg d.p d.q (halvings d.p d.q) (in_range d m) (halvings-IsHalving d.p d.q m.reach)).full in
    let s = gap_square d.gap m.gap_low m.gap_high in
    let fits : d.q < 2 ^ 128 = omega (arith, m.fits) in
    let g = whole-IsFull (d.gap * d.gap) s.0 (omega (arith, s.1)) in
    let v = whole-IsFull d.q m.some fits in
    let f = whole-firm d.q m.some fits in
    let p = times-IsFull (exp_neg_of d.p d.q) (of_whole (d.gap * d.gap)) e g in
    let q = over-IsFull (scaled d) (of_whole d.q) p v.valid f in
    record { power = e; gap = g; variance = v; firm = f; product = p; quotient = q; root = root-IsFull (squared_weight d) q }

pub likelihood-IsSmall : (d : Distance) → IsMeasured d → IsSmall (likelihood_of d)
likelihood-IsSmall d m =
    let s = steps d m in
    let h : ℕ = halvings d.p d.q in
    let v = halvings-IsHalving d.p d.q m.reach in
    let e = exp_neg-IsExpNeg d.p d.q h (in_range d m) v in
    let fits : d.q < 2 ^ 128 = omega (arith, m.fits) in
    let square = gap_square d.gap m.gap_low m.gap_high in
    let wide : d.gap * d.gap < 2 ^ 128 = omega (arith, square.1) in
    let product = times-IsProduct (exp_neg_of d.p d.q) (of_whole (d.gap * d.gap)) s.power.valid s.gap.valid in
    let quotient = over-IsQuotient (scaled d) (of_whole d.q) s.product.valid s.variance.valid s.firm in
    let rooted = root-IsRoot (squared_weight d) s.quotient.valid in
    let wider = margin-IsMargin (root (squared_weight d)) s.root.valid in
    let power_loss : HasLoss (exp_neg_of d.p d.q) (9 * 2 ^ 30) = more_loss (exp_neg_of d.p d.q) (9 * 2 ^ h) (9 * 2 ^ 30) (omega (arith, pow_le h 30 e.few)) e.loss in
    let product_loss = product.loss (9 * 2 ^ 30) 0 power_loss (of_whole_exact (d.gap * d.gap) square.1) in
    let quotient_loss = quotient.loss (9 * 2 ^ 30 + 0 + 3) 1 product_loss (of_whole_loss d.q fits) in
    let loss = wider.loss (9 * 2 ^ 30 + 0 + 3 + 1 + 3 + 3) (rooted.loss (9 * 2 ^ 30 + 0 + 3 + 1 + 3) quotient_loss) in
    let product_exponent = product.exponent (2 ^ 30 + 62) 66 (exp_neg-near d.p d.q (in_range d m)) (of_whole-exponent (d.gap * d.gap) wide) in
    let quotient_exponent = quotient.exponent (2 ^ 30 + 62 + 66 + 63) 66 product_exponent (of_whole-exponent d.q fits) in
    let exponent = wider.exponent (2 ^ 30 + 62 + 66 + 63 + 66 + 63 + 31) (rooted.exponent (2 ^ 30 + 62 + 66 + 63 + 66 + 63) quotient_exponent) in
    rw (likelihood-is d) (record {
      valid = (margin-IsFull (root (squared_weight d)) s.root).valid;
      loss = more_loss (margin (root (squared_weight d))) (9 * 2 ^ 30 + 0 + 3 + 1 + 3 + 3 + 3) (9 * 2 ^ 30 + 16) (omega arith) loss;
      exponent = more_exponent (margin (root (squared_weight d))).exp (2 ^ 30 + 62 + 66 + 63 + 66 + 63 + 31 + 1) (2 ^ 31) (omega arith) exponent;
    })

-- ---- what it encloses

-- n g / (d q) is enclosed, and the square of w / m is within one part in 2 ^ 64 of it
side_below : (lo p c n d g q w m : ℕ) → 0 < d * q → lo * p * (d * 1 * q) ≤ n * g * 1 * c
    → (2 ^ 64 - 1) * (m * m) * n * g ≤ 2 ^ 64 * (w * w) * q * d → (2 ^ 64 - 1) * (lo * p * (m * m)) ≤ 2 ^ 64 * (w * w * c)
side_below lo p c n d g q w m some below lower =
    let big : ((2 ^ 64 - 1) * (lo * p * (m * m))) * (d * q) ≤ (2 ^ 64 * (w * w * c)) * (d * q) =
    omega (arith, mul-le-mul_right ((2 ^ 64 - 1) * (m * m)) below, mul-le-mul_right c lower) in
    le_of_mul-le-mul_right big some

side_above : (hi p c n d g q w m : ℕ) → 0 < d * q → n * g * 1 * c ≤ hi * p * (d * 1 * q)
    → 2 ^ 64 * (w * w) * q * d ≤ (2 ^ 64 + 1) * (m * m) * n * g → 2 ^ 64 * (w * w * c) ≤ (2 ^ 64 + 1) * (hi * p * (m * m))
side_above hi p c n d g q w m some above upper =
    let big : (2 ^ 64 * (w * w * c)) * (d * q) ≤ ((2 ^ 64 + 1) * (hi * p * (m * m))) * (d * q) =
    omega (arith, mul-le-mul_right ((2 ^ 64 + 1) * (m * m)) above, mul-le-mul_right c upper) in
    le_of_mul-le-mul_right big some

near_square : (a : Enclosure) (n d n' d' g q w m : ℕ) → 0 < d * q → 0 < d' * q → Encloses a (n * g * 1) (d * 1 * q) → Encloses a (n' * g * 1) (d' * 1 * q)
    → (2 ^ 64 - 1) * (m * m) * n * g ≤ 2 ^ 64 * (w * w) * q * d → 2 ^ 64 * (w * w) * q * d' ≤ (2 ^ 64 + 1) * (m * m) * n' * g → IsNearSquare a w m
near_square a n d n' d' g q w m some some' low high lower upper = record {
  below = side_below a.lo (2 ^ up a.exp) (2 ^ down a.exp) n d g q w m some low.below lower;
  above = side_above a.hi (2 ^ up a.exp) (2 ^ down a.exp) n' d' g q w m some' high.above upper;
}

pub bottom-positive : (q h last : ℕ) → 0 < q → 0 < bound_bottom q h last
bottom-positive q h last some = one-le-pow (2 ^ h) (denominator (q * 2 ^ h) last) (denominator-positive (q * 2 ^ h) last (mul-pos some (pow_pos h)))

-- each fraction that e^-z encloses, times gap ^ 2 and over q
carried : (d : Distance) → IsMeasured d → (n m : ℕ) → Encloses (exp_neg_of d.p d.q) n m → Encloses (squared_weight d) (n * (d.gap * d.gap) * 1) (m * 1 * d.q)
carried d measured n m h =
    let s = steps d measured in
    let square = gap_square d.gap measured.gap_low measured.gap_high in
    let product = (times-IsProduct (exp_neg_of d.p d.q) (of_whole (d.gap * d.gap)) s.power.valid s.gap.valid).encloses n m (d.gap * d.gap) 1 h (of_whole_encloses (d.gap * d.gap) (omega (arith, square.1))) in
    (over-IsQuotient (scaled d) (of_whole d.q) s.product.valid s.variance.valid s.firm).encloses (n * (d.gap * d.gap)) (m * 1) d.q 1 product (of_whole_encloses d.q (omega (arith, measured.fits)))

pub likelihood-encloses : (d : Distance) (m w : ℕ) → IsMeasured d → IsWeight m w d → Encloses (likelihood_of d) w m
likelihood-encloses d m w measured is =
    let s = steps d measured in
    let h : ℕ = is.halvings in
    let e = exp_neg-IsExpNeg d.p d.q h (in_range d measured) is.halved in
    let near = near_square (squared_weight d) (bound_top d.p d.q h 17) (bound_bottom d.q h 17) (bound_top d.p d.q h 16) (bound_bottom d.q h 16) (d.gap * d.gap) d.q w m
    (mul-pos (bottom-positive d.q h 17 measured.some) measured.some) (mul-pos (bottom-positive d.q h 16 measured.some) measured.some)
    (carried d measured (bound_top d.p d.q h 17) (bound_bottom d.q h 17) e.lower) (carried d measured (bound_top d.p d.q h 16) (bound_bottom d.q h 16) e.upper) is.lower is.upper in
    rw (likelihood-is d) (root_encloses_near (squared_weight d) w m s.quotient.valid s.quotient.full s.root.valid s.root.full near)

-- as the code finds it, step by step
pub likelihood-found : (d : Distance) (power gap product variance quotient rooted wider : Enclosure) (g : ℕ) → g ≡ d.gap → power ≡ exp_neg_of d.p d.q → gap ≡ of_whole (g * g)
    → product ≡ times power gap → variance ≡ of_whole d.q → quotient ≡ over product variance → rooted ≡ root quotient → wider ≡ margin rooted → wider ≡ likelihood_of d
unfolding likelihood_of
likelihood-found d power gap product variance quotient rooted wider g eg ep es et ev eq er em = rw (em, er, eq, ev, et, es, ep, eg) refl
