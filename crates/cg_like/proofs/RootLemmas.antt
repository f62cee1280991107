-- A root that is made wider by one unit encloses what is near a root: numbers whose squares are enclosed but for one part
-- in 2 ^ 64.
use Rattle.std.proofs.Common.{◌≡◌, ℕ, ◌+◌, ◌-◌, ◌*◌, ◌^◌, ◌<◌, ◌≤◌, ap, ℤ, pos, ◌-ℤ◌, inl, inr, arith, refl}
use Rattle.std.proofs.Math.Nat.{mul-le-mul_right, le_of_mul-le-mul_right, mul-pos}
use Rattle.std.proofs.lemmas.Bool.{cases_eq}
use Rattle.std.proofs.lemmas.Nat.{pow_pos}
use borrow.Author.Differences.{up, down}
use Rattle.cg_enc.specs.Enclosure.{Enclosure, IsEnclosure, Encloses}
use Rattle.cg_enc.specs.Rounding.{norm, root, margin, root_below, root_above, root_places, half}
use Rattle.cg_enc.proofs.Roots.{Ends, IsRootBelow-root_below, IsRootAbove-root_above, half_twice, root_le, ends_ordered, upper_full, upper_most, root-full}
use Rattle.cg_enc.proofs.Margins.{margin-value}
use Rattle.cg_enc.proofs.Powers.{pow_join}
use Rattle.cg_enc.proofs.Scales.{lower_end, upper_end, scales_of}
use Rattle.cg_enc.proofs.Widening.{Widens, norm_widens, norm_encloses}

-- the square of w / m is enclosed, but for one part in 2 ^ 64
pub record IsNearSquare (a : Enclosure) (w m : ℕ) : Type 0 where
  pub below : (2 ^ 64 - 1) * (a.lo * 2 ^ up a.exp * (m * m)) ≤ 2 ^ 64 * (w * w * 2 ^ down a.exp)
  pub above : 2 ^ 64 * (w * w * 2 ^ down a.exp) ≤ (2 ^ 64 + 1) * (a.hi * 2 ^ up a.exp * (m * m))

-- one unit is more than half a part in 2 ^ 64
less_square : (v : ℕ) → v ≤ 2 ^ 63 → 2 ^ 64 * ((v - 1) * (v - 1)) ≤ (2 ^ 64 - 1) * (v * v)
less_square v small =
    elim (cases_eq v 0) [
      | inl z ↦ let none : v - 1 ≡ 0 = omega arith in rw none (omega arith)
      | inr n ↦
          let x : ℕ = v - 1 in
          let e : v ≡ x + 1 = omega arith in
          let most : x * x ≤ 2 ^ 63 * x = mul-le-mul_right x (omega arith) in
          omega (arith, ap (λ (k : ℕ). k * k) e, most)
    ]

more_square : (u : ℕ) → u ≤ 2 ^ 63 → (2 ^ 64 + 1) * (u * u) ≤ 2 ^ 64 * ((u + 1) * (u + 1))
more_square u small = omega (arith, mul-le-mul_right u small)

-- p, q and p', q' are the scales before the root and after it
near_below : (v lo w m p q p' q' t : ℕ) → 0 < q → p * (q' * q') ≡ q * (p' * p') * t → v * v ≤ lo * t → v ≤ 2 ^ 63
    → (2 ^ 64 - 1) * (lo * p * (m * m)) ≤ 2 ^ 64 * (w * w * q) → (v - 1) * p' * m ≤ w * q'
near_below v lo w m p q p' q' t some scale square small near =
    let x : ℕ = v - 1 in
    let less = less_square v small in
    let big : ((x * p' * m) * (x * p' * m)) * (2 ^ 64 * q) ≤ ((w * q') * (w * q')) * (2 ^ 64 * q) =
    omega (
      arith,
      mul-le-mul_right (p' * p' * m * m * q) less,
      mul-le-mul_right ((2 ^ 64 - 1) * (p' * p' * m * m * q)) square,
      ap (λ (k : ℕ). (2 ^ 64 - 1) * (lo * m * m) * k) scale,
      mul-le-mul_right (q' * q') near,
    ) in
    let positive : 0 < 2 ^ 64 * q = omega arith in
    root_le (x * p' * m) (w * q') (le_of_mul-le-mul_right big positive)

near_above : (u hi w m p q p' q' t : ℕ) → 0 < q → p * (q' * q') ≡ q * (p' * p') * t → hi * t ≤ u * u → u ≤ 2 ^ 63
    → 2 ^ 64 * (w * w * q) ≤ (2 ^ 64 + 1) * (hi * p * (m * m)) → w * q' ≤ (u + 1) * p' * m
near_above u hi w m p q p' q' t some scale square small near =
    let more = more_square u small in
    let big : ((w * q') * (w * q')) * (2 ^ 64 * q) ≤ (((u + 1) * p' * m) * ((u + 1) * p' * m)) * (2 ^ 64 * q) =
    omega (
      arith,
      mul-le-mul_right (p' * p' * m * m * q) more,
      mul-le-mul_right ((2 ^ 64 + 1) * (p' * p' * m * m * q)) square,
      ap (λ (k : ℕ). (2 ^ 64 + 1) * (hi * m * m) * k) scale,
      mul-le-mul_right (q' * q') near,
    ) in
    let positive : 0 < 2 ^ 64 * q = omega arith in
    root_le (w * q') ((u + 1) * p' * m) (le_of_mul-le-mul_right big positive)

-- the scale of a root
root_scale : (e f : ℤ) (t : ℕ) → up e + (down f + down f) ≡ down e + (up f + up f) + t → 2 ^ up e * (2 ^ down f * 2 ^ down f) ≡ 2 ^ down e * (2 ^ up f * 2 ^ up f) * 2 ^ t
root_scale e f t h =
    let both : 2 ^ up f * 2 ^ up f ≡ 2 ^ (up f + up f) = pow_join (up f) (up f) (up f + up f) refl in
    omega (arith, scales_of (down e) (down f) (up e) (up f + up f) t (down f) (omega (arith, h)), ap (λ (x : ℕ). 2 ^ down e * x * 2 ^ t) both)

-- the rounded roots, one unit further apart, enclose it
ends_near : (a : Enclosure) (t v u w m : ℕ) → Ends a t v u → IsNearSquare a w m → Encloses (record { lo = v - 1; hi = u + 1; exp = half (a.exp -ℤ pos t) }) w m
ends_near a t v u w m h near =
    let f : ℤ = half (a.exp -ℤ pos t) in
    let scale = root_scale a.exp f t (half_twice a.exp t h.places) in
    let most = upper_most a t v u h in
    let low : v ≤ 2 ^ 63 = omega (arith, most, ends_ordered a t v u h) in
    record {
      below = near_below v a.lo w m (2 ^ up a.exp) (2 ^ down a.exp) (2 ^ up f) (2 ^ down f) (2 ^ t) (pow_pos (down a.exp)) scale h.lower.square low near.below;
      above = near_above u a.hi w m (2 ^ up a.exp) (2 ^ down a.exp) (2 ^ up f) (2 ^ down f) (2 ^ t) (pow_pos (down a.exp)) scale h.upper.square most near.above;
    }

-- one unit less below, where the lower end was rounded down from a scale that is 2 ^ s times finer
unit_below : (r v s : ℕ) → 0 < s → r * s ≤ v → (r - 1) * s ≤ v - 1
unit_below r v s some le =
    elim (cases_eq r 0) [
      | inl z ↦ let none : r - 1 ≡ 0 = omega arith in rw none (omega arith)
      | inr n ↦ let e : r ≡ r - 1 + 1 = omega arith in omega (arith, ap (λ (x : ℕ). x * s) e)
    ]

unit_above : (r u s : ℕ) → 0 < s → u ≤ r * s → u + 1 ≤ (r + 1) * s
unit_above r u s some le = omega (arith, le)

-- a unit of the normal form is at least a unit before it
widens_near : (v u s t : ℕ) (e : ℤ) (r : Enclosure) (n d : ℕ) → t ≡ 0 → Widens v u e s t r
    → Encloses (record { lo = v - 1; hi = u + 1; exp = e }) n d → Encloses (record { lo = r.lo - 1; hi = r.hi + 1; exp = r.exp }) n d
widens_near v u s t e r n d none w h =
    let one : 2 ^ t ≡ 1 = ap (λ (x : ℕ). 2 ^ x) none in
    let some : 0 < 2 ^ down e * 2 ^ t = mul-pos (pow_pos (down e)) (pow_pos t) in
    let scales = scales_of (up e) (down e) (up r.exp) (down r.exp) s t (omega (arith, w.exp)) in
    let lower : r.lo * 2 ^ s ≤ v = omega (arith, w.lower, ap (λ (x : ℕ). v * x) one) in
    let upper : u ≤ r.hi * 2 ^ s = omega (arith, w.upper, ap (λ (x : ℕ). u * x) one) in
    let low : (r.lo - 1) * 2 ^ s ≤ (v - 1) * 2 ^ t = omega (arith, unit_below r.lo v (2 ^ s) (pow_pos s) lower, ap (λ (x : ℕ). (v - 1) * x) one) in
    let high : (u + 1) * 2 ^ t ≤ (r.hi + 1) * 2 ^ s = omega (arith, unit_above r.hi u (2 ^ s) (pow_pos s) upper, ap (λ (x : ℕ). (u + 1) * x) one) in
    record {
      below = lower_end (r.lo - 1) (v - 1) n d (2 ^ up e) (2 ^ down e) (2 ^ up r.exp) (2 ^ down r.exp) (2 ^ s) (2 ^ t) some scales low h.below;
      above = upper_end (r.hi + 1) (u + 1) n d (2 ^ up e) (2 ^ down e) (2 ^ up r.exp) (2 ^ down r.exp) (2 ^ s) (2 ^ t) some scales high h.above;
    }

-- the margin of a full enclosure encloses what its ends do once they are a unit further apart
margin_near : (r : Enclosure) (n d : ℕ) → IsEnclosure r → 0 < r.hi → Encloses (record { lo = r.lo - 1; hi = r.hi + 1; exp = r.exp }) n d → Encloses (margin r) n d
margin_near r n d v some h =
    let ordered : r.lo - 1 ≤ r.hi + 1 = omega (arith, v.ordered) in
    let fits : r.hi + 1 < 2 ^ 128 = omega (arith, v.most) in
    rw (margin-value r some) (norm_encloses (r.lo - 1) (r.hi + 1) r.exp n d ordered (omega arith) fits h)

norm_near : (v u : ℕ) (e : ℤ) (n d : ℕ) → v ≤ u → 2 ^ 62 ≤ u → u < 2 ^ 128 → IsEnclosure (norm v u e) → 0 < (norm v u e).hi
    → Encloses (record { lo = v - 1; hi = u + 1; exp = e }) n d → Encloses (margin (norm v u e)) n d
norm_near v u e n d le full fits valid some h =
    let w = norm_widens v u e le (omega arith) fits in
    margin_near (norm v u e) n d valid some (widens_near v u w.right w.left e (norm v u e) n d (w.still full) w.widens h)

pub root_encloses_near : (a : Enclosure) (w m : ℕ) → IsEnclosure a → 0 < a.hi → IsEnclosure (root a) → 0 < (root a).hi → IsNearSquare a w m → Encloses (margin (root a)) w m
root_encloses_near a w m v some valid positive near =
    let t : ℕ = root_places a.exp in
    let low : ℕ = root_below (a.lo * 2 ^ t) in
    let high : ℕ = root_above (a.hi * 2 ^ t) in
    let h : Ends a t low high = record {
      valid = v;
      full = some;
      places = refl;
      lower = IsRootBelow-root_below (a.lo * 2 ^ t);
      upper = IsRootAbove-root_above (a.hi * 2 ^ t);
    } in
    let e = root-full a some in
    rw e (norm_near low high (half (a.exp -ℤ pos t)) w m (ends_ordered a t low high h) (upper_full a t low high h) (omega (arith, upper_most a t low high h))
    (rw e at valid) (rw e at positive) (ends_near a t low high w m h near))
