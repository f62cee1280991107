-- What the normal form does to the ends: it moves both by a power of two, and rounds each outward by less than one unit.
use Rattle.std.proofs.Common.{◌≡◌, ℕ, ◌+◌, ◌-◌, ◌*◌, ◌/◌, ◌^◌, ◌<◌, ◌≤◌, ap, ℤ, pos, negsuc, ◌+ℤ◌, ◌-ℤ◌, inl, inr, arith, refl}
use Rattle.std.proofs.Math.Nat.{mul-le-mul_right, mul-le-mul_left, le_of_mul-le-mul_right}
use Rattle.std.proofs.lemmas.Bool.{cases_lt}
use Rattle.std.proofs.lemmas.Int.{ints}
use Rattle.std.proofs.lemmas.Nat.{pow_pos}
use borrow.Author.Differences.{up, down}
use Rattle.cg_enc.specs.Enclosure.{Enclosure, IsEnclosure, IsExponent, Encloses, HasLoss}
use Rattle.cg_enc.specs.Rounding.{ceil_div, right, norm}
use Rattle.cg_enc.proofs.Divisions.{ceil_above, ceil_near, floor_below, floor_near, floor_ceil}
use Rattle.cg_enc.proofs.Norming.{MovesRight, right_moves, small_digits, left_near, still, norm-left, norm-right}
use Rattle.cg_enc.proofs.Scales.{lower_end, upper_end, scales_of}

-- r is lo and hi in units of 2 ^ e, moved right by s and left by t places
pub record Widens (lo hi : ℕ) (e : ℤ) (s t : ℕ) (r : Enclosure) : Type 0 where
  pub exp : up r.exp + down e + t ≡ up e + down r.exp + s
  pub lower : r.lo * 2 ^ s ≤ lo * 2 ^ t
  pub lower_near : lo * 2 ^ t < r.lo * 2 ^ s + 2 ^ s
  pub upper : hi * 2 ^ t ≤ r.hi * 2 ^ s
  pub upper_near : r.hi * 2 ^ s < hi * 2 ^ t + 2 ^ s
  pub full : 2 ^ 62 ≤ r.hi
  pub most : r.hi < 2 ^ 63
  pub ordered : r.lo ≤ r.hi

pub to_left : (lo hi s : ℕ) (e : ℤ) → lo ≤ hi → 2 ^ 62 ≤ hi * 2 ^ s → hi * 2 ^ s < 2 ^ 63 → Widens lo hi e 0 s (record { lo = lo * 2 ^ s; hi = hi * 2 ^ s; exp = e -ℤ pos s })
to_left lo hi s e le low high = record {
  exp = omega (arith, ints);
  lower = omega arith;
  lower_near = omega arith;
  upper = omega arith;
  upper_near = omega arith;
  full = low;
  most = high;
  ordered = mul-le-mul_right (2 ^ s) le;
}

pub to_right : (lo hi s : ℕ) (e : ℤ) → lo ≤ hi → MovesRight hi s → Widens lo hi e s 0 (record { lo = lo / 2 ^ s; hi = ceil_div hi (2 ^ s); exp = e +ℤ pos s })
to_right lo hi s e le m = record {
  exp = omega (arith, ints);
  lower = omega (arith, floor_below lo (2 ^ s));
  lower_near = omega (arith, floor_near lo (2 ^ s) (pow_pos s));
  upper = omega (arith, ceil_above hi (2 ^ s) (pow_pos s));
  upper_near = omega (arith, ceil_near hi (2 ^ s) (pow_pos s));
  full = m.full;
  most = m.most;
  ordered = floor_ceil lo hi (2 ^ s) (pow_pos s) le;
}

-- moved by some number of places, to the left only where the upper end wasn't full
pub record Widened (lo hi : ℕ) (e : ℤ) (r : Enclosure) : Type 0 where
  pub right : ℕ
  pub left : ℕ
  pub widens : Widens lo hi e right left r
  pub still : 2 ^ 62 ≤ hi → left ≡ 0
  pub near_right : right ≤ 66
  pub near_left : left ≤ 62

pub norm_widens : (lo hi : ℕ) (e : ℤ) → lo ≤ hi → 0 < hi → hi < 2 ^ 128 → Widened lo hi e (norm lo hi e)
norm_widens lo hi e le some fits =
    elim (cases_lt hi (2 ^ 63)) [
      | inl small ↦
          let d = small_digits hi some small in
          rw (norm-left lo hi d.0 e some d.2 d.3) (record {
            right = 0;
            left = d.0;
            widens = to_left lo hi d.0 e le d.2 d.3;
            still = λ full. still hi d.0 full d.3;
            near_right = omega arith;
            near_left = left_near hi d.0 some d.3;
          })
      | inr large ↦
          let m = right_moves hi large fits in
          rw (norm-right lo hi (right hi) e large refl) (record {
            right = right hi;
            left = 0;
            widens = to_right lo hi (right hi) e le m;
            still = λ _. refl;
            near_right = m.near;
            near_left = omega arith;
          })
    ]

pub Widens-IsEnclosure : (lo hi : ℕ) (e : ℤ) (s t : ℕ) (r : Enclosure) → Widens lo hi e s t r → IsEnclosure r
Widens-IsEnclosure lo hi e s t r w = record {
  ordered = w.ordered;
  most = w.most;
  least = λ _. w.full;
  zero_exp = λ z. absurd (omega (arith, w.full));
}

pub norm-IsEnclosure : (lo hi : ℕ) (e : ℤ) → lo ≤ hi → 0 < hi → hi < 2 ^ 128 → IsEnclosure (norm lo hi e)
norm-IsEnclosure lo hi e le some fits =
    let w = norm_widens lo hi e le some fits in
    Widens-IsEnclosure lo hi e w.right w.left (norm lo hi e) w.widens

-- the normal form is never zero
pub norm-positive : (lo hi : ℕ) (e : ℤ) → lo ≤ hi → 0 < hi → hi < 2 ^ 128 → 0 < (norm lo hi e).hi
norm-positive lo hi e le some fits = let w = norm_widens lo hi e le some fits in omega (arith, w.widens.full)

-- what stands between the ends at one scale stands between the rounded ends
pub widens_encloses : (lo hi : ℕ) (e : ℤ) (s t : ℕ) (r : Enclosure) (p q n d : ℕ) → Widens lo hi e s t r → p + down e ≡ up e + q →
    lo * 2 ^ p * d ≤ n * 2 ^ q → n * 2 ^ q ≤ hi * 2 ^ p * d → Encloses r n d
widens_encloses lo hi e s t r p q n d w scale below above =
    let some : 0 < 2 ^ q * 2 ^ t = omega (arith, mul-le-mul_right (2 ^ t) (pow_pos q), pow_pos t) in
    let scales = scales_of p q (up r.exp) (down r.exp) s t (omega (arith, w.exp)) in
    record {
      below = lower_end r.lo lo n d (2 ^ p) (2 ^ q) (2 ^ up r.exp) (2 ^ down r.exp) (2 ^ s) (2 ^ t) some scales w.lower below;
      above = upper_end r.hi hi n d (2 ^ p) (2 ^ q) (2 ^ up r.exp) (2 ^ down r.exp) (2 ^ s) (2 ^ t) some scales w.upper above;
    }

-- at the scale of e itself
pub norm_encloses : (lo hi : ℕ) (e : ℤ) (n d : ℕ) → lo ≤ hi → 0 < hi → hi < 2 ^ 128 → Encloses (record { lo = lo; hi = hi; exp = e }) n d → Encloses (norm lo hi e) n d
norm_encloses lo hi e n d le some fits h =
    let w = norm_widens lo hi e le some fits in
    widens_encloses lo hi e w.right w.left (norm lo hi e) (up e) (down e) n d w.widens (omega arith) h.below h.above

-- rounded by less than one unit at each end, a loss grows by at most 2 where the upper end is at least m; the ends before may be c units further apart
pub loss_step : (rl rd rh l d h s t m k c : ℕ) → rh ≡ rl + rd → h ≡ l + d → rh * s < h * t + s → l * t < rl * s + s → h * t ≤ rh * s → m ≤ rh →
    d * m ≤ k * h + c * m → rd * m * s + 2 * m ≤ k * rh * s + c * m * t + 2 * rh * s
loss_step rl rd rh l d h s t m k c re e top bottom above full loss =
    let less : rd * s + 2 ≤ d * t + 2 * s = omega (arith, ap (λ (x : ℕ). x * s) re, ap (λ (x : ℕ). x * t) e) in
    omega (arith, mul-le-mul_right m less, mul-le-mul_right t loss, mul-le-mul_left k above, mul-le-mul_left s full)

pub widens_loss : (lo hi : ℕ) (e : ℤ) (s t : ℕ) (r : Enclosure) (k : ℕ) → Widens lo hi e s t r → lo ≤ hi → (hi - lo) * 2 ^ 62 ≤ k * hi → HasLoss r (k + 3)
widens_loss lo hi e s t r k w le loss =
    let ordered : r.lo ≤ r.hi = w.ordered in
    let x : ((r.hi - r.lo) * 2 ^ 62) * 2 ^ s ≤ ((k + 3) * r.hi) * 2 ^ s =
    omega (arith, loss_step r.lo (r.hi - r.lo) r.hi lo (hi - lo) hi (2 ^ s) (2 ^ t) (2 ^ 62) k 0 (omega arith) (omega arith) w.upper_near w.lower_near w.upper w.full (omega arith)) in
    le_of_mul-le-mul_right x (pow_pos s)

-- the ends before may be further apart by two units, where the upper end was full
pub norm_loss_more : (lo hi : ℕ) (e : ℤ) (k : ℕ) → lo ≤ hi → 2 ^ 62 ≤ hi → hi < 2 ^ 128 → (hi - lo) * 2 ^ 62 ≤ k * hi + 2 * 2 ^ 62 → HasLoss (norm lo hi e) (k + 3)
norm_loss_more lo hi e k le full fits loss =
    let r : Enclosure = norm lo hi e in
    let v = norm_widens lo hi e le (omega arith) fits in
    let s : ℕ = v.right in
    let w = v.widens in
    let ordered : r.lo ≤ r.hi = w.ordered in
    let one : 2 ^ v.left ≡ 1 = ap (λ (x : ℕ). 2 ^ x) (v.still full) in
    let step = loss_step r.lo (r.hi - r.lo) r.hi lo (hi - lo) hi (2 ^ s) (2 ^ v.left) (2 ^ 62) k 2 (omega arith) (omega arith) w.upper_near w.lower_near w.upper w.full loss in
    let x : ((r.hi - r.lo) * 2 ^ 62) * 2 ^ s ≤ ((k + 3) * r.hi) * 2 ^ s = omega (arith, rw one at step) in
    le_of_mul-le-mul_right x (pow_pos s)

-- an exponent that is moved by a few places stays in a range that is wider by as many
pub moved_exponent : (e z : ℤ) (s t m k : ℕ) → up z + down e + t ≡ up e + down z + s → s ≤ k → t ≤ k → IsExponent m e → IsExponent (m + k) z
moved_exponent e (pos n) s t m k h hs ht r = (omega (arith, r), omega arith)
moved_exponent e (negsuc n) s t m k h hs ht r = (omega arith, omega (arith, r))
