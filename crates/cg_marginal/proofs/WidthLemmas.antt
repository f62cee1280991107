-- How far apart the two ends of a pair are.
use Rattle.std.proofs.Common.{◌≡◌, ℕ, ◌+◌, ◌-◌, ◌*◌, ◌/◌, ◌^◌, ◌<◌, ◌≤◌, min, ap, inl, inr, lit<, arith}
use Rattle.std.proofs.Math.Nat.{mul-le-mul_right, mul-le-mul_left, le_of_mul-le-mul_right, lt_of_mul-lt-mul_right, mul-pos}
use Rattle.std.proofs.lemmas.Bool.{cases_lt}
use Rattle.std.proofs.lemmas.Nat.{pow_pos}
use Rattle.cg_enc.specs.Enclosure.{Enclosure, HasLoss}
use Rattle.cg_enc.specs.Rounding.{ceil_div, gap, ppm_below, ppm_above}
use Rattle.cg_enc.proofs.Divisions.{ceil_near, floor_near}
use Rattle.cg_enc.proofs.Shares.{Shared}

gap_of : (a b c d g g' w l : ℕ) → b ≡ a + g → d ≡ c + g' → a * w + 1 ≤ (l + 1) * d → (l + 2) * c + 1 ≤ b * w → c * d + c + d ≤ w * (g * c + b * g')
gap_of a b c d g g' w l e e' low high =
    omega (arith, mul-le-mul_right c low, mul-le-mul_right d high, ap (λ (x : ℕ). b * w * x) e', ap (λ (x : ℕ). x * (w * c)) e)

-- where the upper share b / c is at most 1, it isn't 2 w-ths above the floor of the lower share a / d
near_case : (a b c d g g' l w m k : ℕ) → 0 < c → 0 < m → b ≡ a + g → d ≡ c + g' → g * m ≤ k * b → g' * m ≤ k * d → b ≤ c → w * (2 * k) ≤ m → a * w + 1 ≤ (l + 1) * d → b * w < (l + 2) * c + 1
near_case a b c d g g' l w m k some unit e e' loss loss' below small low =
    elim (cases_lt (b * w) ((l + 2) * c + 1)) [
      | inl less ↦ less
      | inr high ↦
          let le : c ≤ d = omega arith in
          let gap = gap_of a b c d g g' w l e e' low high in
          let x : (g * c + b * g') * m ≤ 2 * k * (c * d) =
          omega (arith, mul-le-mul_right c loss, mul-le-mul_left b loss', mul-le-mul_right (k * d) below, mul-le-mul_left (k * c) le, mul-le-mul_right (k * c) below) in
          absurd (omega (arith, mul-le-mul_right m gap, mul-le-mul_left w x, mul-le-mul_right (c * d) small, mul-pos some unit))
    ]

twice_below : (a b g m k : ℕ) → 0 < m → b ≡ a + g → g * m ≤ k * b → 2 * k ≤ m → b ≤ 2 * a
twice_below a b g m k unit e loss small =
    let x : b * m ≤ (2 * a) * m = omega (arith, ap (λ (x : ℕ). x * m) e, mul-le-mul_right b small) in
    le_of_mul-le-mul_right x unit

-- where it is above 1, the floor of the lower share is within 2 of the whole
far_case : (a b c d g g' l w m k : ℕ) → 0 < m → b ≡ a + g → d ≡ c + g' → g * m ≤ k * b → g' * m ≤ k * d → c < b → a < d → w * (2 * k) ≤ m → 1 ≤ w → a * w + 1 ≤ (l + 1) * d → w < l + 3
far_case a b c d g g' l w m k unit e e' loss loss' above under small whole low =
    elim (cases_lt w (l + 3)) [
      | inl less ↦ less
      | inr far ↦
          let under' : a ≤ d = omega arith in
          let above' : c ≤ b = omega arith in
          let k2 : 2 * k ≤ m = omega (arith, mul-le-mul_right (2 * k) whole, small) in
          let b2 = twice_below a b g m k unit e loss k2 in
          let x : 2 * d + 1 ≤ w * (g + g') = omega (arith, mul-le-mul_right d far, ap (λ (x : ℕ). w * x) e, ap (λ (x : ℕ). w * x) e', mul-le-mul_left w above') in
          let y : (g + g') * m ≤ 3 * k * d = omega (arith, loss, loss', mul-le-mul_left k b2, mul-le-mul_left k under') in
          absurd (omega (arith, mul-le-mul_right m x, mul-le-mul_left w y, mul-le-mul_right d small, mul-pos unit unit))
    ]

-- both, for the floor l and the ceiling u: cut to w, they are at most 3 apart
apart : (a b c d g g' l u w m k : ℕ) → 0 < c → 0 < m → b ≡ a + g → d ≡ c + g' → g * m ≤ k * b → g' * m ≤ k * d → w * (2 * k) ≤ m → 1 ≤ w →
    a * w < l * d + d → u * c < b * w + c → min w u ≤ min w l + 3
apart a b c d g g' l u w m k some unit e e' loss loss' small whole low high =
    elim (cases_lt c b) [
      | inr below ↦
          let near = near_case a b c d g g' l w m k some unit e e' loss loss' below small (omega (arith, low)) in
          let x : u * c < (l + 4) * c = omega (arith, high, near) in
          let y : u < l + 4 = lt_of_mul-lt-mul_right c x in
          omega (arith, y)
      | inl above ↦ elim (cases_lt l w) [
        | inr all ↦ omega (arith, all)
        | inl part ↦
            let le : l + 1 ≤ w = omega arith in
            let x : a * w < d * w = omega (arith, low, mul-le-mul_right d le) in
            let under : a < d = lt_of_mul-lt-mul_right w x in
            let far = far_case a b c d g g' l w m k unit e e' loss loss' above under small whole (omega (arith, low)) in
            omega (arith, far)
      ]
    ]

-- a loss at another scale
scaled_loss : (l h p m k : ℕ) → l ≤ h → (h - l) * m ≤ k * h → ((h - l) * p) * m ≤ k * (h * p)
scaled_loss l h p m k le loss = omega (arith, mul-le-mul_right p loss)

scaled_ends : (l h p : ℕ) → l ≤ h → h * p ≡ l * p + (h - l) * p
scaled_ends l h p le = let e : l + (h - l) ≡ h = omega arith in omega (arith, ap (λ (x : ℕ). x * p) e)

-- The ends of a pair are at most 3 apart: both enclosures have the loss k, and 2,000,000 k is at most 2 ^ 62.
pub ppm-close : (a b : Enclosure) (k : ℕ) → Shared a b → HasLoss a k → HasLoss b k → 1000000 * (2 * k) ≤ 2 ^ 62 → ppm_above a b ≤ ppm_below a b + 3
unfolding ppm_below ppm_above
ppm-close a b k s la lb small =
    let p : ℕ = 2 ^ gap a.exp b.exp in
    let q : ℕ = 2 ^ gap b.exp a.exp in
    let pos_q : 0 < q = pow_pos (gap b.exp a.exp) in
    let firm : 0 < b.lo = s.firm in
    let full : 0 < b.hi = omega (arith, s.firm, s.whole.ordered) in
    apart (a.lo * p) (a.hi * p) (b.lo * q) (b.hi * q) ((a.hi - a.lo) * p) ((b.hi - b.lo) * q) (1000000 * a.lo * p / (b.hi * q)) (ceil_div (1000000 * a.hi * p) (b.lo * q)) 1000000 (2 ^ 62) k
    (mul-pos firm pos_q) (pow_pos 62) (scaled_ends a.lo a.hi p s.part.ordered) (scaled_ends b.lo b.hi q s.whole.ordered)
    (scaled_loss a.lo a.hi p (2 ^ 62) k s.part.ordered la) (scaled_loss b.lo b.hi q (2 ^ 62) k s.whole.ordered lb) small (lit< tt)
    (omega (arith, floor_near (1000000 * a.lo * p) (b.hi * q) (mul-pos full pos_q)))
    (omega (arith, ceil_near (1000000 * a.hi * p) (b.lo * q) (mul-pos firm pos_q)))
