-- Shares in parts per million.
use Rattle.std.proofs.Common.{◌≡◌, ℕ, ◌+◌, ◌*◌, ◌/◌, ◌^◌, ◌<◌, ◌≤◌, ◌↔◌, ◌∙◌, min, sym, ap, ℤ, inl, inr, arith, refl}
use Rattle.std.proofs.Math.Nat.{mul_assoc, mul_comm, zero-mul, mul-le-mul_right, mul-le-mul_left, le_of_mul-le-mul_right, mul-pos, div-div-eq-div-mul, div-eq_of_lt}
use Rattle.std.proofs.lemmas.Bool.{cases_lt, cases_eq}
use Rattle.std.proofs.lemmas.Nat.{pow_pos}
use borrow.Author.Differences.{up, down}
use Rattle.cg_enc.specs.Enclosure.{Enclosure, IsEnclosure, IsFirm, IsZero, Encloses}
use Rattle.cg_enc.specs.Rounding.{ceil_div, gap, ppm_below, ppm_above}
use Rattle.cg_enc.proofs.Divisions.{ceil_above, ceil_least, floor_below, floor_greatest}
use Rattle.cg_enc.proofs.Powers.{pow_join}

-- a quotient of a quotient, both rounded up
pub ceil_ceil : (x d l : ℕ) → 0 < d → 0 < l → ceil_div (ceil_div x d) l ≡ ceil_div x (l * d)
ceil_ceil x d l some_d some_l =
    let both : 0 < l * d = mul-pos some_l some_d in
    let most : x ≤ ceil_div x (l * d) * l * d = omega (arith, ceil_above x (l * d) both) in
    let high : ceil_div (ceil_div x d) l ≤ ceil_div x (l * d) = ceil_least (ceil_div x d) l (ceil_div x (l * d)) some_l (ceil_least x d (ceil_div x (l * d) * l) some_d most) in
    let low : ceil_div x (l * d) ≤ ceil_div (ceil_div x d) l =
    ceil_least x (l * d) (ceil_div (ceil_div x d) l) both (omega (arith, ceil_above x d some_d, mul-le-mul_right d (ceil_above (ceil_div x d) l some_l))) in
    omega arith

-- a part that is cut to the whole has the same share, since no share is above a million
pub capped_below : (m p w : ℕ) → 0 < w → min m (m * min w p / w) ≡ min m (m * p / w)
capped_below m p w some =
    elim (cases_lt p w) [
      | inl less ↦ let e : min w p ≡ p = omega arith in rw e refl
      | inr more ↦
          let e : min w p ≡ w = omega arith in
          let one : m ≤ m * w / w = floor_greatest (m * w) w m some (omega arith) in
          let all : m ≤ m * p / w = floor_greatest (m * p) w m some (mul-le-mul_left m more) in
          rw e (omega (arith, one, all))
    ]

pub capped_above : (m p w : ℕ) → 0 < w → min m (ceil_div (m * min w p) w) ≡ min m (ceil_div (m * p) w)
capped_above m p w some =
    elim (cases_lt p w) [
      | inl less ↦ let e : min w p ≡ p = omega arith in rw e refl
      | inr more ↦
          let e : min w p ≡ w = omega arith in
          let one : m * w ≤ ceil_div (m * w) w * w = ceil_above (m * w) w some in
          let all : m * w ≤ ceil_div (m * p) w * w = omega (arith, ceil_above (m * p) w some, mul-le-mul_left m more) in
          rw e (omega (arith, le_of_mul-le-mul_right one some, le_of_mul-le-mul_right all some))
    ]

-- the bounds where the part has the greater exponent
pub below-raised : (a b : Enclosure) (s : ℕ) → 0 < b.hi → s ≡ gap a.exp b.exp → gap b.exp a.exp ≡ 0 → min 1000000 (1000000 * min b.hi (a.lo * 2 ^ s) / b.hi) ≡ ppm_below a b
unfolding ppm_below
below-raised a b s some e none = capped_below 1000000 (a.lo * 2 ^ s) b.hi some ∙ rw (none, ← e, mul_assoc 1000000 a.lo (2 ^ s)) (one b.hi (1000000 * (a.lo * 2 ^ s)))
  where
    one : (h x : ℕ) → min 1000000 (x / h) ≡ min 1000000 (x / (h * 2 ^ 0))
    one h x = let e : h * 2 ^ 0 ≡ h = omega arith in rw e refl

pub above-raised : (a b : Enclosure) (s : ℕ) → 0 < b.lo → s ≡ gap a.exp b.exp → gap b.exp a.exp ≡ 0 → min 1000000 (ceil_div (1000000 * min b.lo (a.hi * 2 ^ s)) b.lo) ≡ ppm_above a b
unfolding ppm_above
above-raised a b s some e none = capped_above 1000000 (a.hi * 2 ^ s) b.lo some ∙ rw (none, ← e, mul_assoc 1000000 a.hi (2 ^ s)) (one b.lo (1000000 * (a.hi * 2 ^ s)))
  where
    one : (h x : ℕ) → min 1000000 (ceil_div x h) ≡ min 1000000 (ceil_div x (h * 2 ^ 0))
    one h x = let e : h * 2 ^ 0 ≡ h = omega arith in rw e refl

-- and where the whole has it
pub below-lowered : (a b : Enclosure) (s : ℕ) → s ≡ gap b.exp a.exp → gap a.exp b.exp ≡ 0 → min 1000000 (1000000 * a.lo / 2 ^ s / b.hi) ≡ ppm_below a b
unfolding ppm_below
below-lowered a b s e none = rw (none, ← e, div-div-eq-div-mul (1000000 * a.lo) (2 ^ s) b.hi, mul_comm (2 ^ s) b.hi) (one (1000000 * a.lo) (b.hi * 2 ^ s))
  where
    one : (x h : ℕ) → min 1000000 (x / h) ≡ min 1000000 (x * 2 ^ 0 / h)
    one x h = let e : x * 2 ^ 0 ≡ x = omega arith in rw e refl

pub above-lowered : (a b : Enclosure) (s : ℕ) → 0 < b.lo → s ≡ gap b.exp a.exp → gap a.exp b.exp ≡ 0 → min 1000000 (ceil_div (ceil_div (1000000 * a.hi) (2 ^ s)) b.lo) ≡ ppm_above a b
unfolding ppm_above
above-lowered a b s some e none = rw (none, ← e, ceil_ceil (1000000 * a.hi) (2 ^ s) b.lo (pow_pos s) some) (one (1000000 * a.hi) (b.lo * 2 ^ s))
  where
    one : (x h : ℕ) → min 1000000 (ceil_div x h) ≡ min 1000000 (ceil_div (x * 2 ^ 0) h)
    one x h = let e : x * 2 ^ 0 ≡ x = omega arith in rw e refl

-- a part and a whole that is firm
pub record Shared (a b : Enclosure) : Type 0 where
  pub part : IsEnclosure a
  pub whole : IsEnclosure b
  pub firm : IsFirm b

-- the two bounds before they are cut to a million
abbrev lower : Enclosure → Enclosure → ℕ
lower a b = 1000000 * a.lo * 2 ^ gap a.exp b.exp / (b.hi * 2 ^ gap b.exp a.exp)

abbrev upper : Enclosure → Enclosure → ℕ
upper a b = ceil_div (1000000 * a.hi * 2 ^ gap a.exp b.exp) (b.lo * 2 ^ gap b.exp a.exp)

lower_near : (a b : Enclosure) → lower a b * (b.hi * 2 ^ gap b.exp a.exp) ≤ 1000000 * a.lo * 2 ^ gap a.exp b.exp
lower_near a b = floor_below (1000000 * a.lo * 2 ^ gap a.exp b.exp) (b.hi * 2 ^ gap b.exp a.exp)

upper_near : (a b : Enclosure) → IsFirm b → 1000000 * a.hi * 2 ^ gap a.exp b.exp ≤ upper a b * (b.lo * 2 ^ gap b.exp a.exp)
upper_near a b firm = ceil_above (1000000 * a.hi * 2 ^ gap a.exp b.exp) (b.lo * 2 ^ gap b.exp a.exp) (mul-pos firm (pow_pos (gap b.exp a.exp)))

bounds_ordered : (x y m lo hi l' h' p q : ℕ) → 0 < h' → 0 < q → lo ≤ hi → l' ≤ h' → x * (h' * q) ≤ m * lo * p → m * hi * p ≤ y * (l' * q) → x ≤ y
bounds_ordered x y m lo hi l' h' p q some some' le le' below above =
    let z : x * (h' * q) ≤ y * (h' * q) = omega (arith, below, above, mul-le-mul_right (m * p) le, mul-le-mul_right (y * q) le') in
    le_of_mul-le-mul_right z (mul-pos some some')

pub ppm-ordered : (a b : Enclosure) → Shared a b → (ppm_below a b ≤ ppm_above a b) × (ppm_above a b ≤ 1000000)
unfolding ppm_below ppm_above
ppm-ordered a b s =
    let some : 0 < b.hi = omega (arith, s.firm, s.whole.ordered) in
    let le = bounds_ordered (lower a b) (upper a b) 1000000 a.lo a.hi b.lo b.hi (2 ^ gap a.exp b.exp) (2 ^ gap b.exp a.exp) some (pow_pos (gap b.exp a.exp)) s.part.ordered s.whole.ordered (lower_near a b) (upper_near a b s.firm) in
    (omega (arith, le), omega arith)

-- the scales of a part and a whole, brought together
scales : (e f : ℤ) → 2 ^ up e * 2 ^ down f * 2 ^ gap f e ≡ 2 ^ up f * 2 ^ down e * 2 ^ gap e f
scales e f =
    rw (pow_join (up e) (down f) (up e + down f) refl, pow_join (up f) (down e) (up f + down e) refl)
    (pow_join (up e + down f) (gap f e) (up e + down f + gap f e) refl ∙ sym (pow_join (up f + down e) (gap e f) (up e + down f + gap f e) (omega arith)))

-- the lower bound, over plain numbers: s and t are the scales between part and whole
share_below : (x m lo h' n d n' d' p q p' q' s t : ℕ) → 0 < p * q' * t → p * q' * t ≡ p' * q * s → x * (h' * t) ≤ m * lo * s → lo * p * d ≤ n * q → n' * q' ≤ h' * p' * d' → x * n' * d ≤ m * n * d'
share_below x m lo h' n d n' d' p q p' q' s t some scale near below above =
    let z : (x * n' * d) * (p * q' * t) ≤ (m * n * d') * (p * q' * t) =
    omega (arith, mul-le-mul_left (x * d * t * p) above, mul-le-mul_right (p' * d' * d * p) near, mul-le-mul_left (m * s * p' * d') below, ap (λ (v : ℕ). m * n * d' * v) scale) in
    le_of_mul-le-mul_right z some

share_above : (y m hi l' n d n' d' p q p' q' s t : ℕ) → 0 < p * q' * t → p * q' * t ≡ p' * q * s → m * hi * s ≤ y * (l' * t) → n * q ≤ hi * p * d → l' * p' * d' ≤ n' * q' → m * n * d' ≤ y * n' * d
share_above y m hi l' n d n' d' p q p' q' s t some scale near above below =
    let z : (m * n * d') * (p * q' * t) ≤ (y * n' * d) * (p * q' * t) =
    omega (arith, mul-le-mul_left (m * d' * s * p') above, mul-le-mul_right (p * d * d' * p') near, mul-le-mul_left (y * t * p * d) below, ap (λ (v : ℕ). m * n * d' * v) scale) in
    le_of_mul-le-mul_right z some

cut_below : (m x n' d z : ℕ) → x * n' * d ≤ z → min m x * n' * d ≤ z
cut_below m x n' d z h = let less : min m x ≤ x = omega arith in omega (arith, h, mul-le-mul_right (n' * d) less)

cut_above : (m y n d n' d' : ℕ) → m * n * d' ≤ y * n' * d → n * d' ≤ n' * d → m * n * d' ≤ min m y * n' * d
cut_above m y n d n' d' h le =
    elim (cases_lt m y) [
      | inl less ↦ let e : min m y ≡ m = omega arith in rw e (omega (arith, mul-le-mul_left m le))
      | inr more ↦ let e : min m y ≡ y = omega arith in rw e h
    ]

-- the bounds hold for every share that isn't above the whole
pub ppm-encloses : (a b : Enclosure) → Shared a b → (n d n' d' : ℕ) → Encloses a n d → Encloses b n' d' → n * d' ≤ n' * d →
    (ppm_below a b * n' * d ≤ 1000000 * n * d') × (1000000 * n * d' ≤ ppm_above a b * n' * d)
unfolding ppm_below ppm_above
ppm-encloses a b h n d n' d' ha hb le =
    let p : ℕ = 2 ^ up a.exp in
    let q : ℕ = 2 ^ down a.exp in
    let p' : ℕ = 2 ^ up b.exp in
    let q' : ℕ = 2 ^ down b.exp in
    let s : ℕ = 2 ^ gap a.exp b.exp in
    let t : ℕ = 2 ^ gap b.exp a.exp in
    let some : 0 < p * q' * t = mul-pos (mul-pos (pow_pos (up a.exp)) (pow_pos (down b.exp))) (pow_pos (gap b.exp a.exp)) in
    let scale = scales a.exp b.exp in (
      cut_below 1000000 (lower a b) n' d (1000000 * n * d') (share_below (lower a b) 1000000 a.lo b.hi n d n' d' p q p' q' s t some scale (lower_near a b) ha.below hb.above),
      cut_above 1000000 (upper a b) n d n' d' (share_above (upper a b) 1000000 a.hi b.lo n d n' d' p q p' q' s t some scale (upper_near a b h.firm) ha.above hb.below) le,
    )

-- zero has no share
pub ppm_below-zero : (a b : Enclosure) → IsEnclosure a → IsZero a → 0 < b.hi → 0 ≡ ppm_below a b
unfolding ppm_below
ppm_below-zero a b v z some =
    let none : a.lo ≡ 0 = omega (arith, v.ordered, z) in
    let top : 1000000 * a.lo * 2 ^ gap a.exp b.exp ≡ 0 = nothing a.lo (2 ^ gap a.exp b.exp) none in
    let e : lower a b ≡ 0 = rw top (div-eq_of_lt (mul-pos some (pow_pos (gap b.exp a.exp)))) in
    omega (arith, e)
  where
    nothing : (x p : ℕ) → x ≡ 0 → 1000000 * x * p ≡ 0
    nothing x p e = omega (arith, ap (λ (v : ℕ). v * p) e)

pub ppm_above-zero : (a b : Enclosure) → IsZero a → IsFirm b → 0 ≡ ppm_above a b
unfolding ppm_above
ppm_above-zero a b z firm =
    let top : 1000000 * a.hi * 2 ^ gap a.exp b.exp ≡ 0 = nothing a.hi (2 ^ gap a.exp b.exp) z in
    let some : 0 < b.lo * 2 ^ gap b.exp a.exp = mul-pos firm (pow_pos (gap b.exp a.exp)) in
    let e : upper a b ≤ 0 = ceil_least (1000000 * a.hi * 2 ^ gap a.exp b.exp) (b.lo * 2 ^ gap b.exp a.exp) 0 some (omega (arith, top)) in
    omega (arith, e)
  where
    nothing : (x p : ℕ) → x ≡ 0 → 1000000 * x * p ≡ 0
    nothing x p e = omega (arith, ap (λ (v : ℕ). v * p) e)

-- only zero has a share whose upper bound is 0
pub ppm_above-is_zero : (a b : Enclosure) → Shared a b → (ppm_above a b ≡ 0) ↔ IsZero a
unfolding ppm_above
ppm_above-is_zero a b h = (only, λ z. sym (ppm_above-zero a b z h.firm))
  where
    positive : (x p : ℕ) → 0 < x → 0 < p → 0 < 1000000 * x * p
    positive x p some some' = mul-pos (omega arith) some'

    only : ppm_above a b ≡ 0 → IsZero a
    only e =
        elim (cases_eq a.hi 0) [
          | inl z ↦ z
          | inr n ↦
              let some : 0 < 1000000 * a.hi * 2 ^ gap a.exp b.exp = positive a.hi (2 ^ gap a.exp b.exp) (omega arith) (pow_pos (gap a.exp b.exp)) in
              let none : upper a b ≡ 0 = omega (arith, e) in
              let z : upper a b * (b.lo * 2 ^ gap b.exp a.exp) ≡ 0 = ap (λ (v : ℕ). v * (b.lo * 2 ^ gap b.exp a.exp)) none ∙ zero-mul (b.lo * 2 ^ gap b.exp a.exp) in
              absurd (omega (arith, some, upper_near a b h.firm, z))
        ]
