-- Sums of enclosures.
use Rattle.std.proofs.Common.{◌≡◌, ℕ, ◌+◌, ◌-◌, ◌*◌, ◌/◌, ◌^◌, ◌<◌, ◌≤◌, ◌↔◌, ap, inl, inr, arith, refl}
use Rattle.std.proofs.Math.Nat.{mul_comm, add_comm, mul-le-mul_right, mul-le-mul_left, le_of_mul-le-mul_right, mul-pos}
use Rattle.std.proofs.lemmas.Bool.{cases_lt, cases_eq, eq-eqb, ne_eqb}
use Rattle.std.proofs.lemmas.Nat.{pow_pos}
use borrow.Author.Differences.{up, down}
use Rattle.cg_enc.specs.Enclosure.{Enclosure, IsEnclosure, IsExponent, IsZero, Encloses, HasLoss}
use Rattle.cg_enc.specs.Rounding.{ceil_div, gap, norm, plus, plus_at}
use Rattle.cg_enc.proofs.Divisions.{ceil_above, ceil_near, ceil_small, floor_below, floor_near, floor_ceil}
use Rattle.cg_enc.proofs.Products.{only_zero}
use Rattle.cg_enc.proofs.Scales.{lower_end, upper_end, scales_of}
use Rattle.cg_enc.proofs.Settling.{norm-exponent_settled}
use Rattle.cg_enc.proofs.Widening.{norm_widens, norm-IsEnclosure, norm-positive, widens_encloses, norm_loss_more}

-- what a sum is
pub record IsSum (a b r : Enclosure) : Type 0 where
  pub valid : IsEnclosure r
  pub encloses : (n d n' d' : ℕ) → Encloses a n d → Encloses b n' d' → Encloses r (n * d' + n' * d) (d * d')
  pub loss : (k : ℕ) → HasLoss a k → HasLoss b k → HasLoss r (k + 3)
  pub zero : IsZero r ↔ (IsZero a × IsZero b)
  pub exponent : (m : ℕ) → IsExponent m a.exp → IsExponent m b.exp → IsExponent (m + 1) r.exp

-- two addends that aren't zero, the first with the greater exponent
pub record Addends (a b : Enclosure) : Type 0 where
  pub left : IsEnclosure a
  pub right : IsEnclosure b
  pub left_full : 0 < a.hi
  pub right_full : 0 < b.hi
  pub order : up b.exp + down a.exp ≤ up a.exp + down b.exp

-- the ends of a sum, before they are rounded
abbrev sum_lo : Enclosure → Enclosure → ℕ
sum_lo a b = a.lo + b.lo / 2 ^ gap a.exp b.exp

abbrev sum_hi : Enclosure → Enclosure → ℕ
sum_hi a b = a.hi + ceil_div b.hi (2 ^ gap a.exp b.exp)

pub sum_low : (a b : Enclosure) → Addends a b → 2 ^ 62 ≤ a.hi + ceil_div b.hi (2 ^ gap a.exp b.exp)
sum_low a b h = omega (arith, h.left.least h.left_full)

pub sum_high : (a b : Enclosure) → Addends a b → a.hi + ceil_div b.hi (2 ^ gap a.exp b.exp) + 2 ≤ 2 ^ 64
sum_high a b h = omega (arith, ceil_small b.hi (2 ^ gap a.exp b.exp) (pow_pos (gap a.exp b.exp)), h.left.most, h.right.most)

pub sum_ordered : (a b : Enclosure) → Addends a b → a.lo + b.lo / 2 ^ gap a.exp b.exp ≤ a.hi + ceil_div b.hi (2 ^ gap a.exp b.exp)
sum_ordered a b h = omega (arith, h.left.ordered, floor_ceil b.lo b.hi (2 ^ gap a.exp b.exp) (pow_pos (gap a.exp b.exp)) h.right.ordered)

pub plus_at-norm : (a b : Enclosure) → plus_at a b ≡ norm (a.lo + b.lo / 2 ^ gap a.exp b.exp) (a.hi + ceil_div b.hi (2 ^ gap a.exp b.exp)) a.exp
unfolding plus_at
plus_at-norm a b = refl

sum_below : (l l' p d n q d' n' : ℕ) → l * p * d ≤ n * q → l' * p * d' ≤ n' * q → (l + l') * p * (d * d') ≤ (n * d' + n' * d) * q
sum_below l l' p d n q d' n' h h' = omega (arith, mul-le-mul_right d' h, mul-le-mul_right d h')

sum_above : (g g' p d n q d' n' : ℕ) → n * q ≤ g * p * d → n' * q ≤ g' * p * d' → (n * d' + n' * d) * q ≤ (g + g') * p * (d * d')
sum_above g g' p d n q d' n' h h' = omega (arith, mul-le-mul_right d' h, mul-le-mul_right d h')

sum_encloses : (a b : Enclosure) → Addends a b → (n d n' d' : ℕ) → Encloses a n d → Encloses b n' d' → Encloses (norm (sum_lo a b) (sum_hi a b) a.exp) (n * d' + n' * d) (d * d')
sum_encloses a b h n d n' d' ha hb =
    let g : ℕ = gap a.exp b.exp in
    let w = norm_widens (sum_lo a b) (sum_hi a b) a.exp (sum_ordered a b h) (omega (arith, sum_low a b h)) (omega (arith, sum_high a b h)) in
    let order : up b.exp + down a.exp ≤ up a.exp + down b.exp = h.order in
    let scales = scales_of (up b.exp) (down b.exp) (up a.exp) (down a.exp) g 0 (omega arith) in
    let some : 0 < 2 ^ down b.exp * 2 ^ 0 = mul-pos (pow_pos (down b.exp)) (pow_pos 0) in
    let below = lower_end (b.lo / 2 ^ g) b.lo n' d' (2 ^ up b.exp) (2 ^ down b.exp) (2 ^ up a.exp) (2 ^ down a.exp) (2 ^ g) (2 ^ 0) some scales (omega (arith, floor_below b.lo (2 ^ g))) hb.below in
    let above = upper_end (ceil_div b.hi (2 ^ g)) b.hi n' d' (2 ^ up b.exp) (2 ^ down b.exp) (2 ^ up a.exp) (2 ^ down a.exp) (2 ^ g) (2 ^ 0) some scales (omega (arith, ceil_above b.hi (2 ^ g) (pow_pos g))) hb.above in
    widens_encloses (sum_lo a b) (sum_hi a b) a.exp w.right w.left (norm (sum_lo a b) (sum_hi a b) a.exp) (up a.exp) (down a.exp) (n * d' + n' * d) (d * d') w.widens (omega arith)
    (sum_below a.lo (b.lo / 2 ^ g) (2 ^ up a.exp) d n (2 ^ down a.exp) d' n' ha.below below)
    (sum_above a.hi (ceil_div b.hi (2 ^ g)) (2 ^ up a.exp) d n (2 ^ down a.exp) d' n' ha.above above)

-- the ends of a sum are apart by two units more than the greater loss
ends_loss : (l g h l' g' h' x y t m k : ℕ) → 0 < t → h ≡ l + g → h' ≡ l' + g' → x * t < h' + t → l' < y * t + t → h' ≤ x * t → y ≤ x → g * m ≤ k * h → g' * m ≤ k * h' →
    (g + (x - y)) * m ≤ k * (h + x) + 2 * m
ends_loss l g h l' g' h' x y t m k some e e' high low above le loss loss' =
    let whole : y + (x - y) ≡ x = omega arith in
    let a : (x - y) * t ≤ g' + 2 * t = omega (arith, ap (λ (v : ℕ). v * t) whole) in
    let b : ((x - y) * m) * t ≤ (k * x + 2 * m) * t = omega (arith, mul-le-mul_right m a, mul-le-mul_left k above) in
    omega (arith, le_of_mul-le-mul_right b some)

sum_loss : (a b : Enclosure) → Addends a b → (k : ℕ) → HasLoss a k → HasLoss b k → HasLoss (norm (sum_lo a b) (sum_hi a b) a.exp) (k + 3)
sum_loss a b h k la lb =
    let t : ℕ = 2 ^ gap a.exp b.exp in
    let some : 0 < t = pow_pos (gap a.exp b.exp) in
    let ordered : b.lo / t ≤ ceil_div b.hi t = floor_ceil b.lo b.hi t some h.right.ordered in
    let apart : sum_hi a b - sum_lo a b ≡ (a.hi - a.lo) + (ceil_div b.hi t - b.lo / t) = omega (arith, h.left.ordered, ordered) in
    norm_loss_more (sum_lo a b) (sum_hi a b) a.exp k (sum_ordered a b h) (sum_low a b h) (omega (arith, sum_high a b h))
    (rw apart (ends_loss a.lo (a.hi - a.lo) a.hi b.lo (b.hi - b.lo) b.hi (ceil_div b.hi t) (b.lo / t) t (2 ^ 62) k some (omega (arith, h.left.ordered)) (omega (arith, h.right.ordered))
    (ceil_near b.hi t some) (floor_near b.lo t some) (ceil_above b.hi t some) ordered la lb))

IsSum-norm : (a b : Enclosure) → Addends a b → IsSum a b (norm (sum_lo a b) (sum_hi a b) a.exp)
IsSum-norm a b h =
    let le = sum_ordered a b h in
    let some : 0 < sum_hi a b = omega (arith, sum_low a b h) in
    let fits : sum_hi a b < 2 ^ 128 = omega (arith, sum_high a b h) in
    record {
      valid = norm-IsEnclosure (sum_lo a b) (sum_hi a b) a.exp le some fits;
      encloses = sum_encloses a b h;
      loss = sum_loss a b h;
      zero = (λ z. absurd (omega (arith, norm-positive (sum_lo a b) (sum_hi a b) a.exp le some fits, z)), λ z. absurd (omega (arith, h.left_full, z.0)));
      exponent = λ m ra rb. norm-exponent_settled (sum_lo a b) (sum_hi a b) a.exp m (sum_low a b h) (sum_high a b h) ra;
    }

IsSum-at : (a b : Enclosure) → Addends a b → IsSum a b (plus_at a b)
IsSum-at a b h = rw (plus_at-norm a b) (IsSum-norm a b h)

IsSum-turned : (a b r : Enclosure) → IsSum b a r → IsSum a b r
IsSum-turned a b r h = record {
  valid = h.valid;
  encloses = λ n d n' d' ha hb. rw (add_comm (n * d') (n' * d), mul_comm d d') (h.encloses n' d' n d hb ha);
  loss = λ k la lb. h.loss k lb la;
  zero = (λ z. let both = h.zero.0 z in (both.1, both.0), λ z. h.zero.1 (z.1, z.0));
  exponent = λ m ra rb. h.exponent m rb ra;
}

-- the four cases of a sum
pub plus-zero_left : (a b : Enclosure) → IsZero a → plus a b ≡ b
unfolding plus
plus-zero_left a b e = rw (eq-eqb a.hi 0 e) refl

pub plus-zero_right : (a b : Enclosure) → 0 < a.hi → IsZero b → plus a b ≡ a
unfolding plus
plus-zero_right a b n e = rw (ne_eqb a.hi 0 (λ z. absurd (omega arith)), eq-eqb b.hi 0 e) refl

pub plus-left : (a b : Enclosure) → 0 < a.hi → 0 < b.hi → up b.exp + down a.exp ≤ up a.exp + down b.exp → plus a b ≡ plus_at a b
unfolding plus
plus-left a b m n order = rw (ne_eqb a.hi 0 (λ z. absurd (omega arith)), ne_eqb b.hi 0 (λ z. absurd (omega arith)), eq-eqb (gap b.exp a.exp) 0 (omega arith)) refl

pub plus-right : (a b : Enclosure) → 0 < a.hi → 0 < b.hi → up a.exp + down b.exp < up b.exp + down a.exp → plus a b ≡ plus_at b a
unfolding plus
plus-right a b m n order = rw (ne_eqb a.hi 0 (λ z. absurd (omega arith)), ne_eqb b.hi 0 (λ z. absurd (omega arith)), ne_eqb (gap b.exp a.exp) 0 (λ z. absurd (omega arith))) refl

-- n / d is n m / d m
scaled_below : (l p d n q m : ℕ) → l * p * d ≤ n * q → l * p * (d * m) ≤ (n * m) * q
scaled_below l p d n q m h = omega (arith, mul-le-mul_right m h)

scaled_above : (l p d n q m : ℕ) → n * q ≤ l * p * d → (n * m) * q ≤ l * p * (d * m)
scaled_above l p d n q m h = omega (arith, mul-le-mul_right m h)

pub encloses-scaled : (a : Enclosure) (n d m : ℕ) → Encloses a n d → Encloses a (n * m) (d * m)
encloses-scaled a n d m h = record { below = scaled_below a.lo (2 ^ up a.exp) d n (2 ^ down a.exp) m h.below; above = scaled_above a.hi (2 ^ up a.exp) d n (2 ^ down a.exp) m h.above }

nothing_left : (n d n' d' : ℕ) → n ≡ 0 → n * d' + n' * d ≡ n' * d
nothing_left n d n' d' e = omega (arith, ap (λ (x : ℕ). x * d') e)

IsSum-zero_left : (a b : Enclosure) → IsEnclosure b → IsZero a → IsSum a b b
IsSum-zero_left a b v z = record {
  valid = v;
  encloses = λ n d n' d' ha hb. rw (nothing_left n d n' d' (only_zero a n d z ha), mul_comm d d') (encloses-scaled b n' d' d hb);
  loss = λ k la lb. omega (arith, lb);
  zero = (λ zb. (z, zb), λ both. both.1);
  exponent = λ m ra rb. (omega (arith, rb), omega (arith, rb));
}

pub plus-IsSum : (a b : Enclosure) → IsEnclosure a → IsEnclosure b → IsSum a b (plus a b)
plus-IsSum a b va vb =
    elim (cases_eq a.hi 0) [
      | inl z ↦ rw (plus-zero_left a b z) (IsSum-zero_left a b vb z)
      | inr na ↦ elim (cases_eq b.hi 0) [
        | inl z ↦ rw (plus-zero_right a b (omega arith) z) (IsSum-turned a b a (IsSum-zero_left b a va z))
        | inr nb ↦ elim (cases_lt (up a.exp + down b.exp) (up b.exp + down a.exp)) [
          | inl less ↦ rw (plus-right a b (omega arith) (omega arith) less) (IsSum-turned a b (plus_at b a) (IsSum-at b a (record { left = vb; right = va; left_full = omega arith; right_full = omega arith; order = omega arith })))
          | inr more ↦ rw (plus-left a b (omega arith) (omega arith) more) (IsSum-at a b (record { left = va; right = vb; left_full = omega arith; right_full = omega arith; order = more }))
        ]
      ]
    ]
