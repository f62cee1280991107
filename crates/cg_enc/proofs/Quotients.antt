-- Quotients of enclosures.
use Rattle.std.proofs.Common.{◌≡◌, ℕ, ◌+◌, ◌-◌, ◌*◌, ◌/◌, ◌^◌, ◌<◌, ◌≤◌, ◌↔◌, ap, ℤ, pos, ◌-ℤ◌, inl, inr, arith, refl}
use Rattle.std.proofs.Math.Nat.{mul-le-mul_right, mul-le-mul_left, le_of_mul-le-mul_right, lt_of_mul-lt-mul_right, mul-pos}
use Rattle.std.proofs.lemmas.Bool.{cases_lt, cases_eq, eq-eqb, ne_eqb, lt-ltb, le-ltb}
use Rattle.std.proofs.lemmas.Int.{ints}
use Rattle.std.proofs.lemmas.Nat.{pow_pos}
use Rattle.std.specs.Int.{leading_zeros, w64}
use borrow.Author.Differences.{up, down}
use Rattle.cg_enc.specs.Enclosure.{Enclosure, exact_zero, IsEnclosure, IsExponent, IsFirm, IsZero, Encloses, HasLoss}
use Rattle.cg_enc.specs.Rounding.{ceil_div, over, over_places}
use Rattle.cg_enc.proofs.Divisions.{ceil_above, ceil_near, ceil_least, floor_below, floor_near}
use Rattle.cg_enc.proofs.Powers.{pow_join, pow_le, exponent_less, digits_64}
use Rattle.cg_enc.proofs.Products.{only_zero}
use Rattle.cg_enc.proofs.Scales.{lower_end, upper_end, scales_of}
use Rattle.cg_enc.proofs.Searches.{greatest-is}
use Rattle.cg_enc.proofs.Widening.{moved_exponent}
use Rattle.cg_enc.proofs.WholeNumbers.{zero-encloses, zero-IsEnclosure}

-- what a quotient is
pub record IsQuotient (a b r : Enclosure) : Type 0 where
  pub valid : IsEnclosure r
  pub encloses : (n d n' d' : ℕ) → Encloses a n d → Encloses b n' d' → Encloses r (n * d') (d * n')
  pub loss : (k k' : ℕ) → HasLoss a k → HasLoss b k' → HasLoss r (k + k' + 3)
  pub zero : IsZero r ↔ IsZero a
  pub exponent : (m m' : ℕ) → IsExponent m a.exp → IsExponent m' b.exp → IsExponent (m + m' + 63) r.exp

-- s is the greatest number of places by which hi is moved before it is divided by lo
pub record MovesOver (hi lo s : ℕ) : Type 0 where
  pub is : over_places hi lo ≡ s
  pub near : s ≤ 63
  pub fits : hi * 2 ^ s ≤ (2 ^ 63 - 1) * lo
  pub passes : (2 ^ 63 - 1) * lo < hi * 2 ^ (s + 1)

pub quotient_fits : (n lo : ℕ) → 0 < lo → n ≤ (2 ^ 63 - 1) * lo → ceil_div n lo < 2 ^ 63
quotient_fits n lo some le = let most : ceil_div n lo ≤ 2 ^ 63 - 1 = ceil_least n lo (2 ^ 63 - 1) some le in omega arith

quotient_passes : (n lo : ℕ) → 0 < lo → (2 ^ 63 - 1) * lo < n → 2 ^ 63 ≤ ceil_div n lo
quotient_passes n lo some more =
    let less : (2 ^ 63 - 1) * lo < ceil_div n lo * lo = omega (arith, ceil_above n lo some, more) in
    omega (arith, lt_of_mul-lt-mul_right lo less)

-- moved further, it passes all the more
passes_further : (hi lo s k : ℕ) → s + 1 ≤ k → (2 ^ 63 - 1) * lo < hi * 2 ^ (s + 1) → (2 ^ 63 - 1) * lo < hi * 2 ^ k
passes_further hi lo s k le passes = omega (arith, passes, mul-le-mul_left hi (pow_le (s + 1) k le))

pub moves_over : (hi lo s : ℕ) → 0 < lo → s ≤ 63 → hi * 2 ^ s ≤ (2 ^ 63 - 1) * lo → (2 ^ 63 - 1) * lo < hi * 2 ^ (s + 1) → MovesOver hi lo s
unfolding over_places
moves_over hi lo s some near fits passes = record {
  is = greatest-is _ 63 s near (lt-ltb (ceil_div (hi * 2 ^ s) lo) (2 ^ 63) (quotient_fits (hi * 2 ^ s) lo some fits))
      (λ k more. le-ltb (ceil_div (hi * 2 ^ k) lo) (2 ^ 63) (quotient_passes (hi * 2 ^ k) lo some (passes_further hi lo s k (omega (arith, more)) passes)));
  near = near;
  fits = fits;
  passes = passes;
}

-- a divisor of j + 1 digits moves by j + 1 places where that fits
pub moves_one_more : (hi lo j : ℕ) → 2 ^ 62 ≤ hi → 0 < lo → lo < 2 ^ (j + 1) → j ≤ 62 → hi * 2 ^ (j + 1) ≤ (2 ^ 63 - 1) * lo → MovesOver hi lo (j + 1)
moves_one_more hi lo j full some small le fits =
    let top : 2 ^ 62 * 2 ^ (j + 1 + 1) ≤ hi * 2 ^ (j + 1 + 1) = mul-le-mul_right (2 ^ (j + 1 + 1)) full in
    moves_over hi lo (j + 1) some (omega (arith, le)) fits (omega (arith, top, small, pow_join (j + 1) 1 (j + 1 + 1) refl))

-- and else by j places, which always fits
pub moves_digits : (hi lo j : ℕ) → hi < 2 ^ 63 → 0 < lo → 2 ^ j ≤ lo → j ≤ 62 → (2 ^ 63 - 1) * lo < hi * 2 ^ (j + 1) → MovesOver hi lo j
moves_digits hi lo j most some low le passes =
    let high : hi ≤ 2 ^ 63 - 1 = omega (arith, most) in
    moves_over hi lo j some (omega (arith, le)) (omega (arith, mul-le-mul_right (2 ^ j) high, mul-le-mul_left (2 ^ 63 - 1) low)) passes

-- the places of a divisor's digits
pub divisor_digits : (lo : ℕ) → 0 < lo → lo < 2 ^ 63 → (j : ℕ) × (leading_zeros w64 lo + j ≡ 63) × (2 ^ j ≤ lo) × (lo < 2 ^ (j + 1)) × (j ≤ 62)
divisor_digits lo some fits =
    let t = digits_64 lo some (omega (arith, fits)) in
    let less : t.0 < 63 = exponent_less t.0 63 (omega (arith, fits, t.2)) in
    (t.0, t.1, t.2, t.3, omega arith)

-- every division moves in one of these two ways
pub over_moves : (hi lo : ℕ) → 2 ^ 62 ≤ hi → hi < 2 ^ 63 → 0 < lo → lo < 2 ^ 63 → MovesOver hi lo (over_places hi lo)
over_moves hi lo full most some fits =
    let t = divisor_digits lo some fits in
    elim (cases_lt ((2 ^ 63 - 1) * lo) (hi * 2 ^ (t.0 + 1))) [
      | inl passes ↦ let m = moves_digits hi lo t.0 most some t.2 t.4 passes in rw m.is m
      | inr stays ↦ let m = moves_one_more hi lo t.0 full some t.3 t.4 stays in rw m.is m
    ]

-- two operands, the second firm
pub record Operands (a b : Enclosure) : Type 0 where
  pub left : IsEnclosure a
  pub right : IsEnclosure b
  pub full : 0 < a.hi
  pub firm : IsFirm b

abbrev places : Enclosure → Enclosure → ℕ
places a b = over_places a.hi b.lo

abbrev lower : Enclosure → Enclosure → ℕ
lower a b = a.lo * 2 ^ places a b / b.hi

abbrev upper : Enclosure → Enclosure → ℕ
upper a b = ceil_div (a.hi * 2 ^ places a b) b.lo

pub operands_move : (a b : Enclosure) → Operands a b → MovesOver a.hi b.lo (over_places a.hi b.lo)
operands_move a b h = over_moves a.hi b.lo (h.left.least h.full) h.left.most h.firm (omega (arith, h.right.ordered, h.right.most))

-- the upper end of a quotient has 63 digits
full_of : (n lo u : ℕ) → (2 ^ 63 - 1) * lo < n * 2 → n ≤ u * lo → 2 ^ 62 ≤ u
full_of n lo u passes above =
    let less : (2 ^ 63 - 1) * lo < (u * 2) * lo = omega (arith, passes, above) in
    omega (arith, lt_of_mul-lt-mul_right lo less)

pub over-full : (a b : Enclosure) → Operands a b → 2 ^ 62 ≤ ceil_div (a.hi * 2 ^ over_places a.hi b.lo) b.lo
over-full a b h =
    let m = operands_move a b h in
    full_of (a.hi * 2 ^ places a b) b.lo (upper a b) (omega (arith, m.passes, ap (λ (x : ℕ). a.hi * x) (pow_join (places a b) 1 (places a b + 1) refl))) (ceil_above (a.hi * 2 ^ places a b) b.lo h.firm)

ends_ordered : (l h lo hi l' h' : ℕ) → 0 < h' → l * h' ≤ lo → lo ≤ hi → hi ≤ h * l' → l' ≤ h' → l ≤ h
ends_ordered l h lo hi l' h' some below le above ordered =
    let x : l * h' ≤ h * h' = omega (arith, below, le, above, mul-le-mul_left h ordered) in
    le_of_mul-le-mul_right x some

divisor_full : (a b : Enclosure) → Operands a b → 0 < b.hi
divisor_full a b h = omega (arith, h.firm, h.right.ordered)

pub over-ordered : (a b : Enclosure) → Operands a b → a.lo * 2 ^ over_places a.hi b.lo / b.hi ≤ ceil_div (a.hi * 2 ^ over_places a.hi b.lo) b.lo
over-ordered a b h =
    ends_ordered (lower a b) (upper a b) (a.lo * 2 ^ places a b) (a.hi * 2 ^ places a b) b.lo b.hi (divisor_full a b h) (floor_below (a.lo * 2 ^ places a b) b.hi)
    (mul-le-mul_right (2 ^ places a b) h.left.ordered) (ceil_above (a.hi * 2 ^ places a b) b.lo h.firm) h.right.ordered

pub over-most : (a b : Enclosure) → Operands a b → ceil_div (a.hi * 2 ^ over_places a.hi b.lo) b.lo < 2 ^ 63
over-most a b h = quotient_fits (a.hi * 2 ^ places a b) b.lo h.firm (operands_move a b h).fits

abbrev result : Enclosure → Enclosure → Enclosure
result a b = record { lo = lower a b; hi = upper a b; exp = a.exp -ℤ b.exp -ℤ pos (places a b) }

result-IsEnclosure : (a b : Enclosure) → Operands a b → IsEnclosure (result a b)
result-IsEnclosure a b h = record {
  ordered = over-ordered a b h;
  most = over-most a b h;
  least = λ _. over-full a b h;
  zero_exp = λ z. absurd (omega (arith, over-full a b h, z));
}

-- the lower end of a quotient, over plain numbers
quotient_below : (l lo h' n d n' d' p q p' q' s : ℕ) → l * h' ≤ lo * s → lo * p * d ≤ n * q → n' * q' ≤ h' * p' * d' → l * (p * q') * (d * n') ≤ (n * d') * (q * p' * s)
quotient_below l lo h' n d n' d' p q p' q' s near below above =
    omega (arith, mul-le-mul_left (l * p * d) above, mul-le-mul_right (p * d * p' * d') near, mul-le-mul_right (s * p' * d') below)

quotient_above : (h hi l' n d n' d' p q p' q' s : ℕ) → hi * s ≤ h * l' → n * q ≤ hi * p * d → l' * p' * d' ≤ n' * q' → (n * d') * (q * p' * s) ≤ h * (p * q') * (d * n')
quotient_above h hi l' n d n' d' p q p' q' s near above below =
    omega (arith, mul-le-mul_right (d' * p' * s) above, mul-le-mul_right (p * d * d' * p') near, mul-le-mul_left (h * p * d) below)

-- the scale of a quotient: e is the difference of two exponents, less s
scale_of : (e ea eb : ℤ) (s : ℕ) → e ≡ ea -ℤ eb -ℤ pos s → 2 ^ up e * ((2 ^ down ea * 2 ^ up eb * 2 ^ s) * 2 ^ 0) ≡ (2 ^ up ea * 2 ^ down eb) * (2 ^ down e * 2 ^ 0)
scale_of e ea eb s is =
    rw (pow_join (down ea) (up eb) (down ea + up eb) refl, pow_join (down ea + up eb) s (down ea + up eb + s) refl, pow_join (up ea) (down eb) (up ea + down eb) refl)
    (scales_of (up ea + down eb) (down ea + up eb + s) (up e) (down e) 0 0 (omega (arith, ints, is)))

result_encloses : (a b : Enclosure) → Operands a b → (n d n' d' : ℕ) → Encloses a n d → Encloses b n' d' → Encloses (result a b) (n * d') (d * n')
result_encloses a b h n d n' d' ha hb =
    let s : ℕ = places a b in
    let e : ℤ = a.exp -ℤ b.exp -ℤ pos s in
    let scale = scale_of e a.exp b.exp s refl in
    let some : 0 < (2 ^ down a.exp * 2 ^ up b.exp * 2 ^ s) * 2 ^ 0 = mul-pos (mul-pos (mul-pos (pow_pos (down a.exp)) (pow_pos (up b.exp))) (pow_pos s)) (pow_pos 0) in
    let below = quotient_below (lower a b) a.lo b.hi n d n' d' (2 ^ up a.exp) (2 ^ down a.exp) (2 ^ up b.exp) (2 ^ down b.exp) (2 ^ s) (floor_below (a.lo * 2 ^ s) b.hi) ha.below hb.above in
    let above = quotient_above (upper a b) a.hi b.lo n d n' d' (2 ^ up a.exp) (2 ^ down a.exp) (2 ^ up b.exp) (2 ^ down b.exp) (2 ^ s) (ceil_above (a.hi * 2 ^ s) b.lo h.firm) ha.above hb.below in
    record {
      below = lower_end (lower a b) (lower a b) (n * d') (d * n') (2 ^ up a.exp * 2 ^ down b.exp) (2 ^ down a.exp * 2 ^ up b.exp * 2 ^ s) (2 ^ up e) (2 ^ down e) (2 ^ 0) (2 ^ 0) some scale (omega arith) below;
      above = upper_end (upper a b) (upper a b) (n * d') (d * n') (2 ^ up a.exp * 2 ^ down b.exp) (2 ^ down a.exp * 2 ^ up b.exp * 2 ^ s) (2 ^ up e) (2 ^ down e) (2 ^ 0) (2 ^ 0) some scale (omega arith) above;
    }

less : (l g h : ℕ) → h ≡ l + g → l ≤ h
less l g h e = omega arith

-- what a quotient loses: h is hi s / l' rounded up, l is lo s / h' rounded down
quotient_loss : (l h lo g hi l' g' h' s m k k' : ℕ) → 0 < l' → l ≤ h → hi ≡ lo + g → h' ≡ l' + g' → h * l' < hi * s + l' → lo * s < l * h' + h' → hi * s ≤ h * l' → g * m ≤ k * hi → g' * m ≤ k' * h' →
    (h - l) * m ≤ (k + k') * h + 2 * m
quotient_loss l h lo g hi l' g' h' s m k k' some le e e' near_h near_l above loss loss' =
    let whole : l + (h - l) ≡ h = omega arith in
    let full : 0 < h' = omega arith in
    let near_h' : h * l' + 1 ≤ hi * s + l' = omega arith in
    let near_l' : lo * s + 1 ≤ l * h' + h' = omega arith in
    let top : (h * l' + 1) * h' ≤ (hi * s + l') * h' = mul-le-mul_right h' near_h' in
    let bottom : (lo * s + 1) * l' ≤ (l * h' + h') * l' = mul-le-mul_right l' near_l' in
    let x : (h - l) * (l' * h') ≤ (hi * g' + l' * g) * s + 2 * (l' * h') =
    omega (arith, top, bottom, ap (λ (v : ℕ). v * (l' * h')) whole, ap (λ (v : ℕ). v * (l' * s)) e, ap (λ (v : ℕ). v * (hi * s)) e') in
    let y : ((h - l) * m) * (l' * h') ≤ ((k + k') * h + 2 * m) * (l' * h') =
    omega (arith, mul-le-mul_right m x, mul-le-mul_left (hi * s) loss', mul-le-mul_left (l' * s) loss, mul-le-mul_right (k' * h') above, mul-le-mul_right (k * l') above, mul-le-mul_left (k * h * l') (less l' g' h' e')) in
    le_of_mul-le-mul_right y (mul-pos some full)

result_loss : (a b : Enclosure) → Operands a b → (k k' : ℕ) → HasLoss a k → HasLoss b k' → HasLoss (result a b) (k + k' + 3)
result_loss a b h k k' la lb =
    let s : ℕ = places a b in
    let x = quotient_loss (lower a b) (upper a b) a.lo (a.hi - a.lo) a.hi b.lo (b.hi - b.lo) b.hi (2 ^ s) (2 ^ 62) k k' h.firm (over-ordered a b h)
    (omega (arith, h.left.ordered)) (omega (arith, h.right.ordered)) (ceil_near (a.hi * 2 ^ s) b.lo h.firm) (floor_near (a.lo * 2 ^ s) b.hi (divisor_full a b h)) (ceil_above (a.hi * 2 ^ s) b.lo h.firm) la lb in
    omega (arith, x, over-full a b h)

pub difference_exponent : (e f : ℤ) (m m' : ℕ) → IsExponent m e → IsExponent m' f → IsExponent (m + m') (e -ℤ f)
difference_exponent e f m m' r r' = moved_exponent e (e -ℤ f) (down f) (up f) m m' (omega (arith, ints)) r'.1 r'.0 r

result-exponent : (a b : Enclosure) → Operands a b → (m m' : ℕ) → IsExponent m a.exp → IsExponent m' b.exp → IsExponent (m + m' + 63) (result a b).exp
result-exponent a b h m m' ra rb =
    moved_exponent (a.exp -ℤ b.exp) (a.exp -ℤ b.exp -ℤ pos (places a b)) 0 (places a b) (m + m') 63 (omega (arith, ints)) (omega arith) (operands_move a b h).near (difference_exponent a.exp b.exp m m' ra rb)

pub over-zero : (a b : Enclosure) → IsZero a → over a b ≡ exact_zero
unfolding over
over-zero a b e = rw (eq-eqb a.hi 0 e) refl

pub over-value : (a b : Enclosure) → 0 < a.hi →
    over a b ≡ record { lo = a.lo * 2 ^ over_places a.hi b.lo / b.hi; hi = ceil_div (a.hi * 2 ^ over_places a.hi b.lo) b.lo; exp = a.exp -ℤ b.exp -ℤ pos (over_places a.hi b.lo) }
unfolding over
over-value a b some = rw (ne_eqb a.hi 0 (λ e. absurd (omega arith))) refl

-- nothing over anything is 0
nothing : (n d : ℕ) → n ≡ 0 → n * d ≡ 0
nothing n d e = omega (arith, ap (λ (x : ℕ). x * d) e)

pub over-IsQuotient : (a b : Enclosure) → IsEnclosure a → IsEnclosure b → IsFirm b → IsQuotient a b (over a b)
over-IsQuotient a b va vb firm =
    elim (cases_eq a.hi 0) [
      | inl z ↦ rw (over-zero a b z) (record {
        valid = zero-IsEnclosure;
        encloses = λ n d n' d' ha hb. zero-encloses (n * d') (d * n') (nothing n d' (only_zero a n d z ha));
        loss = λ k k' la lb. omega arith;
        zero = (λ _. z, λ _. refl);
        exponent = λ m m' ra rb. (omega arith, omega arith);
      })
      | inr s ↦
          let h : Operands a b = record { left = va; right = vb; full = omega arith; firm = firm } in
          rw (over-value a b h.full) (record {
            valid = result-IsEnclosure a b h;
            encloses = result_encloses a b h;
            loss = result_loss a b h;
            zero = (λ z. absurd (omega (arith, over-full a b h, z)), λ z. absurd (s z));
            exponent = result-exponent a b h;
          })
    ]
