-- Products of enclosures.
use Rattle.std.proofs.Common.{◌≡◌, ℕ, ◌+◌, ◌-◌, ◌*◌, ◌^◌, ◌<◌, ◌≤◌, ◌↔◌, ap, ℤ, pos, ◌+ℤ◌, inl, inr, ◌⊎◌, arith, refl}
use Rattle.std.proofs.Math.Nat.{mul-le-mul, mul-le-mul_right, mul-le-mul_left, le-mul_of_pos_right, mul-pos}
use Rattle.std.proofs.lemmas.Bool.{cases_lt, cases_eq, eq-eqb, ne_eqb}
use Rattle.std.proofs.lemmas.Int.{ints}
use Rattle.std.proofs.lemmas.Nat.{pow_pos, pow-add}
use borrow.Author.Differences.{up, down}
use Rattle.cg_enc.specs.Enclosure.{Enclosure, exact_zero, IsEnclosure, IsExponent, IsZero, Encloses, HasLoss}
use Rattle.cg_enc.specs.Rounding.{ceil_div, norm, times}
use Rattle.cg_enc.proofs.Norming.{norm-right, right_62, right_63}
use Rattle.cg_enc.proofs.Widening.{Widened, norm_widens, widens_encloses, widens_loss, moved_exponent}
use Rattle.cg_enc.proofs.WholeNumbers.{zero-encloses}

-- what a product is
pub record IsProduct (a b r : Enclosure) : Type 0 where
  pub encloses : (n d n' d' : ℕ) → Encloses a n d → Encloses b n' d' → Encloses r (n * n') (d * d')
  pub loss : (k k' : ℕ) → HasLoss a k → HasLoss b k' → HasLoss r (k + k' + 3)
  pub zero : IsZero r ↔ (IsZero a ⊎ IsZero b)
  pub exponent : (m m' : ℕ) → IsExponent m a.exp → IsExponent m' b.exp → IsExponent (m + m' + 63) r.exp

-- two factors that aren't zero
pub record Factors (a b : Enclosure) : Type 0 where
  pub left : IsEnclosure a
  pub right : IsEnclosure b
  pub left_full : 0 < a.hi
  pub right_full : 0 < b.hi

pub only_zero : (a : Enclosure) (n d : ℕ) → IsZero a → Encloses a n d → n ≡ 0
only_zero a n d e h = omega (arith, h.above, ap (λ (x : ℕ). x * 2 ^ up a.exp * d) e, le-mul_of_pos_right n (pow_pos (down a.exp)))

pub times-zero_left : (a b : Enclosure) → IsZero a → times a b ≡ exact_zero
unfolding times
times-zero_left a b e = rw (eq-eqb a.hi 0 e) refl

pub times-zero_right : (a b : Enclosure) → IsZero b → times a b ≡ exact_zero
unfolding times
times-zero_right a b e = elim (cases_eq a.hi 0) [ inl z ↦ rw (eq-eqb a.hi 0 z) refl | inr n ↦ rw (ne_eqb a.hi 0 n, eq-eqb b.hi 0 e) refl ]

pub times-full : (a b : Enclosure) → 0 < a.hi → 0 < b.hi → times a b ≡ norm (a.lo * b.lo) (a.hi * b.hi) (a.exp +ℤ b.exp)
unfolding times
times-full a b sa sb = rw (ne_eqb a.hi 0 (λ e. absurd (omega arith)), ne_eqb b.hi 0 (λ e. absurd (omega arith))) refl

-- the upper end of a product, before it is rounded
pub product_low : (a b : Enclosure) → Factors a b → 2 ^ 124 ≤ a.hi * b.hi
product_low a b f = let la = f.left.least f.left_full in let lb = f.right.least f.right_full in omega (arith, mul-le-mul la lb)

pub product_high : (a b : Enclosure) → Factors a b → a.hi * b.hi + 2 ^ 63 ≤ 2 ^ 126
product_high a b f =
    let ma : a.hi ≤ 2 ^ 63 - 1 = omega (arith, f.left.most) in
    let mb : b.hi ≤ 2 ^ 63 - 1 = omega (arith, f.right.most) in
    omega (arith, mul-le-mul ma mb)

product_widens : (a b : Enclosure) → Factors a b → Widened (a.lo * b.lo) (a.hi * b.hi) (a.exp +ℤ b.exp) (norm (a.lo * b.lo) (a.hi * b.hi) (a.exp +ℤ b.exp))
product_widens a b f =
    norm_widens (a.lo * b.lo) (a.hi * b.hi) (a.exp +ℤ b.exp) (mul-le-mul f.left.ordered f.right.ordered) (mul-pos f.left_full f.right_full) (omega (arith, product_high a b f))

-- the product of two lower ends
product_ends : (a p d n q a' p' d' n' q' : ℕ) → a * p * d ≤ n * q → a' * p' * d' ≤ n' * q' → (a * a') * (p * p') * (d * d') ≤ (n * n') * (q * q')
product_ends a p d n q a' p' d' n' q' h h' = omega (arith, mul-le-mul h h')

product_encloses : (a b : Enclosure) → Factors a b → (n d n' d' : ℕ) → Encloses a n d → Encloses b n' d' →
    Encloses (norm (a.lo * b.lo) (a.hi * b.hi) (a.exp +ℤ b.exp)) (n * n') (d * d')
product_encloses a b f n d n' d' ha hb =
    let w = product_widens a b f in
    widens_encloses (a.lo * b.lo) (a.hi * b.hi) (a.exp +ℤ b.exp) w.right w.left (norm (a.lo * b.lo) (a.hi * b.hi) (a.exp +ℤ b.exp)) (up a.exp + up b.exp) (down a.exp + down b.exp) (n * n') (d * d') w.widens (omega (arith, ints))
    (rw (pow-add 2 (up a.exp) (up b.exp), pow-add 2 (down a.exp) (down b.exp)) (product_ends a.lo (2 ^ up a.exp) d n (2 ^ down a.exp) b.lo (2 ^ up b.exp) d' n' (2 ^ down b.exp) ha.below hb.below))
    (rw (pow-add 2 (up a.exp) (up b.exp), pow-add 2 (down a.exp) (down b.exp)) (omega (arith, mul-le-mul ha.above hb.above)))

-- h h' - l l' is at most h (h' - l') + h' (h - l)
product_loss : (l g h l' g' h' m k k' : ℕ) → h ≡ l + g → h' ≡ l' + g' → g * m ≤ k * h → g' * m ≤ k' * h' → (h * h' - l * l') * m ≤ (k + k') * (h * h')
product_loss l g h l' g' h' m k k' e e' loss loss' =
    let ll : l ≤ h = omega arith in
    let x : h * h' - l * l' ≤ h * g' + h' * g = omega (arith, ap (λ (x : ℕ). h * x) e', ap (λ (x : ℕ). l' * x) e, mul-le-mul_right g ll, ap (λ (x : ℕ). g * x) e', mul-le-mul_right l' ll) in
    omega (arith, mul-le-mul_right m x, mul-le-mul_left h loss', mul-le-mul_left h' loss)

-- a product moves by 62 or 63 places
norm-exponent_exact : (lo hi : ℕ) (e : ℤ) → 2 ^ 124 ≤ hi → hi + 2 ^ 63 ≤ 2 ^ 126 → ((norm lo hi e).exp ≡ e +ℤ pos 62) ⊎ ((norm lo hi e).exp ≡ e +ℤ pos 63)
norm-exponent_exact lo hi e low high =
    elim (cases_lt (ceil_div hi (2 ^ 62)) (2 ^ 63)) [
      | inl small ↦ inl (rw (norm-right lo hi 62 e (omega arith) (right_62 hi low small)) refl)
      | inr large ↦ inr (rw (norm-right lo hi 63 e (omega arith) (right_63 hi high large)) refl)
    ]

pub times-exponent_exact : (a b : Enclosure) → Factors a b → ((times a b).exp ≡ a.exp +ℤ b.exp +ℤ pos 62) ⊎ ((times a b).exp ≡ a.exp +ℤ b.exp +ℤ pos 63)
times-exponent_exact a b f = rw (times-full a b f.left_full f.right_full) (norm-exponent_exact (a.lo * b.lo) (a.hi * b.hi) (a.exp +ℤ b.exp) (product_low a b f) (product_high a b f))

pub sum_exponent : (e f : ℤ) (m m' : ℕ) → IsExponent m e → IsExponent m' f → IsExponent (m + m') (e +ℤ f)
sum_exponent e f m m' r r' = moved_exponent e (e +ℤ f) (up f) (down f) m m' (omega (arith, ints)) r'.0 r'.1 r

product_exponent : (a b : Enclosure) → Factors a b → (m m' : ℕ) → IsExponent m a.exp → IsExponent m' b.exp → IsExponent (m + m' + 63) (norm (a.lo * b.lo) (a.hi * b.hi) (a.exp +ℤ b.exp)).exp
product_exponent a b f m m' ra rb =
    let e : ℤ = a.exp +ℤ b.exp in
    let both : IsExponent (m + m') e = sum_exponent a.exp b.exp m m' ra rb in
    elim (norm-exponent_exact (a.lo * b.lo) (a.hi * b.hi) e (product_low a b f) (product_high a b f)) [
      | inl x ↦ rw x (moved_exponent e (e +ℤ pos 62) 62 0 (m + m') 63 (omega (arith, ints)) (omega arith) (omega arith) both)
      | inr x ↦ rw x (moved_exponent e (e +ℤ pos 63) 63 0 (m + m') 63 (omega (arith, ints)) (omega arith) (omega arith) both)
    ]

IsProduct-full : (a b : Enclosure) → Factors a b → IsProduct a b (norm (a.lo * b.lo) (a.hi * b.hi) (a.exp +ℤ b.exp))
IsProduct-full a b f =
    let w = product_widens a b f in
    record {
      encloses = product_encloses a b f;
      loss = λ k k' la lb. widens_loss (a.lo * b.lo) (a.hi * b.hi) (a.exp +ℤ b.exp) w.right w.left (norm (a.lo * b.lo) (a.hi * b.hi) (a.exp +ℤ b.exp)) (k + k') w.widens (mul-le-mul f.left.ordered f.right.ordered)
          (product_loss a.lo (a.hi - a.lo) a.hi b.lo (b.hi - b.lo) b.hi (2 ^ 62) k k' (omega (arith, f.left.ordered)) (omega (arith, f.right.ordered)) la lb);
      zero = (λ z. absurd (omega (arith, w.widens.full, z)), λ z. elim z [ inl x ↦ absurd (omega (arith, f.left_full, x)) | inr x ↦ absurd (omega (arith, f.right_full, x)) ]);
      exponent = product_exponent a b f;
    }

-- nothing times anything is 0
nothing_left : (n n' : ℕ) → n ≡ 0 → n * n' ≡ 0
nothing_left n n' e = omega (arith, ap (λ (x : ℕ). x * n') e)

nothing_right : (n n' : ℕ) → n' ≡ 0 → n * n' ≡ 0
nothing_right n n' e = omega (arith, ap (λ (x : ℕ). n * x) e)

IsProduct-zero : (a b : Enclosure) → IsZero a ⊎ IsZero b → IsProduct a b exact_zero
IsProduct-zero a b z = record {
  encloses = λ n d n' d' ha hb. zero-encloses (n * n') (d * d') (elim z [ inl za ↦ nothing_left n n' (only_zero a n d za ha) | inr zb ↦ nothing_right n n' (only_zero b n' d' zb hb) ]);
  loss = λ k k' la lb. omega arith;
  zero = (λ _. z, λ _. refl);
  exponent = λ m m' ra rb. (omega arith, omega arith);
}

pub times-IsProduct : (a b : Enclosure) → IsEnclosure a → IsEnclosure b → IsProduct a b (times a b)
times-IsProduct a b va vb =
    elim (cases_eq a.hi 0) [
      | inl za ↦ rw (times-zero_left a b za) (IsProduct-zero a b (inl za))
      | inr na ↦ elim (cases_eq b.hi 0) [
        | inl zb ↦ rw (times-zero_right a b zb) (IsProduct-zero a b (inr zb))
        | inr nb ↦
            let sa : 0 < a.hi = omega arith in
            let sb : 0 < b.hi = omega arith in
            rw (times-full a b sa sb) (IsProduct-full a b (record { left = va; right = vb; left_full = sa; right_full = sb }))
      ]
    ]
