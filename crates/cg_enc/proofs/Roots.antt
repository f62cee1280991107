-- Roots of enclosures.
use Rattle.std.proofs.Common.{◌≡◌, ℕ, ◌+◌, ◌-◌, ◌*◌, ◌^◌, ◌<◌, ◌≤◌, ◌↔◌, ◌∙◌, sym, ap, ℤ, pos, negsuc, ◌+ℤ◌, ◌-ℤ◌, inl, inr, leb, arith, refl}
use Rattle.std.proofs.Math.Nat.{mul-le-mul, mul-le-mul_right, mul-le-mul_left, le_of_mul-le-mul_right, le-mul_of_pos_right}
use Rattle.std.proofs.lemmas.Bool.{cases_lt, cases_eq, eq-eqb, ne_eqb, le-leb, lt-leb, leb-true}
use Rattle.std.proofs.lemmas.Int.{ints}
use Rattle.std.proofs.lemmas.Nat.{pow_pos}
use borrow.Author.Differences.{up, down}
use Rattle.cg_root.specs.Root.{IsRootBelow, IsRootAbove}
use Rattle.cg_enc.specs.Enclosure.{Enclosure, exact_zero, IsEnclosure, IsExponent, IsZero, Encloses, HasLoss}
use Rattle.cg_enc.specs.Rounding.{norm, root, root_below, root_above, root_places, half}
use Rattle.cg_enc.proofs.Powers.{pow_join, pow_le}
use Rattle.cg_enc.proofs.Products.{only_zero}
use Rattle.cg_enc.proofs.Searches.{least-is, greatest-is, least-passes, least-least, greatest-passes, greatest-greatest}
use Rattle.cg_enc.proofs.Settling.{norm-exponent_cases}
use Rattle.cg_enc.proofs.Widening.{norm_encloses, norm_loss_more, norm-positive}
use Rattle.cg_enc.proofs.WholeNumbers.{zero-encloses}

-- what a root is
pub record IsRoot (a r : Enclosure) : Type 0 where
  pub encloses : (n d : ℕ) → Encloses a (n * n) (d * d) → Encloses r n d
  pub loss : (k : ℕ) → HasLoss a k → HasLoss r (k + 3)
  pub zero : IsZero r ↔ IsZero a
  pub exponent : (m : ℕ) → IsExponent m a.exp → IsExponent (m + 31) r.exp

-- squares are ordered as their roots are
pub root_le : (x y : ℕ) → x * x ≤ y * y → x ≤ y
root_le x y h = elim (cases_lt y x) [ inr le ↦ le | inl less ↦ absurd (omega (arith, mul-le-mul less less)) ]

self_below : (x : ℕ) → x ≤ x * x
self_below x = elim (cases_eq x 0) [ inl z ↦ omega (arith, z) | inr n ↦ le-mul_of_pos_right x (omega arith) ]

-- only 0 has the square 0
square_zero : (n : ℕ) → n * n ≡ 0 → n ≡ 0
square_zero n e = omega (arith, self_below n, e)

pub root_below-is : (n r : ℕ) → IsRootBelow n r → r ≡ root_below n
unfolding root_below
root_below-is n r h =
    sym (greatest-is _ n r (omega (arith, self_below r, h.square)) (le-leb (r * r) n h.square) (λ k more.
    elim (cases_lt n (k * k)) [ inl less ↦ lt-leb (k * k) n less | inr le ↦ absurd (omega (arith, more, h.greatest k le)) ]))

pub root_above-is : (n r : ℕ) → IsRootAbove n r → r ≡ root_above n
unfolding root_above
root_above-is n r h =
    sym (least-is _ n r (h.least n (self_below n)) (le-leb n (r * r) h.square) (λ k less.
    elim (cases_lt (k * k) n) [ inl below ↦ lt-leb n (k * k) below | inr le ↦ absurd (omega (arith, less, h.least k le)) ]))

pub IsRootBelow-root_below : (n : ℕ) → IsRootBelow n (root_below n)
unfolding root_below
IsRootBelow-root_below n = record {
  square = leb-true _ n (greatest-passes (λ r. leb (r * r) n) n (le-leb 0 n (omega arith)));
  greatest = λ s le. greatest-greatest (λ r. leb (r * r) n) n s (omega (arith, self_below s, le)) (le-leb (s * s) n le);
}

pub IsRootAbove-root_above : (n : ℕ) → IsRootAbove n (root_above n)
unfolding root_above
IsRootAbove-root_above n = record {
  square = leb-true n _ (least-passes (λ r. leb n (r * r)) n n (omega arith) (le-leb n (n * n) (self_below n)));
  least = λ s le. least-least (λ r. leb n (r * r)) n s (le-leb n (s * s) le);
}

-- the two rounded roots of an enclosure's ends, moved by t places
pub record Ends (a : Enclosure) (t v u : ℕ) : Type 0 where
  pub valid : IsEnclosure a
  pub full : 0 < a.hi
  pub places : t ≡ root_places a.exp
  pub lower : IsRootBelow (a.lo * 2 ^ t) v
  pub upper : IsRootAbove (a.hi * 2 ^ t) u

pub places_near : (e : ℤ) → (62 ≤ root_places e) × (root_places e ≤ 63)
places_near e = (omega arith, omega arith)

moved_high : (a : Enclosure) (t : ℕ) → IsEnclosure a → t ≤ 63 → a.hi * 2 ^ t < 2 ^ 126
moved_high a t v le = let most : a.hi ≤ 2 ^ 63 - 1 = omega (arith, v.most) in omega (arith, mul-le-mul most (pow_le t 63 le))

-- what is rooted is below 2 ^ 126
pub hi_fits : (a : Enclosure) (t : ℕ) → IsEnclosure a → t ≡ root_places a.exp → a.hi * 2 ^ t < 2 ^ 126
hi_fits a t v e = moved_high a t v (omega (arith, e, places_near a.exp))

pub lo_fits : (a : Enclosure) (t : ℕ) → IsEnclosure a → t ≡ root_places a.exp → a.lo * 2 ^ t < 2 ^ 126
lo_fits a t v e = omega (arith, hi_fits a t v e, mul-le-mul_right (2 ^ t) v.ordered)

pub ends_ordered : (a : Enclosure) (t v u : ℕ) → Ends a t v u → v ≤ u
ends_ordered a t v u h = root_le v u (omega (arith, h.lower.square, h.upper.square, mul-le-mul_right (2 ^ t) h.valid.ordered))

pub upper_full : (a : Enclosure) (t v u : ℕ) → Ends a t v u → 2 ^ 62 ≤ u
upper_full a t v u h =
    let more : 2 ^ 62 ≤ 2 ^ t = pow_le 62 t (omega (arith, h.places, places_near a.exp)) in
    root_le (2 ^ 62) u (omega (arith, h.upper.square, mul-le-mul (h.valid.least h.full) more))

pub upper_most : (a : Enclosure) (t v u : ℕ) → Ends a t v u → u ≤ 2 ^ 63
upper_most a t v u h = h.upper.least (2 ^ 63) (omega (arith, hi_fits a t h.valid h.places))

-- the exponent of a root
pub half_twice : (e : ℤ) (t : ℕ) → t ≡ root_places e → up e + (down (half (e -ℤ pos t)) + down (half (e -ℤ pos t))) ≡ down e + (up (half (e -ℤ pos t)) + up (half (e -ℤ pos t))) + t
half_twice e t is = omega (arith, ints, is)

-- an integer's part above 0 is its difference where that is above 0, and so for the part below
parts : (z : ℤ) (m k : ℕ) → up z ≤ m + down z → down z ≤ k + up z → (up z ≤ m) × (down z ≤ k)
parts (pos n) m k above below = (omega (arith, above), omega arith)
parts (negsuc n) m k above below = (omega arith, omega (arith, below))

half-exponent : (e f z : ℤ) (t m c : ℕ) → t ≡ root_places e → up e + (down f + down f) ≡ down e + (up f + up f) + t → up z + down f ≡ up f + down z + c → c ≤ 1 → IsExponent m e → IsExponent (m + 31) z
half-exponent e f z t m c is twice moved le r = parts z (m + 31) (m + 31) (omega (arith, is, twice, moved, le, r)) (omega (arith, is, twice, moved, le, r))

-- the scale of a root
scale_of : (e f : ℤ) (t : ℕ) → up e + (down f + down f) ≡ down e + (up f + up f) + t → 2 ^ up e * (2 ^ down f * 2 ^ down f) ≡ 2 ^ down e * (2 ^ up f * 2 ^ up f) * 2 ^ t
scale_of e f t h =
    let left : 2 ^ up e * (2 ^ down f * 2 ^ down f) ≡ 2 ^ (up e + (down f + down f)) = rw (pow_join (down f) (down f) (down f + down f) refl) (pow_join (up e) (down f + down f) (up e + (down f + down f)) refl) in
    let right : 2 ^ down e * (2 ^ up f * 2 ^ up f) * 2 ^ t ≡ 2 ^ (up e + (down f + down f)) =
    rw (pow_join (up f) (up f) (up f + up f) refl, pow_join (down e) (up f + up f) (down e + (up f + up f)) refl) (pow_join (down e + (up f + up f)) t (up e + (down f + down f)) (sym h)) in
    left ∙ sym right

-- the lower end of a root, over plain numbers: p, q and p', q' are the scales before and after
root_below_end : (v lo n d p q p' q' t : ℕ) → 0 < q → p * (q' * q') ≡ q * (p' * p') * t → v * v ≤ lo * t → lo * p * (d * d) ≤ n * n * q → v * p' * d ≤ n * q'
root_below_end v lo n d p q p' q' t some scale near below =
    let x : ((v * p' * d) * (v * p' * d)) * q ≤ ((n * q') * (n * q')) * q =
    omega (arith, mul-le-mul_right (p' * p' * d * d * q) near, ap (λ (x : ℕ). lo * d * d * x) scale, mul-le-mul_right (q' * q') below) in
    root_le (v * p' * d) (n * q') (le_of_mul-le-mul_right x some)

root_above_end : (u hi n d p q p' q' t : ℕ) → 0 < q → p * (q' * q') ≡ q * (p' * p') * t → hi * t ≤ u * u → n * n * q ≤ hi * p * (d * d) → n * q' ≤ u * p' * d
root_above_end u hi n d p q p' q' t some scale near above =
    let x : ((n * q') * (n * q')) * q ≤ ((u * p' * d) * (u * p' * d)) * q =
    omega (arith, mul-le-mul_right (p' * p' * d * d * q) near, ap (λ (x : ℕ). hi * d * d * x) scale, mul-le-mul_right (q' * q') above) in
    root_le (n * q') (u * p' * d) (le_of_mul-le-mul_right x some)

ends_enclose : (a : Enclosure) (t v u : ℕ) → Ends a t v u → (n d : ℕ) → Encloses a (n * n) (d * d) → Encloses (record { lo = v; hi = u; exp = half (a.exp -ℤ pos t) }) n d
ends_enclose a t v u h n d e =
    let f : ℤ = half (a.exp -ℤ pos t) in
    let scale = scale_of a.exp f t (half_twice a.exp t h.places) in
    record {
      below = root_below_end v a.lo n d (2 ^ up a.exp) (2 ^ down a.exp) (2 ^ up f) (2 ^ down f) (2 ^ t) (pow_pos (down a.exp)) scale h.lower.square e.below;
      above = root_above_end u a.hi n d (2 ^ up a.exp) (2 ^ down a.exp) (2 ^ up f) (2 ^ down f) (2 ^ t) (pow_pos (down a.exp)) scale h.upper.square e.above;
    }

root_apart : (u v r lo g hi m k : ℕ) → u ≡ v + 2 + r → 0 < u → hi ≡ lo + g → (v + 1 + r) * (v + 1 + r) < hi → lo < (v + 1) * (v + 1) → hi ≤ u * u → g * m ≤ k * hi → r * m ≤ k * u
root_apart u v r lo g hi m k w some e near_u near_v above loss =
    let a : r * u ≤ g = omega (arith, ap (λ (x : ℕ). r * x) w) in
    let b : (r * m) * u ≤ (k * u) * u = omega (arith, mul-le-mul_right m a, mul-le-mul_left k above) in
    le_of_mul-le-mul_right b some

-- what a root loses: u * u is hi rounded up to a square, v * v is lo rounded down
root_loss : (u v lo g hi m k : ℕ) → v ≤ u → 0 < u → hi ≡ lo + g → (u - 1) * (u - 1) < hi → lo < (v + 1) * (v + 1) → hi ≤ u * u → g * m ≤ k * hi → (u - v) * m ≤ k * u + 2 * m
root_loss u v lo g hi m k le some e near_u near_v above loss =
    elim (cases_lt (u - v) 2) [
      | inl near ↦ let small : u - v ≤ 2 = omega arith in omega (arith, mul-le-mul_right m small)
      | inr far ↦
          let w : u ≡ v + 2 + (u - v - 2) = omega arith in
          let one : u - 1 ≡ v + 1 + (u - v - 2) = omega arith in
          let two : u - v ≡ u - v - 2 + 2 = omega arith in
          rw two (omega (arith, root_apart u v (u - v - 2) lo g hi m k w some e (rw one at near_u) near_v above loss))
    ]

-- one unit less above, or more below, passes the square
upper_near : (n u : ℕ) → IsRootAbove n u → 0 < u → (u - 1) * (u - 1) < n
upper_near n u h some = elim (cases_lt ((u - 1) * (u - 1)) n) [ inl less ↦ less | inr le ↦ absurd (omega (arith, some, h.least (u - 1) le)) ]

lower_near : (n v : ℕ) → IsRootBelow n v → n < (v + 1) * (v + 1)
lower_near n v h = elim (cases_lt n ((v + 1) * (v + 1))) [ inl less ↦ less | inr le ↦ absurd (omega (arith, h.greatest (v + 1) le)) ]

whole : (l h : ℕ) → l ≤ h → h ≡ l + (h - l)
whole l h le = omega arith

moved_loss : (g hi t m k : ℕ) → g * m ≤ k * hi → (g * t) * m ≤ k * (hi * t)
moved_loss g hi t m k loss = omega (arith, mul-le-mul_right t loss)

moved_apart : (l g h t : ℕ) → h ≡ l + g → h * t ≡ l * t + g * t
moved_apart l g h t e = omega (arith, ap (λ (x : ℕ). x * t) e)

ends_loss : (a : Enclosure) (t v u : ℕ) → Ends a t v u → (k : ℕ) → HasLoss a k → (u - v) * 2 ^ 62 ≤ k * u + 2 * 2 ^ 62
ends_loss a t v u h k loss =
    let some : 0 < u = omega (arith, upper_full a t v u h) in
    root_loss u v (a.lo * 2 ^ t) ((a.hi - a.lo) * 2 ^ t) (a.hi * 2 ^ t) (2 ^ 62) k (ends_ordered a t v u h) some
    (moved_apart a.lo (a.hi - a.lo) a.hi (2 ^ t) (whole a.lo a.hi h.valid.ordered))
    (upper_near (a.hi * 2 ^ t) u h.upper some) (lower_near (a.lo * 2 ^ t) v h.lower) h.upper.square (moved_loss (a.hi - a.lo) a.hi (2 ^ t) (2 ^ 62) k loss)

IsRoot-ends : (a : Enclosure) (t v u : ℕ) → Ends a t v u → IsRoot a (norm v u (half (a.exp -ℤ pos t)))
IsRoot-ends a t v u h =
    let e : ℤ = half (a.exp -ℤ pos t) in
    let le = ends_ordered a t v u h in
    let full = upper_full a t v u h in
    let most = upper_most a t v u h in
    let fits : u < 2 ^ 128 = omega (arith, most) in
    record {
      encloses = λ n d x. norm_encloses v u e n d le (omega (arith, full)) fits (ends_enclose a t v u h n d x);
      loss = λ k l. norm_loss_more v u e k le full fits (ends_loss a t v u h k l);
      zero = (λ z. absurd (omega (arith, norm-positive v u e le (omega (arith, full)) fits, z)), λ z. absurd (omega (arith, h.full, z)));
      exponent = λ m r.
          let twice = half_twice a.exp t h.places in
          elim (norm-exponent_cases v u e full (omega (arith, most))) [
            | inl x ↦ rw x (half-exponent a.exp e e t m 0 h.places twice (omega arith) (omega arith) r)
            | inr x ↦ rw x (half-exponent a.exp e (e +ℤ pos 1) t m 1 h.places twice (omega (arith, ints)) (omega arith) r)
          ];
    }

pub root-zero : (a : Enclosure) → IsZero a → root a ≡ exact_zero
unfolding root
root-zero a e = rw (eq-eqb a.hi 0 e) refl

pub root-full : (a : Enclosure) → 0 < a.hi → root a ≡ norm (root_below (a.lo * 2 ^ root_places a.exp)) (root_above (a.hi * 2 ^ root_places a.exp)) (half (a.exp -ℤ pos (root_places a.exp)))
unfolding root
root-full a some = rw (ne_eqb a.hi 0 (λ e. absurd (omega arith))) refl

pub root-value : (a : Enclosure) (t v u : ℕ) → Ends a t v u → root a ≡ norm v u (half (a.exp -ℤ pos t))
root-value a t v u h =
    root-full a h.full ∙
    rw (root_below-is (a.lo * 2 ^ t) v h.lower, root_above-is (a.hi * 2 ^ t) u h.upper, h.places) refl

pub root-IsRoot : (a : Enclosure) → IsEnclosure a → IsRoot a (root a)
root-IsRoot a v =
    elim (cases_eq a.hi 0) [
      | inl z ↦ rw (root-zero a z) (record {
        encloses = λ n d h. zero-encloses n d (square_zero n (only_zero a (n * n) (d * d) z h));
        loss = λ k l. omega arith;
        zero = (λ _. z, λ _. refl);
        exponent = λ m r. (omega arith, omega arith);
      })
      | inr s ↦
          let some : 0 < a.hi = omega arith in
          let t : ℕ = root_places a.exp in
          rw (root-full a some) (IsRoot-ends a t (root_below (a.lo * 2 ^ t)) (root_above (a.hi * 2 ^ t)) (record {
            valid = v;
            full = some;
            places = refl;
            lower = IsRootBelow-root_below (a.lo * 2 ^ t);
            upper = IsRootAbove-root_above (a.hi * 2 ^ t);
          }))
    ]
