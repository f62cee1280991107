-- By how many places the normal form moves.
use Rattle.std.proofs.Common.{◌≡◌, ℕ, ◌+◌, ◌-◌, ◌*◌, ◌/◌, ◌^◌, ◌<◌, ◌≤◌, ap, ℤ, pos, ◌+ℤ◌, ◌-ℤ◌, inl, inr, lit<, arith, refl}
use Rattle.std.proofs.lemmas.Bool.{cases_lt, cases_eq, lt-ltb, le-ltb, le-leb, lt-leb}
use Rattle.std.proofs.lemmas.Int.{ints}
use Rattle.std.proofs.lemmas.Nat.{pow_pos}
use Rattle.std.proofs.Math.Nat.{mul-le-mul_left, mul-le-mul_right, lt_of_mul-lt-mul_right}
use Rattle.std.specs.Int.{leading_zeros, w64, w128}
use Rattle.cg_enc.specs.Enclosure.{Enclosure}
use Rattle.cg_enc.specs.Rounding.{ceil_div, left, right, norm}
use Rattle.cg_enc.proofs.Divisions.{ceil_above, ceil_near, ceil_least}
use Rattle.cg_enc.proofs.Powers.{pow_join, pow_le, less_pow, exponent_less, digits_64, digits_128, digits_left, ceil_at, ceil_large, ceil_most}
use Rattle.cg_enc.proofs.Searches.{least-is}

-- two enclosures with equal numbers are equal
pub same : (l h l' h' : ℕ) (e e' : ℤ) → l ≡ l' → h ≡ h' → e ≡ e' → ◌≡◌ {A = Enclosure} (record { lo = l; hi = h; exp = e }) (record { lo = l'; hi = h'; exp = e' })
same l h l' h' e e' x y z = rw (x, y, z) refl

pub norm-same : (l h l' h' : ℕ) (e e' : ℤ) → l ≡ l' → h ≡ h' → e ≡ e' → norm l h e ≡ norm l' h' e'
norm-same l h l' h' e e' x y z = rw (x, y, z) refl

-- a small upper end is moved left to 63 digits
pub left-is : (n s : ℕ) → s ≤ 62 → 2 ^ 62 ≤ n * 2 ^ s → n * 2 ^ s < 2 ^ 63 → left n ≡ s
unfolding left
left-is n s le low high =
    least-is _ 62 s le (le-leb (2 ^ 62) (n * 2 ^ s) low) (λ k less.
    let more : 2 ^ (k + 1) ≤ 2 ^ s = pow_le (k + 1) s (omega arith) in
    lt-leb (2 ^ 62) (n * 2 ^ k) (omega (arith, high, ap (λ (x : ℕ). n * x) (pow_join k 1 (k + 1) refl), mul-le-mul_left n more)))

-- a large upper end is moved right by s + 1, where s isn't enough and s + 1 is
pub right-is : (n s : ℕ) → 2 ^ 63 ≤ ceil_div n (2 ^ s) → ceil_div n (2 ^ (s + 1)) < 2 ^ 63 → right n ≡ s + 1
unfolding right
right-is n s large small =
    let x : 2 ^ 63 * 2 ^ s ≤ ceil_div n (2 ^ s) * 2 ^ s = omega (arith, mul-le-mul_left (2 ^ s) large) in
    let within : s + 1 ≤ n = omega (arith, x, ceil_near n (2 ^ s) (pow_pos s), less_pow s) in
    least-is _ n (s + 1) within (lt-ltb (ceil_div n (2 ^ (s + 1))) (2 ^ 63) small) (λ k less.
    le-ltb (ceil_div n (2 ^ k)) (2 ^ 63) (omega (arith, large, ceil_at n k s (omega arith))))

-- one place more, where the rounded upper end is 2 ^ 63
right_next : (n s : ℕ) → ceil_div n (2 ^ s) ≡ 2 ^ 63 → ceil_div n (2 ^ (s + 1)) ≡ 2 ^ 62
right_next n s e =
    let two : 2 ^ s * 2 ^ 1 ≡ 2 ^ (s + 1) = pow_join s 1 (s + 1) refl in
    let high : ceil_div n (2 ^ (s + 1)) ≤ 2 ^ 62 = ceil_least n (2 ^ (s + 1)) (2 ^ 62) (pow_pos (s + 1)) (omega (arith, two, ceil_above n (2 ^ s) (pow_pos s), ap (λ (x : ℕ). x * 2 ^ s) e)) in
    let low : 2 ^ 62 * 2 ^ (s + 1) < (ceil_div n (2 ^ (s + 1)) + 1) * 2 ^ (s + 1) =
    omega (arith, two, pow_pos s, ceil_above n (2 ^ (s + 1)) (pow_pos (s + 1)), ceil_near n (2 ^ s) (pow_pos s), ap (λ (x : ℕ). x * 2 ^ s) e) in
    omega (arith, high, lt_of_mul-lt-mul_right (2 ^ (s + 1)) low)

-- what a move to the right does to a large upper end
pub record MovesRight (n s : ℕ) : Type 0 where
  pub is : right n ≡ s
  pub full : 2 ^ 62 ≤ ceil_div n (2 ^ s)
  pub most : ceil_div n (2 ^ s) < 2 ^ 63
  pub near : s ≤ 66

-- a number of j + 1 digits is moved by j - 62 places where its upper end then fits
pub moves_right : (n s : ℕ) → 2 ^ (s + 63) ≤ n → n < 2 ^ (s + 64) → s ≤ 64 → ceil_div n (2 ^ (s + 1)) < 2 ^ 63 → MovesRight n (s + 1)
moves_right n s low high le small = record {
  is = right-is n s (ceil_large n (s + 63) s 63 (omega arith) low) small;
  full = ceil_large n (s + 63) (s + 1) 62 (omega arith) low;
  most = small;
  near = omega arith;
}

-- and by one more where it is rounded up to 2 ^ 63
pub moves_more : (n s : ℕ) → 2 ^ (s + 63) ≤ n → n < 2 ^ (s + 64) → s ≤ 64 → 2 ^ 63 ≤ ceil_div n (2 ^ (s + 1)) → MovesRight n (s + 1 + 1)
moves_more n s low high le large =
    let most : ceil_div n (2 ^ (s + 1)) ≤ 2 ^ 63 = ceil_most n (s + 64) (s + 1) 63 (omega arith) (omega arith) in
    let e : ceil_div n (2 ^ (s + 1 + 1)) ≡ 2 ^ 62 = right_next n (s + 1) (omega arith) in
    record {
      is = right-is n (s + 1) large (omega (arith, e));
      full = omega (arith, e);
      most = omega (arith, e);
      near = omega arith;
    }

-- the places of a number's digits, for a number of at least 2 ^ 63
pub large_digits : (n : ℕ) → 2 ^ 63 ≤ n → n < 2 ^ 128 → (s : ℕ) × (leading_zeros w128 n + s ≡ 64) × (2 ^ (s + 63) ≤ n) × (n < 2 ^ (s + 64))
large_digits n large fits =
    let t = digits_128 n (omega arith) fits in
    let more : 63 < t.0 + 1 = exponent_less 63 (t.0 + 1) (omega (arith, large, t.3)) in
    let e : t.0 ≡ t.0 - 63 + 63 = omega arith in
    let e' : t.0 + 1 ≡ t.0 - 63 + 64 = omega arith in
    (t.0 - 63, omega (arith, t.1, more), rw e at t.2, rw e' at t.3)

-- every large number is moved in one of these two ways
pub right_moves : (n : ℕ) → 2 ^ 63 ≤ n → n < 2 ^ 128 → MovesRight n (right n)
right_moves n large fits =
    let t = large_digits n large fits in
    let near : t.0 ≤ 64 = omega (arith, t.1) in
    elim (cases_lt (ceil_div n (2 ^ (t.0 + 1))) (2 ^ 63)) [
      | inl small ↦ let m = moves_right n t.0 t.2 t.3 near small in rw m.is m
      | inr big ↦ let m = moves_more n t.0 t.2 t.3 near big in rw m.is m
    ]

-- a sum of two full upper ends is moved by one place
pub right_one : (n : ℕ) → 2 ^ 63 ≤ n → n + 2 ≤ 2 ^ 64 → right n ≡ 1
right_one n large fits = right-is n 0 (ceil_large n 63 0 63 (omega arith) large) (omega (arith, ceil_near n 2 (lit< tt)))

-- the two moves that a product of two full upper ends can need
pub right_62 : (n : ℕ) → 2 ^ 124 ≤ n → ceil_div n (2 ^ 62) < 2 ^ 63 → right n ≡ 62
right_62 n low small = right-is n 61 (ceil_large n 124 61 63 (omega arith) low) small

pub right_63 : (n : ℕ) → n + 2 ^ 63 ≤ 2 ^ 126 → 2 ^ 63 ≤ ceil_div n (2 ^ 62) → right n ≡ 63
right_63 n high large = right-is n 62 large (omega (arith, ceil_near n (2 ^ 63) (lit< tt)))

-- an upper end that is full already isn't moved left
pub still : (hi s : ℕ) → 2 ^ 62 ≤ hi → hi * 2 ^ s < 2 ^ 63 → s ≡ 0
still hi s full high = elim (cases_eq s 0) [ inl z ↦ z | inr n ↦ absurd (omega (arith, full, high, mul-le-mul_left hi (pow_le 1 s (omega arith)))) ]

-- the places of a number's digits, for a number below 2 ^ 63
pub small_digits : (n : ℕ) → 0 < n → n < 2 ^ 63 → (s : ℕ) × (leading_zeros w64 n ≡ s + 1) × (2 ^ 62 ≤ n * 2 ^ s) × (n * 2 ^ s < 2 ^ 63)
small_digits n some small =
    let t = digits_64 n some (omega arith) in
    let less : t.0 < 63 = exponent_less t.0 63 (omega (arith, small, t.2)) in
    let moved = digits_left n t.0 (62 - t.0) 62 (omega (arith, less)) t.2 t.3 in
    (62 - t.0, omega (arith, t.1, less), moved.0, moved.1)

-- a move to 63 digits has at most 62 places
pub left_near : (n s : ℕ) → 0 < n → n * 2 ^ s < 2 ^ 63 → s ≤ 62
left_near n s some high =
    let one : 1 * 2 ^ s ≤ n * 2 ^ s = mul-le-mul_right (2 ^ s) some in
    let less : s < 63 = exponent_less s 63 (omega (arith, one, high)) in
    omega arith

-- the normal form of ends below 2 ^ 63
pub norm-left : (lo hi s : ℕ) (e : ℤ) → 0 < hi → 2 ^ 62 ≤ hi * 2 ^ s → hi * 2 ^ s < 2 ^ 63 → norm lo hi e ≡ record { lo = lo * 2 ^ s; hi = hi * 2 ^ s; exp = e -ℤ pos s }
unfolding norm
norm-left lo hi s e some low high =
    elim (cases_lt hi (2 ^ 62)) [
      | inl small ↦ rw (lt-ltb hi (2 ^ 62) small, left-is hi s (left_near hi s some high) low high) refl
      | inr full ↦
          let none : s ≡ 0 = still hi s full high in
          rw (le-ltb hi (2 ^ 62) full, lt-ltb hi (2 ^ 63) (omega (arith, high, ap (λ (x : ℕ). hi * 2 ^ x) none)))
          (same _ _ _ _ _ _ (rw none (omega arith)) (rw none (omega arith)) (rw none (omega (arith, ints))))
    ]

pub norm-as_is : (lo hi : ℕ) (e : ℤ) → 2 ^ 62 ≤ hi → hi < 2 ^ 63 → norm lo hi e ≡ record { lo = lo; hi = hi; exp = e }
unfolding norm
norm-as_is lo hi e low high = rw (le-ltb hi (2 ^ 62) low, lt-ltb hi (2 ^ 63) high) refl

pub norm-right : (lo hi s : ℕ) (e : ℤ) → 2 ^ 63 ≤ hi → right hi ≡ s → norm lo hi e ≡ record { lo = lo / 2 ^ s; hi = ceil_div hi (2 ^ s); exp = e +ℤ pos s }
unfolding norm
norm-right lo hi s e large at = rw (le-ltb hi (2 ^ 62) (omega arith), le-ltb hi (2 ^ 63) large, at) refl
