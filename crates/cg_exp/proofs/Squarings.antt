-- What squaring an enclosure again and again gives.
use Rattle.std.proofs.Common.{◌≡◌, ℕ, zero, suc, ◌+◌, ◌-◌, ◌*◌, ◌^◌, ◌<◌, ◌≤◌, ap, ℤ, pos, negsuc, ◌+ℤ◌, inl, inr, arith, refl, sym, ◌∙◌, add-one}
use Rattle.std.proofs.Math.Nat.{mul-le-mul, mul-le-mul_right, mul-pos, two-pow-succ, pow-zero, pow-suc}
use Rattle.std.proofs.lemmas.Int.{ints}
use Rattle.std.proofs.lemmas.Nat.{pow_pos, pow-add}
use borrow.Author.Differences.{up, down}
use Rattle.cg_enc.specs.Enclosure.{Enclosure, IsEnclosure, IsExponent, Encloses, HasLoss}
use Rattle.cg_enc.specs.Rounding.{times}
use Rattle.cg_enc.proofs.Products.{Factors, times-full, times-IsProduct, times-exponent_exact, product_high}
use Rattle.cg_enc.proofs.Widening.{norm-IsEnclosure, norm-positive}
use Rattle.cg_exp.specs.Exponential.{squared}

pub squared-none : (a : Enclosure) → squared a 0 ≡ a
unfolding squared
squared-none a = refl

pub squared-more : (a : Enclosure) (h : ℕ) → squared a (suc h) ≡ times (squared a h) (squared a h)
unfolding squared
squared-more a h = refl

pub squared-next : (a : Enclosure) (h : ℕ) → squared a (h + 1) ≡ times (squared a h) (squared a h)
squared-next a h = rw add-one (squared-more a h)

-- an enclosure that isn't zero
pub record IsFull (a : Enclosure) : Type 0 where
  pub valid : IsEnclosure a
  pub full : 0 < a.hi

factors : (a : Enclosure) → IsFull a → Factors a a
factors a v = record { left = v.valid; right = v.valid; left_full = v.full; right_full = v.full }

square-IsFull : (a : Enclosure) → IsFull a → IsFull (times a a)
square-IsFull a v =
    let ordered = v.valid.ordered in
    let fits : a.hi * a.hi < 2 ^ 128 = omega (arith, product_high a a (factors a v)) in
    rw (times-full a a v.full v.full) (record {
      valid = norm-IsEnclosure (a.lo * a.lo) (a.hi * a.hi) (a.exp +ℤ a.exp) (mul-le-mul ordered ordered) (mul-pos v.full v.full) fits;
      full = norm-positive (a.lo * a.lo) (a.hi * a.hi) (a.exp +ℤ a.exp) (mul-le-mul ordered ordered) (mul-pos v.full v.full) fits;
    })

pub squared-IsFull : (a : Enclosure) (h : ℕ) → IsFull a → IsFull (squared a h)
squared-IsFull a zero v = rw (squared-none a) v
squared-IsFull a (suc h) v = rw (squared-more a h) (square-IsFull (squared a h) (squared-IsFull a h v))

-- a power whose exponent is doubled
square_power : (n h : ℕ) → n ^ (2 ^ h) * n ^ (2 ^ h) ≡ n ^ (2 ^ suc h)
square_power n h =
    let twice : 2 ^ h + 2 ^ h ≡ 2 ^ suc h = omega (arith, two-pow-succ h) in
    sym (pow-add n (2 ^ h) (2 ^ h)) ∙ ap (λ (x : ℕ). n ^ x) twice

one_power : (n : ℕ) → n ^ (2 ^ 0) ≡ n
one_power n = omega (arith, pow-suc n 0, ap (λ (x : ℕ). x * n) (pow-zero n))

pub squared-encloses : (a : Enclosure) (h n d : ℕ) → IsFull a → Encloses a n d → Encloses (squared a h) (n ^ (2 ^ h)) (d ^ (2 ^ h))
squared-encloses a zero n d v e = rw (squared-none a, one_power n, one_power d) e
squared-encloses a (suc h) n d v e =
    let ih = squared-encloses a h n d v e in
    let f = squared-IsFull a h v in
    rw (squared-more a h, ← square_power n h, ← square_power d h) ((times-IsProduct (squared a h) (squared a h) f.valid f.valid).encloses (n ^ (2 ^ h)) (d ^ (2 ^ h)) (n ^ (2 ^ h)) (d ^ (2 ^ h)) ih ih)

pub loss_more : (a : Enclosure) (k k' : ℕ) → k ≤ k' → HasLoss a k → HasLoss a k'
loss_more a k k' le loss = omega (arith, mul-le-mul_right a.hi le)

doubled : (h : ℕ) → 9 * 2 ^ h - 3 + (9 * 2 ^ h - 3) + 3 ≤ 9 * 2 ^ suc h - 3
doubled h = omega (arith, two-pow-succ h, pow_pos h)

squared-loss_exact : (a : Enclosure) (h : ℕ) → IsFull a → HasLoss a 6 → HasLoss (squared a h) (9 * 2 ^ h - 3)
squared-loss_exact a zero v loss = rw (squared-none a) loss
squared-loss_exact a (suc h) v loss =
    let ih = squared-loss_exact a h v loss in
    let f = squared-IsFull a h v in
    rw (squared-more a h) (loss_more (times (squared a h) (squared a h)) (9 * 2 ^ h - 3 + (9 * 2 ^ h - 3) + 3) (9 * 2 ^ suc h - 3) (doubled h) ((times-IsProduct (squared a h) (squared a h) f.valid f.valid).loss (9 * 2 ^ h - 3) (9 * 2 ^ h - 3) ih ih))

-- a loss of 6 and the 3 of each product are doubled by each squaring
pub squared-loss : (a : Enclosure) (h : ℕ) → IsFull a → HasLoss a 6 → HasLoss (squared a h) (9 * 2 ^ h)
squared-loss a h v loss = loss_more (squared a h) (9 * 2 ^ h - 3) (9 * 2 ^ h) (omega arith) (squared-loss_exact a h v loss)

-- an exponent e with -m ≤ e + 62 < m: of a number between 2 ^ -m and 2 ^ m
pub record IsNear (m : ℕ) (e : ℤ) : Type 0 where
  pub low : down e ≤ up e + 62 + m
  pub high : up e + 63 ≤ down e + m

near_twice : (e z : ℤ) (m m' s : ℕ) → m' ≡ m + m → 62 ≤ s → s ≤ 63 → up z + (down e + down e) ≡ down z + (up e + up e) + s → IsNear m e → IsNear m' z
near_twice e z m m' s twice least most h v = record { low = omega (arith, v.low, v.high); high = omega (arith, v.low, v.high) }

square-exponent : (a : Enclosure) (m m' : ℕ) → m' ≡ m + m → IsFull a → IsNear m a.exp → IsNear m' (times a a).exp
square-exponent a m m' twice v near =
    elim (times-exponent_exact a a (factors a v)) [
      | inl x ↦ rw x (near_twice a.exp (a.exp +ℤ a.exp +ℤ pos 62) m m' 62 twice (omega arith) (omega arith) (omega (arith, ints)) near)
      | inr x ↦ rw x (near_twice a.exp (a.exp +ℤ a.exp +ℤ pos 63) m m' 63 twice (omega arith) (omega arith) (omega (arith, ints)) near)
    ]

pub squared-exponent : (a : Enclosure) (h : ℕ) → IsFull a → IsNear 1 a.exp → IsNear (2 ^ h) (squared a h).exp
squared-exponent a zero v near = rw (squared-none a) near
squared-exponent a (suc h) v near =
    rw (squared-more a h) (square-exponent (squared a h) (2 ^ h) (2 ^ suc h) (omega (arith, two-pow-succ h)) (squared-IsFull a h v) (squared-exponent a h v near))

pub near-IsExponent : (e : ℤ) (m k : ℕ) → m + 62 ≤ k → IsNear m e → IsExponent k e
near-IsExponent (pos n) m k le near = (omega (arith, near.high), omega arith)
near-IsExponent (negsuc n) m k le near = (omega arith, omega (arith, near.low))
