-- The rounded rule stands on the two sides of the exact one by turns.
use Rattle.std.proofs.Common.{◌≡◌, ℕ, zero, suc, ◌+◌, ◌-◌, ◌*◌, ◌/◌, ◌%◌, ◌^◌, ◌<◌, ◌≤◌, inl, inr, arith, refl, ap, ◌∙◌, subst, add-one}
use Rattle.std.proofs.Math.Nat.{mul-le-mul_left, mul-le-mul_right, mul-pos}
use Rattle.std.proofs.lemmas.Bool.{cases_eq, eq-eqb, ne_eqb}
use Rattle.cg_enc.specs.Rounding.{ceil_div}
use Rattle.cg_enc.proofs.Divisions.{ceil_above, ceil_least, floor_below, floor_near}
use Rattle.cg_meaning.specs.Taylor.{terms, denominator, series}
use Rattle.cg_exp.specs.Exponential.{horner_after, step}
use Rattle.cg_exp.proofs.Horner.{Fraction, horner, horner-sum, low_step, high_step}

pub horner_after-first : (low high last : ℕ) → horner_after low high last 0 ≡ 2 ^ 62
unfolding horner_after
horner_after-first low high last = refl

pub horner_after-even : (low high last m : ℕ) → m % 2 ≡ 0 → horner_after low high last (suc m) ≡ 2 ^ 62 - ceil_div (high * horner_after low high last m) (2 ^ 62 * (last - m))
unfolding horner_after
horner_after-even low high last m e = rw (eq-eqb (m % 2) 0 e) refl

pub horner_after-odd : (low high last m : ℕ) → m % 2 ≡ 1 → horner_after low high last (suc m) ≡ 2 ^ 62 - low * horner_after low high last m / (2 ^ 62 * (last - m))
unfolding horner_after
horner_after-odd low high last m e = rw (ne_eqb (m % 2) 0 (λ z. absurd (omega (arith, e)))) refl

pub horner_after-next : (low high last m : ℕ) → horner_after low high last (m + 1) ≡ step low high last m (horner_after low high last m)
unfolding horner_after
horner_after-next low high last m = rw add-one refl

pub horner_after-most : (low high last m : ℕ) → horner_after low high last m ≤ 2 ^ 62
horner_after-most low high last zero = omega (arith, horner_after-first low high last)
horner_after-most low high last (suc m) =
    elim (cases_eq (m % 2) 0) [
      | inl even ↦ omega (arith, horner_after-even low high last m even)
      | inr odd ↦ omega (arith, horner_after-odd low high last m (omega arith))
    ]

-- the exact value after m steps
abbrev pub exact : ℕ → ℕ → ℕ → ℕ → Fraction
exact p q last zero = record { num = 1; den = 1 }
exact p q last (suc m) = let t = exact p q last m in record { num = q * (last - m) * t.den - p * t.num; den = q * (last - m) * t.den }

-- above the exact value after an even number of steps, below it after an odd one
record Stands (v : ℕ) (t : Fraction) (m : ℕ) : Type 0 where
  above : m % 2 ≡ 0 → t.num * 2 ^ 62 ≤ v * t.den
  below : m % 2 ≡ 1 → v * t.den ≤ t.num * 2 ^ 62

stands : (p q low high last m : ℕ) → low * q ≤ p * 2 ^ 62 → p * 2 ^ 62 ≤ high * q → m ≤ last → Stands (horner_after low high last m) (exact p q last m) m
stands p q low high last zero down up le = record { above = λ _. omega (arith, horner_after-first low high last); below = λ e. absurd (omega arith) }
stands p q low high last (suc m) down up le =
    let ih = stands p q low high last m down up (omega arith) in
    let j : 0 < last - m = omega arith in
    let some : 0 < 2 ^ 62 * (last - m) = omega arith in
    elim (cases_eq (m % 2) 0) [
      | inl even ↦ rw (horner_after-even low high last m even) (record {
        above = λ e. absurd (grind arith);
        below = λ _. low_step p q (exact p q last m).num (exact p q last m).den (horner_after low high last m) (2 ^ 62) high (last - m) (ceil_div (high * horner_after low high last m) (2 ^ 62 * (last - m))) (omega arith) (ih.above even) up (ceil_above (high * horner_after low high last m) (2 ^ 62 * (last - m)) some);
      })
      | inr odd ↦
          let one : m % 2 ≡ 1 = omega arith in
          rw (horner_after-odd low high last m one) (record {
            above = λ _. high_step p q (exact p q last m).num (exact p q last m).den (horner_after low high last m) (2 ^ 62) low (last - m) (low * horner_after low high last m / (2 ^ 62 * (last - m))) (omega arith) (ih.below one) down (floor_below (low * horner_after low high last m) (2 ^ 62 * (last - m)));
            below = λ e. absurd (grind arith);
          })
    ]

-- the steps down are Horner's rule
exact-horner : (p q last m : ℕ) → m ≤ last → horner p q (last - m) (exact p q last m).num (exact p q last m).den ≡ horner p q last 1 1
exact-horner p q last zero le = let e : last - 0 ≡ last = omega arith in rw e refl
exact-horner p q last (suc m) le =
    let ih = exact-horner p q last m (omega arith) in
    let e : last - m ≡ suc (last - suc m) = omega arith in
    (rw e refl) ∙ ih

exact-sum : (p q n : ℕ) → p ≤ q → ((exact p q n n).num + terms p q 1 n ≡ terms p q 0 n) × ((exact p q n n).den ≡ denominator q n)
exact-sum p q n le =
    let none : n - n ≡ 0 = omega arith in
    let same : horner p q 0 (exact p q n n).num (exact p q n n).den ≡ horner p q n 1 1 = rw none at (exact-horner p q n n (omega arith)) in
    let h = horner-sum p q n le in
    let num : (exact p q n n).num ≡ (horner p q n 1 1).num = ap (λ (f : Fraction). f.num) same in
    let den : (exact p q n n).den ≡ (horner p q n 1 1).den = ap (λ (f : Fraction). f.den) same in
    (omega (arith, h.0, num), den ∙ h.1)

series_num : (n e o : ℕ) → n + o ≡ e → n ≡ e - o
series_num n e o h = omega arith

-- an odd number of steps ends below the series
pub horner_after-below : (p q low high last : ℕ) → p ≤ q → low * q ≤ p * 2 ^ 62 → p * 2 ^ 62 ≤ high * q → last % 2 ≡ 1 → horner_after low high last last * denominator q last ≤ series p q last * 2 ^ 62
horner_after-below p q low high last le down up odd =
    let s = exact-sum p q last le in
    let num : (exact p q last last).num ≡ series p q last = series_num (exact p q last last).num (terms p q 0 last) (terms p q 1 last) s.0 in
    rw (num, s.1) at ((stands p q low high last last down up (omega arith)).below odd)

-- an even number of steps ends above it
pub horner_after-above : (p q low high last : ℕ) → p ≤ q → low * q ≤ p * 2 ^ 62 → p * 2 ^ 62 ≤ high * q → last % 2 ≡ 0 → series p q last * 2 ^ 62 ≤ horner_after low high last last * denominator q last
horner_after-above p q low high last le down up even =
    let s = exact-sum p q last le in
    let num : (exact p q last last).num ≡ series p q last = series_num (exact p q last last).num (terms p q 0 last) (terms p q 1 last) s.0 in
    rw (num, s.1) at ((stands p q low high last last down up (omega arith)).above even)

-- how far the two chains, from the powers 17 and 16, may be apart at index 16 - m
abbrev pub apart : ℕ → ℕ
apart zero = ceil_div (2 ^ 60) 17
apart (suc m) = 1 + ceil_div (4 + apart m) (4 * (16 - m))

-- two values that are at most r apart are at most 1 + (4 + r) / (4 j) apart after a step
step_apart : (low high s j x u r f c : ℕ) → 0 < s → high ≤ low + 1 → 4 * low ≤ s → u ≤ x + r → u ≤ s → low * x + 1 ≤ (f + 1) * (s * j) → 4 + r ≤ c * (4 * j) → high * u ≤ (f + (1 + c)) * (s * j)
step_apart low high s j x u r f c some near quarter apart below floor ceil =
    let a : high * u ≤ low * x + low * r + s = omega (arith, mul-le-mul_right u near, mul-le-mul_left low apart) in
    let b : 4 * (low * r) + 4 * s ≤ 4 * (c * (s * j)) = omega (arith, mul-le-mul_right r quarter, mul-le-mul_left s ceil) in
    omega (arith, a, b, floor)

round_apart : (low high s j x u r : ℕ) → 0 < s → 0 < j → high ≤ low + 1 → 4 * low ≤ s → u ≤ x + r → u ≤ s →
    ceil_div (high * u) (s * j) ≤ low * x / (s * j) + (1 + ceil_div (4 + r) (4 * j))
round_apart low high s j x u r some positive near quarter apart below =
    let m = mul-pos some positive in
    let four : 0 < 4 * j = omega arith in
    let floor : low * x + 1 ≤ (low * x / (s * j) + 1) * (s * j) = omega (arith, floor_near (low * x) (s * j) m) in
    ceil_least (high * u) (s * j) (low * x / (s * j) + (1 + ceil_div (4 + r) (4 * j))) m
    (step_apart low high s j x u r (low * x / (s * j)) (ceil_div (4 + r) (4 * j)) some near quarter apart below floor (ceil_above (4 + r) (4 * j) four))

joined : (x u s f c r : ℕ) → x ≡ s - f → u ≡ s - c → c ≤ f + r → x ≤ u + r
joined x u s f c r ex eu h = omega (arith, ex, eu, h)

-- the two chains at index 16 - m
record Near (low high m : ℕ) : Type 0 where
  even : m % 2 ≡ 0 → horner_after low high 16 m ≤ horner_after low high 17 (suc m) + apart m
  odd : m % 2 ≡ 1 → horner_after low high 17 (suc m) ≤ horner_after low high 16 m + apart m

nears : (low high m : ℕ) → high ≤ 2 ^ 60 → high ≤ low + 1 → 4 * low ≤ 2 ^ 62 → m ≤ 16 → Near low high m
nears low high zero small near quarter le =
    record {
      even = λ _.
          let c : ceil_div (high * horner_after low high 17 0) (2 ^ 62 * (17 - 0)) ≤ apart 0 = rw (horner_after-first low high 17) (ceil_least (high * 2 ^ 62) (2 ^ 62 * 17) (apart 0) (omega arith) (omega arith)) in
          omega (arith, c, horner_after-even low high 17 0 refl, horner_after-first low high 16);
      odd = λ e. absurd (omega arith);
    }
nears low high (suc m) small near quarter le =
    let ih = nears low high m small near quarter (omega arith) in
    let j : 0 < 16 - m = omega arith in
    let index : 16 - m ≡ 17 - suc m = omega arith in
    elim (cases_eq (m % 2) 0) [
      | inl even ↦
          let flip : suc m % 2 ≡ 1 = grind arith in
          let c = round_apart low high (2 ^ 62) (16 - m) (horner_after low high 17 (suc m)) (horner_after low high 16 m) (apart m) (omega arith) j near quarter (ih.even even) (horner_after-most low high 16 m) in
          record {
            even = λ e. absurd (omega (arith, flip));
            odd = λ _. joined (horner_after low high 17 (suc (suc m))) (horner_after low high 16 (suc m)) (2 ^ 62) (low * horner_after low high 17 (suc m) / (2 ^ 62 * (17 - suc m))) (ceil_div (high * horner_after low high 16 m) (2 ^ 62 * (16 - m))) (apart (suc m))
                (horner_after-odd low high 17 (suc m) flip) (horner_after-even low high 16 m even) (subst (λ (i : ℕ). ceil_div (high * horner_after low high 16 m) (2 ^ 62 * (16 - m)) ≤ low * horner_after low high 17 (suc m) / (2 ^ 62 * i) + apart (suc m)) index c);
          }
      | inr odd ↦
          let flip : suc m % 2 ≡ 0 = grind arith in
          let one : m % 2 ≡ 1 = omega arith in
          let c = round_apart low high (2 ^ 62) (16 - m) (horner_after low high 16 m) (horner_after low high 17 (suc m)) (apart m) (omega arith) j near quarter (ih.odd one) (horner_after-most low high 17 (suc m)) in
          record {
            even = λ _. joined (horner_after low high 16 (suc m)) (horner_after low high 17 (suc (suc m))) (2 ^ 62) (low * horner_after low high 16 m / (2 ^ 62 * (16 - m))) (ceil_div (high * horner_after low high 17 (suc m)) (2 ^ 62 * (17 - suc m))) (apart (suc m))
                (horner_after-odd low high 16 m one) (horner_after-even low high 17 (suc m) flip) (subst (λ (i : ℕ). ceil_div (high * horner_after low high 17 (suc m)) (2 ^ 62 * i) ≤ low * horner_after low high 16 m / (2 ^ 62 * (16 - m)) + apart (suc m)) index c);
            odd = λ e. absurd (omega (arith, flip));
          }
    ]

-- at the end they are at most 3 apart
pub ends_near : (low high : ℕ) → high ≤ 2 ^ 60 → high ≤ low + 1 → 4 * low ≤ 2 ^ 62 → horner_after low high 16 16 ≤ horner_after low high 17 17 + 3
ends_near low high small near quarter = (nears low high 16 small near quarter (omega arith)).even refl
