-- The numbers of a point on a straight line: they fit, and they lie within the limits times the gap.
use Rattle.std.proofs.Common.{◌≡◌, ℕ, zero, suc, ◌+◌, ◌≤◌, refl, sym, arith, ℤ, pos, negsuc, ◌+ℤ◌, ◌-ℤ◌, ◌*ℤ◌, ◌<ℤ◌, ◌≤ℤ◌, unsigned_abs, FitsSigned, w32, w64, lit<}
use Rattle.std.proofs.Common.{subst}
use Rattle.std.proofs.Math.Nat.{mul-le-mul}
use Rattle.cg_meaning.specs.Curve.{Row, point_between}
use Rattle.cg_curve.specs.Rows.{IsRowInRange, IsNear}
use Rattle.cg_curve.specs.Point.{point_of, IsWithin}
use Rattle.cg_curve.specs.declared.curve.At.{At}
use Rattle.std.proofs.lemmas.Int.{ints, fits_signed_mul, unsigned_abs-mul}

pub fits_product : (a b : ℤ) → unsigned_abs a ≤ 70000000 → unsigned_abs b ≤ 1000 → FitsSigned w64 (a *ℤ b)
fits_product a b ha hb = fits_signed_mul w64 a b 70000000 1000 ha hb (lit< tt)

product_most : (a b : ℤ) → unsigned_abs a ≤ 70000000 → unsigned_abs b ≤ 1000 → unsigned_abs (a *ℤ b) ≤ 70000000000
product_most a b ha hb = omega (arith, unsigned_abs-mul a b, mul-le-mul ha hb)

fits_both : (x y : ℤ) → unsigned_abs x ≤ 70000000000 → unsigned_abs y ≤ 70000000000 → FitsSigned w64 (x +ℤ y)
fits_both x y hx hy = omega (arith, ints)

pub fits_sum : (a b c d : ℤ) → unsigned_abs a ≤ 70000000 → unsigned_abs b ≤ 1000 → unsigned_abs c ≤ 70000000 → unsigned_abs d ≤ 1000 → FitsSigned w64 (a *ℤ b +ℤ c *ℤ d)
fits_sum a b c d ha hb hc hd = fits_both (a *ℤ b) (c *ℤ d) (product_most a b ha hb) (product_most c d hc hd)

scale : (a b : ℤ) (m : ℕ) → a ≤ℤ b → (a *ℤ pos m) ≤ℤ (b *ℤ pos m)
scale a b zero h = omega (arith, ints)
scale a b (suc m) h = let rest = scale a b m h in omega (arith, ints)

-- a lower limit holds on the line, times the gap
line_low : (limit older younger : ℤ) (m k g : ℕ) → limit ≤ℤ older → limit ≤ℤ younger → m + k ≡ g → (limit *ℤ pos g) ≤ℤ (older *ℤ pos m +ℤ younger *ℤ pos k)
line_low limit older younger m k g ho hy e =
    let a = scale limit older m ho in let b = scale limit younger k hy in
    rw (sym e) (omega (arith, ints))

-- an upper limit holds on the line, times the gap
line_high : (limit older younger : ℤ) (m k g : ℕ) → older ≤ℤ limit → younger ≤ℤ limit → m + k ≡ g → (older *ℤ pos m +ℤ younger *ℤ pos k) ≤ℤ (limit *ℤ pos g)
line_high limit older younger m k g ho hy e =
    let a = scale older limit m ho in let b = scale younger limit k hy in
    rw (sym e) (omega (arith, ints))

distance : (a b : ℤ) → b <ℤ a → a -ℤ b ≡ pos (unsigned_abs (a -ℤ b))
distance a b h = omega (arith, ints)

distances : (older younger year : ℤ) → younger <ℤ year → year <ℤ older → unsigned_abs (year -ℤ younger) + unsigned_abs (older -ℤ year) ≡ unsigned_abs (older -ℤ younger)
distances older younger year below above = omega (arith, ints)

some_gap : (older younger year : ℤ) → younger <ℤ year → year <ℤ older → 1 ≤ unsigned_abs (older -ℤ younger)
some_gap older younger year below above = omega (arith, ints)

-- a value on the line is at least a limit of the rows' values, times the gap
low_between : (limit older younger : ℤ) (a b : Row) (year : ℤ) → b.year <ℤ year → year <ℤ a.year → limit ≤ℤ older → limit ≤ℤ younger
    → (limit *ℤ pos (unsigned_abs (a.year -ℤ b.year))) ≤ℤ (older *ℤ (year -ℤ b.year) +ℤ younger *ℤ (a.year -ℤ year))
low_between limit older younger a b year below above ho hy =
    rw (distance year b.year below, distance a.year year above)
    (line_low limit older younger (unsigned_abs (year -ℤ b.year)) (unsigned_abs (a.year -ℤ year)) (unsigned_abs (a.year -ℤ b.year)) ho hy (distances a.year b.year year below above))

high_between : (limit older younger : ℤ) (a b : Row) (year : ℤ) → b.year <ℤ year → year <ℤ a.year → older ≤ℤ limit → younger ≤ℤ limit
    → (older *ℤ (year -ℤ b.year) +ℤ younger *ℤ (a.year -ℤ year)) ≤ℤ (limit *ℤ pos (unsigned_abs (a.year -ℤ b.year)))
high_between limit older younger a b year below above ho hy =
    rw (distance year b.year below, distance a.year year above)
    (line_high limit older younger (unsigned_abs (year -ℤ b.year)) (unsigned_abs (a.year -ℤ year)) (unsigned_abs (a.year -ℤ b.year)) ho hy (distances a.year b.year year below above))

zero_times : (m : ℕ) → pos 0 *ℤ pos m ≡ pos 0
zero_times m = omega (arith, ints)

-- the point between two rows, in numbers
pub record IsLine (a b : Row) (year : ℤ) (at : At) : Type 0 where
  pub age : at.age ≡ (a.age *ℤ (year -ℤ b.year)) +ℤ (b.age *ℤ (a.year -ℤ year))
  pub sigma : at.sigma ≡ (a.sigma *ℤ (year -ℤ b.year)) +ℤ (b.sigma *ℤ (a.year -ℤ year))
  pub gap : at.gap ≡ unsigned_abs (a.year -ℤ b.year)

pub line_value : (a b : Row) (year : ℤ) (at : At) → IsLine a b year at → point_of at ≡ point_between a b year
line_value a b year at line = rw (line.age, line.sigma, line.gap) refl

pub line_within : (a b : Row) (year : ℤ) (at : At) → b.year <ℤ year → year <ℤ a.year → IsNear a b → IsRowInRange a → IsRowInRange b → IsLine a b year at → IsWithin at
line_within a b year at below above near ra rb line = record {
  gap_low = rw line.gap (some_gap a.year b.year year below above);
  gap_high = rw line.gap near;
  age_low = rw (line.age, line.gap) (low_between (negsuc 9999999) a.age b.age a b year below above ra.age_low rb.age_low);
  age_high = rw (line.age, line.gap) (high_between (pos 70000000) a.age b.age a b year below above ra.age_high rb.age_high);
  sigma_low = rw line.sigma
      (subst (λ (low : ℤ). low ≤ℤ ((a.sigma *ℤ (year -ℤ b.year)) +ℤ (b.sigma *ℤ (a.year -ℤ year)))) (zero_times (unsigned_abs (a.year -ℤ b.year)))
      (low_between (pos 0) a.sigma b.sigma a b year below above ra.sigma_low rb.sigma_low));
  sigma_high = rw (line.sigma, line.gap) (high_between (pos 10000000) a.sigma b.sigma a b year below above ra.sigma_high rb.sigma_high);
}

pub same_line : (oa ya oy yy t oa' ya' oy' yy' t' : ℤ) → oa ≡ oa' → ya ≡ ya' → oy ≡ oy' → yy ≡ yy' → t ≡ t'
    → oa *ℤ (t -ℤ yy) +ℤ ya *ℤ (oy -ℤ t) ≡ oa' *ℤ (t' -ℤ yy') +ℤ ya' *ℤ (oy' -ℤ t')
same_line oa ya oy yy t oa' ya' oy' yy' t' a b c d e = cc

-- ---- the numbers of a point fit their types

pub age_fits : (z : ℤ) → negsuc 9999999 ≤ℤ z → z ≤ℤ pos 70000000 → FitsSigned w64 z
age_fits z low high = omega (arith, ints)

pub sigma_fits : (z : ℤ) → pos 0 ≤ℤ z → z ≤ℤ pos 10000000 → FitsSigned w64 z
sigma_fits z low high = omega (arith, ints)

-- a year between two rows, at most 1,000 years apart
pub record IsInGap (older younger year : ℤ) : Type 0 where
  pub below : younger <ℤ year
  pub above : year <ℤ older
  pub near : unsigned_abs (older -ℤ younger) ≤ 1000
  pub small : FitsSigned w32 year

pub older_fits : (older younger year : ℤ) → IsInGap older younger year → FitsSigned w64 older
older_fits older younger year h = omega (arith, ints)

pub younger_fits : (older younger year : ℤ) → IsInGap older younger year → FitsSigned w64 younger
younger_fits older younger year h = omega (arith, ints)

pub passed_fits : (older younger year : ℤ) → IsInGap older younger year → FitsSigned w64 (older -ℤ year)
passed_fits older younger year h = omega (arith, ints)

pub left_fits : (older younger year : ℤ) → IsInGap older younger year → FitsSigned w64 (year -ℤ younger)
left_fits older younger year h = omega (arith, ints)
