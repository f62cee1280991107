-- Where a dating is covered, its distance from each cell is in the range of the likelihood.
use Rattle.std.proofs.Common.{◌≡◌, ℕ, zero, suc, ◌+◌, ◌*◌, ◌<◌, ◌≤◌, inl, inr, Bool, true, false, cond, ◌&&◌, List, [], ◌∷◌, Option, Some, None, refl, sym, ap, subst, arith, ℤ, pos, ◌-ℤ◌, ◌*ℤ◌, ◌<ℤ◌, ◌≤ℤ◌, unsigned_abs, option_map, All}
use Rattle.std.specs.Prelude.{int_lt, nat_lt}
use Rattle.std.specs.Ordering.{int_eq}
use Rattle.std.proofs.Math.Nat.{mul-le-mul, mul-le-mul_right}
use Rattle.std.proofs.lemmas.Bool.{cases_lt, lt-ltb}
use Rattle.std.proofs.lemmas.Int.{ints, unsigned_abs-mul}
use Rattle.std.proofs.lemmas.List.Elements.{All-head, All-tail}
use Rattle.cg_meaning.specs.Tree.{Dating, Free, Exact, Normal, Carbon}
use Rattle.cg_meaning.specs.Curve.{Curve, Row, Point, point_at, point_at_row, point_between}
use Rattle.cg_meaning.specs.Scene.{Scene, year_of}
use Rattle.cg_meaning.specs.Weights.{Distance, square, from_year, from_curve, distance_of}
use Rattle.cg_meaning.specs.Cover.{CoverFault, is_far, fault_at, or_fault, fault_from, on_curve, IsCovered}
use Rattle.cg_model.specs.Limits as limits
use Rattle.cg_curve.specs.Rows.{IsRowInRange, EachNext, IsNear}
use Rattle.cg_curve.specs.Point.{IsWithin}
use Rattle.cg_curve.specs.declared.curve.At.{At}
use Rattle.cg_curve.proofs.RowLemmas.{lt_yes}
use Rattle.cg_curve.proofs.PointLemmas.{line_within}
use Rattle.cg_like.specs.Likelihood.{IsCurveOrNone}
use Rattle.cg_like.specs.Cover.{rows_of}
use Rattle.cg_like.specs.Distance.{IsMeasured, IsKnown}
use Rattle.cg_like.proofs.ExistenceLemmas.{IsMeasuredAt}

-- ---- no fault at any cell

first_none : (a b : Option CoverFault) → or_fault a b ≡ None → a ≡ None
first_none None b e = refl
first_none (Some fault) b e = e

other_none : (a b : Option CoverFault) → or_fault a b ≡ None → b ≡ None
other_none None b e = e
other_none (Some fault) b e = absurd (cc)

abbrev fault_of : Scene → Dating → ℕ → Option CoverFault
fault_of scene dating cell = fault_at (year_of scene.grid cell) (distance_of scene dating cell)

each_none : (scene : Scene) (dating : Dating) (start left k : ℕ) → k < left → fault_from scene dating start left ≡ None → fault_of scene dating (start + k) ≡ None
each_none scene dating start zero k less e = absurd (omega arith)
each_none scene dating start (suc left) zero less e =
    let here : start + 0 ≡ start = omega arith in
    rw here (first_none (fault_of scene dating start) (fault_from scene dating (start + 1) left) e)
each_none scene dating start (suc left) (suc k) less e =
    let on : start + suc k ≡ start + 1 + k = omega arith in
    rw on (each_none scene dating (start + 1) left k (omega arith) (other_none (fault_of scene dating start) (fault_from scene dating (start + 1) left) e))

none_at : (scene : Scene) (dating : Dating) (cell : ℕ) → cell < scene.grid.cells → fault_from scene dating 0 scene.grid.cells ≡ None → fault_of scene dating cell ≡ None
none_at scene dating cell less e =
    let on : 0 + cell ≡ cell = omega arith in
    rw on at (each_none scene dating 0 scene.grid.cells cell less e)

-- not more than 16,384 years away
pub record IsReached (distance : Distance) : Type 0 where
  pub near : distance.p ≤ (16384000 * distance.gap) * (16384000 * distance.gap)

abbrev IsReachedAt : Option Distance → Type 0
IsReachedAt None = ⊥
IsReachedAt (Some distance) = IsReached distance

reached_by : (year : ℤ) (d : Distance) (far : Bool) → is_far d ≡ far → cond far (Some (CoverFault.Far year)) None ≡ None → far ≡ false
reached_by year d true is e = absurd (cc)
reached_by year d false is e = refl

reached : (year : ℤ) (found : Option Distance) → fault_at year found ≡ None → IsReachedAt found
reached year None e = absurd (cc)
reached year (Some d) e = record { near = by_test d.p ((16384000 * d.gap) * (16384000 * d.gap)) (reached_by year d (is_far d) refl e) }
  where
    by_test : (p most : ℕ) → nat_lt most p ≡ false → p ≤ most
    by_test p most fails = elim (cases_lt most p) [ inl less ↦ absurd (cc (lt-ltb most p less)) | inr le ↦ le ]

-- ---- a point of a curve is within its limits

-- the same numbers as an answer of the curve
abbrev at_of : Point → At
at_of point = record { age = point.age; sigma = point.sigma; gap = point.gap }

row_within : (row : Row) → IsRowInRange row → IsWithin (at_of (point_at_row row))
row_within row r = record {
  gap_low = omega arith;
  gap_high = omega arith;
  age_low = let a = r.age_low in omega (arith, ints);
  age_high = let a = r.age_high in omega (arith, ints);
  sigma_low = r.sigma_low;
  sigma_high = let a = r.sigma_high in omega (arith, ints);
}

between_within : (older younger : Row) (year : ℤ) → younger.year <ℤ year → year <ℤ older.year → IsNear older younger → IsRowInRange older → IsRowInRange younger → IsWithin (at_of (point_between older younger year))
between_within older younger year below above near ro ry =
    line_within older younger year (at_of (point_between older younger year)) below above near ro ry (record { age = refl; sigma = refl; gap = refl })

abbrev IsWithinAt : Option Point → Type 0
IsWithinAt None = Unit {0}
IsWithinAt (Some point) = IsWithin (at_of point)

-- one of three, by two tests
by_tests : (a b c : Bool) (x y : Point) (z : Option Point) → IsWithin (at_of x) → (b ≡ true → c ≡ true → IsWithin (at_of y)) → IsWithinAt z → IsWithinAt (cond a (Some x) (cond (b && c) (Some y) z))
by_tests true b c x y z hx hy hz = hx
by_tests false true true x y z hx hy hz = hy refl refl
by_tests false true false x y z hx hy hz = hz
by_tests false false c x y z hx hy hz = hz

by_test : (a : Bool) (x : Point) → IsWithin (at_of x) → IsWithinAt (cond a (Some x) None)
by_test true x h = h
by_test false x h = tt

point_within : (rows : List Row) (year : ℤ) → All IsRowInRange rows → EachNext IsNear rows → IsWithinAt (point_at rows year)
point_within [] year ranged near = tt
point_within (row ∷ []) year ranged near = by_test (int_eq row.year year) (point_at_row row) (row_within row (All-head IsRowInRange row [] ranged))
point_within (older ∷ younger ∷ rows) year ranged near =
    let ro = All-head IsRowInRange older (younger ∷ rows) ranged in
    let rest = All-tail IsRowInRange older (younger ∷ rows) ranged in
    let ry = All-head IsRowInRange younger rows rest in
    by_tests (int_eq older.year year) (int_lt younger.year year) (int_lt year older.year) (point_at_row older) (point_between older younger year) (point_at (younger ∷ rows) year)
    (row_within older ro) (λ b c. between_within older younger year (lt_yes younger.year year b) (lt_yes year older.year c) near.0 ro ry)
    (point_within (younger ∷ rows) year rest near.1)

curve_within : (rows : Curve) (year : ℤ) → IsCurveOrNone rows → IsWithinAt (point_at rows year)
curve_within rows year (inl none) = rw none tt
curve_within rows year (inr c) = point_within rows year c.in_range c.near

-- ---- the numbers of a distance

error_square : (error : ℤ) (gap : ℕ) → pos 1000 ≤ℤ error → error ≤ℤ pos 10000000 → (1000 * gap ≤ unsigned_abs (error *ℤ pos gap)) × (unsigned_abs (error *ℤ pos gap) ≤ 10000000 * gap)
error_square error gap some few =
    let low : 1000 ≤ unsigned_abs error = omega (arith, ints) in
    let high : unsigned_abs error ≤ 10000000 = omega (arith, ints) in
    let e : unsigned_abs (pos gap) ≡ gap = omega (arith, ints) in (
      omega (arith, unsigned_abs-mul error (pos gap), ap (λ (x : ℕ). unsigned_abs error * x) e, mul-le-mul_right gap low),
      omega (arith, unsigned_abs-mul error (pos gap), ap (λ (x : ℕ). unsigned_abs error * x) e, mul-le-mul_right gap high),
    )

-- p is at most 16,384 ^ 2 = 2 ^ 28 times the square of 1,000 thousandths, which is at most q
measured_by : (p a s gap : ℕ) → 1 ≤ gap → gap ≤ 1000 → 1000 * gap ≤ a → a ≤ 10000000 * gap → s ≤ 10000000 * gap → p ≤ (16384000 * gap) * (16384000 * gap)
    → IsMeasured (record { p = p; q = a * a + s * s; gap = gap })
measured_by p a s gap some few low high sigma near =
    let below : (1000 * gap) * (1000 * gap) ≤ a * a = mul-le-mul low low in
    let above : a * a ≤ (10000000 * gap) * (10000000 * gap) = mul-le-mul high high in
    let more : s * s ≤ (10000000 * gap) * (10000000 * gap) = mul-le-mul sigma sigma in
    let one : 1 * 1 ≤ gap * gap = mul-le-mul some some in
    let most : gap * gap ≤ 1000 * 1000 = mul-le-mul few few in
    record {
      some = omega (arith, below, one);
      fits = omega (arith, above, more, most);
      reach = omega (arith, near, below);
      gap_low = some;
      gap_high = few;
    }

pub year_measured : (year error at : ℤ) → limits.IsNormal year error → IsReached (from_year year error at) → IsMeasured (from_year year error at)
year_measured year error at n r =
    let low : 1000 ≤ unsigned_abs error = let a = n.some in omega (arith, ints) in
    let high : unsigned_abs error ≤ 10000000 = let a = n.few in let b = n.some in omega (arith, ints) in
    let below : 1000 * 1000 ≤ unsigned_abs error * unsigned_abs error = mul-le-mul low low in
    let above : unsigned_abs error * unsigned_abs error ≤ 10000000 * 10000000 = mul-le-mul high high in
    record {
      some = omega (arith, below);
      fits = omega (arith, above);
      reach = omega (arith, below, r.near);
      gap_low = omega arith;
      gap_high = omega arith;
    }

curve_measured : (age error : ℤ) (point : Point) → limits.IsCarbon age error → IsWithin (at_of point) → IsReached (from_curve age error point) → IsMeasured (from_curve age error point)
curve_measured age error point n w r =
    let e = error_square error point.gap n.some n.few in
    let sigma : unsigned_abs point.sigma ≤ 10000000 * point.gap = let a = w.sigma_low in let b = w.sigma_high in omega (arith, ints) in
    measured_by (square ((age *ℤ pos point.gap) -ℤ point.age)) (unsigned_abs (error *ℤ pos point.gap)) (unsigned_abs point.sigma) point.gap w.gap_low w.gap_high e.0 e.1 sigma r.near

carbon_measured : (age error : ℤ) (found : Option Point) → limits.IsCarbon age error → IsWithinAt found → IsReachedAt (option_map (λ point. from_curve age error point) found)
    → IsMeasuredAt (option_map (λ point. from_curve age error point) found)
carbon_measured age error None n w r = r
carbon_measured age error (Some point) n w r = curve_measured age error point n w r

-- ---- at each cell of the grid

on_curve-none : (curve : Curve) (found : Option CoverFault) → on_curve curve found ≡ None → found ≡ None
on_curve-none [] found e = absurd (cc)
on_curve-none (row ∷ rows) found e = e

abbrev pub AreMeasured : Scene → Dating → Type 0
AreMeasured scene dating = (cell : ℕ) → cell < scene.grid.cells → IsMeasuredAt (distance_of scene dating cell)

pub normal_measured : (scene : Scene) (year error : ℤ) → limits.IsNormal year error → IsCovered scene (Normal year error) → AreMeasured scene (Normal year error)
normal_measured scene year error n covered = λ cell less.
    year_measured year error (year_of scene.grid cell) n
    (reached (year_of scene.grid cell) (distance_of scene (Normal year error) cell) (none_at scene (Normal year error) cell less covered))

pub carbon_measured_all : (scene : Scene) (age error : ℤ) → IsCurveOrNone scene.curve → limits.IsCarbon age error → IsCovered scene (Carbon age error) → AreMeasured scene (Carbon age error)
carbon_measured_all scene age error curve n covered = λ cell less.
    carbon_measured age error (point_at scene.curve (year_of scene.grid cell)) n (curve_within scene.curve (year_of scene.grid cell) curve)
    (reached (year_of scene.grid cell) (distance_of scene (Carbon age error) cell)
    (none_at scene (Carbon age error) cell less (on_curve-none scene.curve (fault_from scene (Carbon age error) 0 scene.grid.cells) covered)))

-- a radiocarbon date is weighed on a curve as it is read, or on none
abbrev pub IsOnCurve : Curve → Dating → Type 0
IsOnCurve curve Free = Unit {0}
IsOnCurve curve (Exact year) = Unit {0}
IsOnCurve curve (Normal year error) = Unit {0}
IsOnCurve curve (Carbon age error) = IsCurveOrNone curve

pub on_any_curve : (curve : Curve) (dating : Dating) → IsCurveOrNone curve → IsOnCurve curve dating
on_any_curve curve Free c = tt
on_any_curve curve (Exact year) c = tt
on_any_curve curve (Normal year error) c = tt
on_any_curve curve (Carbon age error) c = c

pub on_known_curve : (curve : Option Curve) (dating : Dating) → IsKnown curve dating → IsOnCurve (rows_of curve) dating
on_known_curve curve Free known = tt
on_known_curve curve (Exact year) known = tt
on_known_curve curve (Normal year error) known = tt
on_known_curve None (Carbon age error) known = inl refl
on_known_curve (Some rows) (Carbon age error) known = inr known

-- each distance of the dating is measured
pub measured_at : (scene : Scene) (dating : Dating) (cell : ℕ) (d : Distance) → IsOnCurve scene.curve dating → limits.IsInRange dating → IsCovered scene dating → cell < scene.grid.cells
    → Some d ≡ distance_of scene dating cell → IsMeasured d
measured_at scene Free cell d curve ranged covered less e = absurd (cc)
measured_at scene (Exact year) cell d curve ranged covered less e = absurd (cc)
measured_at scene (Normal year error) cell d curve ranged covered less e =
    subst (λ (found : Option Distance). IsMeasuredAt found) (sym e) (normal_measured scene year error ranged covered cell less)
measured_at scene (Carbon age error) cell d curve ranged covered less e =
    subst (λ (found : Option Distance). IsMeasuredAt found) (sym e) (carbon_measured_all scene age error curve ranged covered cell less)
