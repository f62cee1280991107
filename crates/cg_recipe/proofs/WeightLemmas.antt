-- Admitted weights of a dating that can be weighed are above 0.
use Rattle.std.proofs.Common.{◌≡◌, ℕ, zero, suc, ◌+◌, ◌-◌, ◌*◌, ◌^◌, ◌<◌, ◌≤◌, Bool, true, false, ◌&&◌, [], ◌∷◌, arith, refl, subst, Option, Some, None, ℤ, pos, ◌-ℤ◌, ◌*ℤ◌, unsigned_abs}
use Rattle.std.specs.Prelude.{option_map, int_lt, ◌<ℤ◌, ◌≤ℤ◌, if◌then◌else◌}
use Rattle.std.specs.Ordering.{int_eq}
use Rattle.std.proofs.Math.Nat.{mul-pos, one-le-pow}
use Rattle.std.proofs.lemmas.Nat.{pow_pos}
use Rattle.std.proofs.lemmas.Int.{ints, unsigned_abs-mul}
use Rattle.cg_meaning.specs.Tree.{Dating, Free, Exact, Normal, Carbon}
use Rattle.cg_meaning.specs.Curve.{Row, Curve, Point, point_at, point_at_row, point_between}
use Rattle.cg_meaning.specs.Scene.{Scene, year_of}
use Rattle.cg_meaning.specs.Taylor.{IsHalving, series, bound_top, bound_bottom}
use Rattle.cg_meaning.specs.Weights.{Distance, distance_of, from_curve, from_year, square, IsWeight, IsWeightAt, IsAdmitted}
use Rattle.cg_meaning.specs.Cover.{CoverFault, fault_at, or_fault, fault_from, on_curve, IsCovered}
use Rattle.cg_curve.proofs.RowLemmas.{lt_yes}
use Rattle.cg_model.specs.Limits.{IsInRange}
use Rattle.cg_exp.specs.Exponential.{reduced_below, reduced_above}
use Rattle.cg_exp.proofs.Reductions.{reduced-IsReduced}
use Rattle.cg_exp.proofs.Starting.{start-Starts}

-- Taylor's lower bound is above 0
bound-some : (p q h : ℕ) → 0 < q → IsHalving p q h → 0 < bound_top p q h 17
bound-some p q h some v =
    let scaled : 0 < q * 2 ^ h = mul-pos some (pow_pos h) in
    let small : p ≤ q * 2 ^ h = omega (arith, v.small) in
    one-le-pow (2 ^ h) (series p (q * 2 ^ h) 17)
    (start-Starts p (q * 2 ^ h) (reduced_below p q h) (reduced_above p q h) scaled small (reduced-IsReduced p q h some v.small)).some

-- a number above 0 is at most this one
above_none : (w n q b t : ℕ) → 0 < t → t ≤ n * (w * w) * q * b → 0 < w
above_none zero n q b t some le = absurd (omega (arith, le))
above_none (suc w) n q b t some le = omega arith

-- a weight at a distance
weight-some : (m w : ℕ) (d : Distance) → 0 < m → 0 < d.q → 0 < d.gap → IsWeight m w d → 0 < w
weight-some m w d some some' gap h =
    let top : 0 < bound_top d.p d.q h.halvings 17 = bound-some d.p d.q h.halvings some' h.halved in
    let one : 0 < 2 ^ 64 - 1 = omega arith in
    let all : 0 < (2 ^ 64 - 1) * (m * m) * bound_top d.p d.q h.halvings 17 * (d.gap * d.gap) =
    mul-pos (mul-pos (mul-pos one (mul-pos some some)) top) (mul-pos gap gap) in
    above_none w (2 ^ 64) d.q (bound_bottom d.q h.halvings 17) _ all h.lower

-- two years that are not one are apart
apart : (x y : ℤ) → x <ℤ y → 0 < unsigned_abs (y -ℤ x)
apart x y h = omega (arith, ints)

-- a value of the curve between two rows
between-gap : (older younger : Row) (year : ℤ) (rest : Option Point) (point : Point) (b c : Bool) → int_lt younger.year year ≡ b → int_lt year older.year ≡ c →
    ((if (b && c) then Some (point_between older younger year) else rest) ≡ Some point) →
    (rest ≡ Some point → 0 < point.gap) → 0 < point.gap
between-gap older younger year rest point true true e e' is next =
    let same : point_between older younger year ≡ point = cc in
    let low : younger.year <ℤ year = lt_yes younger.year year e in
    let high : year <ℤ older.year = lt_yes year older.year e' in
    subst (λ (p : Point). 0 < p.gap) same (apart younger.year older.year (omega (arith, ints)))
between-gap older younger year rest point true false e e' is next = next is
between-gap older younger year rest point false c e e' is next = next is

at-gap : (row : Row) (rest : Option Point) (point : Point) (b : Bool) →
    ((if b then Some (point_at_row row) else rest) ≡ Some point) → (rest ≡ Some point → 0 < point.gap) → 0 < point.gap
at-gap row rest point true is next =
    let same : point_at_row row ≡ point = cc in
    subst (λ (p : Point). 0 < p.gap) same (omega arith)
at-gap row rest point false is next = next is

-- a value of the curve is over a number of years above 0
point-gap : (curve : Curve) (year : ℤ) (point : Point) → point_at curve year ≡ Some point → 0 < point.gap
point-gap [] year point is = absurd (cc)
point-gap (row ∷ []) year point is = at-gap row None point (int_eq row.year year) is (λ e. absurd (cc))
point-gap (older ∷ younger ∷ rows) year point is =
    at-gap older (if (int_lt younger.year year && int_lt year older.year) then Some (point_between older younger year) else point_at (younger ∷ rows) year)
    point (int_eq older.year year) is
    (λ is'. between-gap older younger year (point_at (younger ∷ rows) year) point (int_lt younger.year year) (int_lt year older.year) refl refl is'
    (point-gap (younger ∷ rows) year point))

-- without a fault of two there is none of either
no-fault : (f g : Option CoverFault) → or_fault f g ≡ None → (f ≡ None) × (g ≡ None)
no-fault None g e = (refl, e)
no-fault (Some fault) g e = absurd (cc)

-- and none at any cell
no-fault_at : (scene : Scene) (dating : Dating) (cell left k : ℕ) → fault_from scene dating cell left ≡ None → k < left →
    fault_at (year_of scene.grid (cell + k)) (distance_of scene dating (cell + k)) ≡ None
no-fault_at scene dating cell zero k e h = absurd (omega arith)
no-fault_at scene dating cell (suc left) zero e h =
    let here : cell + 0 ≡ cell = omega arith in
    rw here ((no-fault _ _ e).0)
no-fault_at scene dating cell (suc left) (suc k) e h =
    let next : cell + suc k ≡ cell + 1 + k = omega arith in
    rw next (no-fault_at scene dating (cell + 1) left k (no-fault _ _ e).1 (omega arith))

covered-at : (scene : Scene) (dating : Dating) (cell : ℕ) → fault_from scene dating 0 scene.grid.cells ≡ None → cell < scene.grid.cells →
    fault_at (year_of scene.grid cell) (distance_of scene dating cell) ≡ None
covered-at scene dating cell e h =
    let here : 0 + cell ≡ cell = omega arith in
    rw here at (no-fault_at scene dating 0 scene.grid.cells cell e h)

-- with a curve
on-curve : (curve : Curve) (fault : Option CoverFault) → on_curve curve fault ≡ None → fault ≡ None
on-curve [] fault e = absurd (cc)
on-curve (row ∷ rows) fault e = e

-- errors are above 0
error-some : (error : ℤ) → pos 1000 ≤ℤ error → 0 < unsigned_abs error
error-some error h = omega (arith, ints)

square-some : (x : ℤ) → 0 < unsigned_abs x → 0 < square x
square-some x h = mul-pos h h

scaled-some : (error : ℤ) (gap : ℕ) → pos 1000 ≤ℤ error → 0 < gap → 0 < square (error *ℤ pos gap)
scaled-some error gap h some = square-some (error *ℤ pos gap) (rw (unsigned_abs-mul error (pos gap)) (mul-pos (error-some error h) some))

-- a weight by a value of the curve
carbon-some : (age error year : ℤ) (m w : ℕ) (found : Option Point) → 0 < m → pos 1000 ≤ℤ error →
    ((point : Point) → found ≡ Some point → 0 < point.gap) → fault_at year (option_map (λ point. from_curve age error point) found) ≡ None →
    IsWeightAt m w (option_map (λ point. from_curve age error point) found) → 0 < w
carbon-some age error year m w None some h gaps covered weight = absurd (cc)
carbon-some age error year m w (Some point) some h gaps covered weight =
    let gap : 0 < point.gap = gaps point refl in
    let scaled : 0 < square (error *ℤ pos point.gap) = scaled-some error point.gap h gap in
    weight-some m w (from_curve age error point) some (omega (arith, scaled)) gap weight

-- Admitted weights of a dating that can be weighed.
pub admitted-some : (scene : Scene) (dating : Dating) (weights : ℕ → ℕ) (cell : ℕ) → IsInRange dating → IsCovered scene dating →
    IsAdmitted scene dating weights →
    cell < scene.grid.cells → 0 < weights cell
admitted-some scene Free weights cell ranged covered admitted h = omega (arith, admitted cell h)
admitted-some scene (Exact year) weights cell ranged covered admitted h = omega (arith, admitted cell h)
admitted-some scene (Normal year error) weights cell ranged covered admitted h =
    weight-some admitted.multiplier (weights cell) (from_year year error (year_of scene.grid cell)) admitted.some
    (square-some error (error-some error ranged.some)) (omega arith) (admitted.each cell h)
admitted-some scene (Carbon age error) weights cell ranged covered admitted h =
    carbon-some age error (year_of scene.grid cell) admitted.multiplier (weights cell)
    (point_at scene.curve (year_of scene.grid cell)) admitted.some ranged.some
    (λ point. point-gap scene.curve (year_of scene.grid cell) point)
    (covered-at scene (Carbon age error) cell (on-curve scene.curve (fault_from scene (Carbon age error) 0 scene.grid.cells) covered) h) (admitted.each cell h)
