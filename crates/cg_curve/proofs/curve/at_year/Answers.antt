use Rattle.std.proofs.Common.{◌≡◌, ◌≢◌, ◌<◌, ◌-◌, ◌∙◌, sym, ap, subst, length, arith, Some, ℤ, to_z, of_z, w32, w64}
use Rattle.std.proofs.lemmas.Int.{ints}
use Rattle.cg_meaning.specs.Curve.{Row, Point, point_between}
use Rattle.cg_curve.specs.Point.{IsBetween}
use Rattle.cg_curve.proofs.PlaceLemmas.{at_end, at_start, at_row, between_rows, next_at_place, range_at}
use Rattle.cg_curve.specs.Rows.{IsNear}
use Rattle.cg_curve.proofs.curve.at_year.Goals as goal

pub returns-then-place-rows-clause-value : goal.returns-then-place-rows-clause-value
returns-then-place-rows-clause-value c =
    let e : to_z w64 (of_z w64 c.from-year.result) ≡ c.args.bp = omega (arith, ints) in
    let p = c.older_rows-place.result in
    let is = subst (λ (t : ℤ). IsBetween c.args.rows.now t p p) e c.older_rows-place.ensures in
    sym (at_end c.args.rows.now c.args.bp p c.requires.order is c.if-place-rows.true)

pub returns-then-younger-year-clause-value : goal.returns-then-younger-year-clause-value
returns-then-younger-year-clause-value c =
    let e : to_z w64 (of_z w64 c.from-year.result) ≡ c.args.bp = omega (arith, ints) in
    let p = c.older_rows-place.result in
    let is = subst (λ (t : ℤ). IsBetween c.args.rows.now t p p) e c.older_rows-place.ensures in
    let lt : p < length c.args.rows.now = omega (arith, c.older_rows-place.ensures.within, c.if-place-rows.false) in
    let same : c.index-rows-place.result.year ≡ c.args.bp = omega (arith, ints, ap (λ (r : Row). r.year) c.younger.view_is) in
    ap (λ (point : Point). Some point) c.at_row.ensures.value
    ∙ sym (at_row c.args.rows.now c.args.bp p c.index-rows-place.result c.requires.order is lt c.index-rows-place.is same)

pub returns-then-place-eq0-clause-value : goal.returns-then-place-eq0-clause-value
returns-then-place-eq0-clause-value c =
    let e : to_z w64 (of_z w64 c.from-year.result) ≡ c.args.bp = omega (arith, ints) in
    let f : c.from-year.result ≡ c.args.bp = omega (arith, ints) in
    let p = c.older_rows-place.result in
    let is = subst (λ (t : ℤ). IsBetween c.args.rows.now t p p) e c.older_rows-place.ensures in
    let lt : p < length c.args.rows.now = omega (arith, c.older_rows-place.ensures.within, c.if-place-rows.false) in
    let other : c.index-rows-place.result.year ≢ c.args.bp =
    λ h. c.if-younger-year.false (ap (λ (z : ℤ). of_z w64 z) (ap (λ (r : Row). r.year) c.younger.view_is ∙ h ∙ sym f)) in
    sym (at_start c.args.rows.now c.args.bp p c.index-rows-place.result c.requires.order is lt c.if-place-eq0.true c.index-rows-place.is other)

pub between-requires-clause-near : goal.between-requires-clause-near
between-requires-clause-near c =
    let lt : c.older_rows-place.result < length c.args.rows.now = omega (arith, c.older_rows-place.ensures.within, c.if-place-rows.false) in
    let some : 0 < c.older_rows-place.result = omega (arith, c.if-place-eq0.false) in
    next_at_place IsNear c.args.rows.now c.older_rows-place.result c.index-rows-place-2.result c.index-rows-place.result c.requires.near lt some c.index-rows-place-2.is c.index-rows-place.is

pub between-requires-clause-older : goal.between-requires-clause-older
between-requires-clause-older c =
    let lt : c.older_rows-place.result - 1 < length c.args.rows.now = omega (arith, c.older_rows-place.ensures.within, c.if-place-rows.false) in
    range_at c.args.rows.now (c.older_rows-place.result - 1) c.index-rows-place-2.result c.requires.in_range lt c.index-rows-place-2.is

pub between-requires-clause-younger : goal.between-requires-clause-younger
between-requires-clause-younger c =
    let lt : c.older_rows-place.result < length c.args.rows.now = omega (arith, c.older_rows-place.ensures.within, c.if-place-rows.false) in
    range_at c.args.rows.now c.older_rows-place.result c.index-rows-place.result c.requires.in_range lt c.index-rows-place.is

pub returns-clause-value : goal.returns-clause-value
returns-clause-value c =
    let e : to_z w64 (of_z w64 c.from-year.result) ≡ c.args.bp = omega (arith, ints) in
    let f : c.from-year.result ≡ c.args.bp = omega (arith, ints) in
    let k : to_z w32 (of_z w32 c.args.bp) ≡ c.args.bp = omega (arith, ints) in
    let p = c.older_rows-place.result in
    let is = subst (λ (t : ℤ). IsBetween c.args.rows.now t p p) e c.older_rows-place.ensures in
    let lt : p < length c.args.rows.now = omega (arith, c.older_rows-place.ensures.within, c.if-place-rows.false) in
    let some : 0 < p = omega (arith, c.if-place-eq0.false) in
    let other : c.index-rows-place.result.year ≢ c.args.bp =
    λ h. c.if-younger-year.false (ap (λ (z : ℤ). of_z w64 z) (ap (λ (r : Row). r.year) c.younger.view_is ∙ h ∙ sym f)) in
    ap (λ (point : Point). Some point) c.between.ensures.value
    ∙ ap (λ (t : ℤ). Some (point_between c.index-rows-place-2.result c.index-rows-place.result t)) k
    ∙ sym (between_rows c.args.rows.now c.args.bp p c.index-rows-place-2.result c.index-rows-place.result c.requires.order is lt some c.index-rows-place-2.is c.index-rows-place.is other)
