use Rattle.std.proofs.Common.{◌≡◌, ◌∙◌, ap, subst, sym, arith, ℤ, ◌-ℤ◌, ◌+ℤ◌, ◌*ℤ◌, ◌<ℤ◌, ◌≤◌, FitsSigned, unsigned_abs, w32, w64, to_z, of_z}
use Rattle.std.proofs.lemmas.Int.{ints, to_z-of_z}
use Rattle.cg_meaning.specs.Curve.{Row}
use Rattle.cg_curve.specs.Rows.{IsRowInRange}
use Rattle.cg_curve.proofs.PointLemmas.{IsLine, line_value, line_within, same_line, IsInGap, age_fits, sigma_fits, older_fits, younger_fits, passed_fits, left_fits}
use Rattle.cg_curve.proofs.curve.between.Goals as goal

pub on_line-requires-2-clause-older : goal.on_line-requires-2-clause-older
on_line-requires-2-clause-older c = omega (arith, ints, ap (λ (r : Row). r.sigma) c.older.view_is)

pub on_line-requires-2-clause-younger : goal.on_line-requires-2-clause-younger
on_line-requires-2-clause-younger c = omega (arith, ints, ap (λ (r : Row). r.sigma) c.younger.view_is)

pub on_line-requires-2-clause-to_younger : goal.on_line-requires-2-clause-to_younger
on_line-requires-2-clause-to_younger c = omega (arith, ints, ap (λ (r : Row). r.year) c.older.view_is, ap (λ (r : Row). r.year) c.younger.view_is)

pub on_line-requires-2-clause-from_older : goal.on_line-requires-2-clause-from_older
on_line-requires-2-clause-from_older c = omega (arith, ints, ap (λ (r : Row). r.year) c.older.view_is, ap (λ (r : Row). r.year) c.younger.view_is)

-- the three numbers, in terms of the rows
numbers : (c : goal.After-abs_diff) → IsLine c.args.older c.args.younger c.args.bp
    (record { age = to_z w64 (of_z w64 c.on_line.result); sigma = to_z w64 (of_z w64 c.on_line-2.result); gap = c.abs_diff.result })
numbers c =
    let o = c.older.inside in let y = c.younger.inside in let year = c.from-year.result in
    let t : year ≡ c.args.bp = c.from-year.ensures ∙ to_z-of_z w32 c.args.bp c.ranges.bp in
    let oy = ap (λ (r : Row). r.year) c.older.view_is in
    let yy = ap (λ (r : Row). r.year) c.younger.view_is in
    let oa = ap (λ (r : Row). r.age) c.older.view_is in
    let ya = ap (λ (r : Row). r.age) c.younger.view_is in
    let os = ap (λ (r : Row). r.sigma) c.older.view_is in
    let ys = ap (λ (r : Row). r.sigma) c.younger.view_is in
    let ro = subst (λ (r : Row). IsRowInRange r) (sym c.older.view_is) c.requires.older in
    let ry = subst (λ (r : Row). IsRowInRange r) (sym c.younger.view_is) c.requires.younger in
    let gap : IsInGap o.year y.year year = record {
      below = subst (λ (z : ℤ). z <ℤ year) (sym yy) (subst (λ (z : ℤ). c.args.younger.year <ℤ z) (sym t) c.requires.below);
      above = subst (λ (z : ℤ). year <ℤ z) (sym oy) (subst (λ (z : ℤ). z <ℤ c.args.older.year) (sym t) c.requires.above);
      near = subst (λ (z : ℤ). unsigned_abs (z -ℤ y.year) ≤ 1000) (sym oy) (subst (λ (z : ℤ). unsigned_abs (c.args.older.year -ℤ z) ≤ 1000) (sym yy) c.requires.near);
      small = subst (λ (z : ℤ). FitsSigned w32 z) (sym t) c.ranges.bp;
    } in
    let ft : FitsSigned w64 year = record { sfits = c.from-year.type_inv } in
    let fo : FitsSigned w64 o.year = older_fits o.year y.year year gap in
    let fy : FitsSigned w64 y.year = younger_fits o.year y.year year gap in
    let fa : FitsSigned w64 o.age = age_fits o.age ro.age_low ro.age_high in
    let fb : FitsSigned w64 y.age = age_fits y.age ry.age_low ry.age_high in
    let fs : FitsSigned w64 o.sigma = sigma_fits o.sigma ro.sigma_low ro.sigma_high in
    let fz : FitsSigned w64 y.sigma = sigma_fits y.sigma ry.sigma_low ry.sigma_high in
    let f1 : FitsSigned w64 (o.year -ℤ year) = passed_fits o.year y.year year gap in
    let f2 : FitsSigned w64 (year -ℤ y.year) = left_fits o.year y.year year gap in
    let r1 : FitsSigned w64 c.on_line.result = record { sfits = c.on_line.type_inv } in
    let r2 : FitsSigned w64 c.on_line-2.result = record { sfits = c.on_line-2.type_inv } in
    let a : c.on_line.result ≡ o.age *ℤ (year -ℤ y.year) +ℤ y.age *ℤ (o.year -ℤ year) = simp to_z-of_z at c.on_line.ensures in
    let s : c.on_line-2.result ≡ o.sigma *ℤ (year -ℤ y.year) +ℤ y.sigma *ℤ (o.year -ℤ year) = simp to_z-of_z at c.on_line-2.ensures in
    let g : c.abs_diff.result ≡ unsigned_abs (o.year -ℤ y.year) = simp to_z-of_z at c.abs_diff.ensures in
    record {
      age = to_z-of_z w64 c.on_line.result r1 ∙ a ∙ same_line _ _ _ _ _ _ _ _ _ _ oa ya oy yy t;
      sigma = to_z-of_z w64 c.on_line-2.result r2 ∙ s ∙ same_line _ _ _ _ _ _ _ _ _ _ os ys oy yy t;
      gap = g ∙ (rw (oy, yy));
    }

pub returns-clause-value : goal.returns-clause-value
returns-clause-value c = line_value c.args.older c.args.younger c.args.bp _ (numbers c)

pub returns-clause-within : goal.returns-clause-within
returns-clause-within c =
    let r = c.requires in line_within c.args.older c.args.younger c.args.bp _ r.below r.above r.near r.older r.younger (numbers c)
