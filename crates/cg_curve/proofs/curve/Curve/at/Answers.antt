use Rattle.std.proofs.Common.{◌≡◌, ◌∙◌, ap, subst, arith, List, ℤ, to_z, of_z, w32, option_map}
use Rattle.std.proofs.lemmas.Int.{ints}
use Rattle.cg_meaning.specs.Curve.{Row, point_at}
use Rattle.cg_curve.specs.Rows.{EachNext, IsOlder}
use Rattle.cg_curve.specs.Point.{point_of}
use Rattle.cg_curve.proofs.CoverLemmas.{covered}
use Rattle.cg_curve.proofs.curve.Curve.at.Goals as goal

pub returns-clause-covered : goal.returns-clause-covered
returns-clause-covered c =
    let k : to_z w32 (of_z w32 c.args.bp) ≡ c.args.bp = omega (arith, ints) in
    let e : option_map point_of c.at_year.result ≡ point_at c.args.self.now c.args.bp =
    c.at_year.ensures.value ∙ ap (λ (rs : List Row). point_at rs (to_z w32 (of_z w32 c.args.bp))) (c.deref.ensures.value ∙ c.self.view_is)
    ∙ ap (λ (t : ℤ). point_at c.args.self.now t) k in
    covered c.at_year.result c.args.self.now c.args.bp (subst (λ (rs : List Row). EachNext IsOlder rs) c.self.view_is c.self.invariant.order) e
