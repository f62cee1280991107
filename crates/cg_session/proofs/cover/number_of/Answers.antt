use Rattle.std.proofs.Common.{List, ℕ, subst, ◌∙◌}
use Rattle.cg_curve.specs.Curves.{IsNew, HasName}
use Rattle.cg_session.proofs.CurveLemmas.{number_found, number_missing}
use Rattle.cg_session.proofs.cover.number_of.Goals as goal

pub returns-in-Some-clause-number : goal.returns-in-Some-clause-number
returns-in-Some-clause-number c =
    let P : List ℕ → Type 0 = λ name. HasName c.args.curves.now name c.in-Some.number in
    number_found c.args.curves.now c.args.name.now c.in-Some.number c.in-Some.ensures.distinct
    (subst P (c.as_bytes.ensures.value ∙ c.text.ensures.text) c.in-Some.ensures.found)

pub returns-in-None-clause-number : goal.returns-in-None-clause-number
returns-in-None-clause-number c =
    let P : List ℕ → Type 0 = λ name. IsNew c.args.curves.now name in
    number_missing c.args.curves.now c.args.name.now (subst P (c.as_bytes.ensures.value ∙ c.text.ensures.text) c.in-None.ensures.none)
