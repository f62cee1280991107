use Rattle.std.proofs.Common.{[], map, refl, sym, ap, subst, ◌∙◌, arith, take_all}
use Rattle.std.proofs.lemmas.Result.{err_from_is_err_and}
use Rattle.cg_curve.specs.Curves.{NamedCurve, IsSameCurveName}
use Rattle.cg_report.specs.declared.file.FileKind.TheVariants.{Curve}
use Rattle.cg_files.specs.Said.{a_curve}
use Rattle.cg_files.specs.Reading.{AreRead}
use Rattle.cg_files.specs.Inputs.{names_of, curve_files, said_of_curves}
use Rattle.cg_files.proofs.EndLemmas.{read_none}
use Rattle.cg_files.proofs.ListLemmas.{read_pushed, ends_next, names_pushed, few_names, new_name}
use Rattle.cg_files.proofs.lists.read_curves.Goals as goal

pub loop-place-init : goal.loop-place-init
loop-place-init g c =
    let told = g.H.Shelf.told c.args.shelf.now in
    record {
      read = λ given. subst (λ curves. AreRead given told told [] (said_of_curves curves)) (sym c.new-curves.ensures) (read_none given told);
      names = ap (λ curves. map (λ (one : NamedCurve). one.name) curves) c.new-curves.ensures;
      later = omega arith;
    }

pub returns-in_err-curve-clause-fault : goal.returns-in_err-curve-clause-fault
returns-in_err-curve-clause-fault g c =
    let p = err_from_is_err_and c.from_residual.result c.from_residual.ensures.1 in
    rw (p.1, p.2) (λ given.
    ends_next Curve (λ one. one.file) c.args.named.now c.loop-place.place c.index-named-place.result c.index-named-place.is c.loop-place-test.true given _ _ _ _ _ c.file.ensures.file
    (c.loop-place.invariant.read given) _ (c.in_err-curve.ensures.fault given))

pub push-requires-clause-few : goal.push-requires-clause-few
push-requires-clause-few g c =
    let count = few_names c.args.named.now c.loop-place.place c.index-named-place.result c.index-named-place.is c.loop-place-test.true (λ (one : NamedCurve). one.name) c.loop-place.curves c.loop-place.invariant.names in
    omega (arith, count, c.requires.few, c.loop-place-test.true)

pub push-requires-clause-new : goal.push-requires-clause-new
push-requires-clause-new g c =
    new_name c.args.named.now c.loop-place.place c.index-named-place.result c.index-named-place.is c.loop-place-test.true (λ (one : NamedCurve). one.name) c.loop-place.curves
    (λ a b. ¬ IsSameCurveName a b) c.as_bytes.result.now (c.as_bytes.ensures.value ∙ c.name.ensures.name) c.loop-place.invariant.names c.requires.distinct

pub loop-place-preserved : goal.loop-place-preserved
loop-place-preserved g c =
    let next : NamedCurve = record { name = c.as_bytes.result.now; curve = c.in_ok-curve.curve } in
    let pushed = c.in_ok-push.ensures.ok in
    record {
      read = λ given.
          read_pushed Curve (λ one. one.file) c.args.named.now c.loop-place.place c.index-named-place.result c.index-named-place.is c.loop-place-test.true given _ _ _ _ _ c.file.ensures.file
          (c.loop-place.invariant.read given) (λ (one : NamedCurve). a_curve one.curve) c.loop-place.curves _ next refl pushed (c.in_ok-curve.ensures.read given);
      names =
          names_pushed c.args.named.now c.loop-place.place c.index-named-place.result c.index-named-place.is c.loop-place-test.true (λ (one : NamedCurve). one.name) c.loop-place.curves _ next
          pushed (c.as_bytes.ensures.value ∙ c.name.ensures.name) c.loop-place.invariant.names;
      later = omega (arith, c.loop-place.invariant.later, c.curve_of.ensures.later);
    }

pub returns-clause-read : goal.returns-clause-read
returns-clause-read g c =
    let all = take_all c.loop-place.place c.args.named.now c.loop-place-test.false in
    λ given. subst (λ named. AreRead given (g.H.Shelf.told c.args.shelf.now) (g.H.Shelf.told c.loop-place.shelf) (curve_files named) (said_of_curves c.loop-place.curves)) all (c.loop-place.invariant.read given)

pub returns-clause-names : goal.returns-clause-names
returns-clause-names g c = c.loop-place.invariant.names ∙ ap names_of (take_all c.loop-place.place c.args.named.now c.loop-place-test.false)
