use Rattle.std.proofs.Common.{◌≢◌, [], map, refl, sym, ap, subst, ◌∙◌, arith, take_all}
use Rattle.std.proofs.lemmas.Result.{err_from_is_err_and}
use Rattle.cg_sharing.specs.Versions.{StartModel}
use Rattle.cg_report.specs.declared.file.FileKind.TheVariants.{Model}
use Rattle.cg_files.specs.Said.{a_model}
use Rattle.cg_files.specs.Reading.{AreRead}
use Rattle.cg_files.specs.Inputs.{names_of, model_files, said_of_models}
use Rattle.cg_files.proofs.EndLemmas.{read_none}
use Rattle.cg_files.proofs.ListLemmas.{read_pushed, ends_next, names_pushed, few_names, new_name}
use Rattle.cg_files.proofs.lists.read_models.Goals as goal

pub loop-place-init : goal.loop-place-init
loop-place-init g c =
    let told = g.H.Shelf.told c.args.shelf.now in
    let given = names_of c.args.curves.now in
    record {
      read = subst (λ models. AreRead given told told [] (said_of_models models)) (sym c.new-models.ensures) (read_none given told);
      names = ap (λ models. map (λ (one : StartModel). one.name) models) c.new-models.ensures;
      later = omega arith;
    }

pub returns-in_err-model-clause-fault : goal.returns-in_err-model-clause-fault
returns-in_err-model-clause-fault g c =
    let p = err_from_is_err_and c.from_residual.result c.from_residual.ensures.1 in
    rw (p.1, p.2)
    (ends_next Model (λ one. one.file) c.args.named.now c.loop-place.place c.index-named-place.result c.index-named-place.is c.loop-place-test.true (names_of c.args.curves.now) _ _ _ _ _ c.file.ensures.file
    c.loop-place.invariant.read _ c.in_err-model.ensures.fault)

pub push-requires-clause-few : goal.push-requires-clause-few
push-requires-clause-few g c =
    let count = few_names c.args.named.now c.loop-place.place c.index-named-place.result c.index-named-place.is c.loop-place-test.true (λ (one : StartModel). one.name) c.loop-place.models c.loop-place.invariant.names in
    omega (arith, count, c.requires.few, c.loop-place-test.true)

pub push-requires-clause-fresh : goal.push-requires-clause-fresh
push-requires-clause-fresh g c =
    new_name c.args.named.now c.loop-place.place c.index-named-place.result c.index-named-place.is c.loop-place-test.true (λ (one : StartModel). one.name) c.loop-place.models
    (λ a b. a ≢ b) c.in_ok-name_of.field-0 (c.in_ok-name_of.ensures ∙ c.name.ensures.name) c.loop-place.invariant.names c.requires.distinct

pub loop-place-preserved : goal.loop-place-preserved
loop-place-preserved g c =
    let next : StartModel = record { name = c.in_ok-name_of.field-0; chronology = c.in_ok-model.model } in
    let pushed = c.in_ok-push.ensures.ok in
    record {
      read =
          read_pushed Model (λ one. one.file) c.args.named.now c.loop-place.place c.index-named-place.result c.index-named-place.is c.loop-place-test.true (names_of c.args.curves.now) _ _ _ _ _ c.file.ensures.file
          c.loop-place.invariant.read (λ (one : StartModel). a_model one.chronology) c.loop-place.models _ next refl pushed c.in_ok-model.ensures.read;
      names =
          names_pushed c.args.named.now c.loop-place.place c.index-named-place.result c.index-named-place.is c.loop-place-test.true (λ (one : StartModel). one.name) c.loop-place.models _ next
          pushed (c.in_ok-name_of.ensures ∙ c.name.ensures.name) c.loop-place.invariant.names;
      later = omega (arith, c.loop-place.invariant.later, c.model_of.ensures.later);
    }

pub returns-clause-read : goal.returns-clause-read
returns-clause-read g c =
    let all = take_all c.loop-place.place c.args.named.now c.loop-place-test.false in
    subst (λ named. AreRead (names_of c.args.curves.now) (g.H.Shelf.told c.args.shelf.now) (g.H.Shelf.told c.loop-place.shelf) (model_files named) (said_of_models c.loop-place.models)) all c.loop-place.invariant.read

pub returns-clause-names : goal.returns-clause-names
returns-clause-names g c = c.loop-place.invariant.names ∙ ap names_of (take_all c.loop-place.place c.args.named.now c.loop-place-test.false)
