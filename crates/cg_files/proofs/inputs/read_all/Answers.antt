use Rattle.std.proofs.Common.{refl, ap, ◌∙◌}
use Rattle.std.proofs.lemmas.Result.{err_from_is_err_and}
use Rattle.cg_files.specs.Inputs.{names_of}
use Rattle.cg_files.proofs.InputsLemmas.{ends_at_curves, ends_at_models, ends_at_sessions, all_read}
use Rattle.cg_files.proofs.inputs.read_all.Goals as goal

pub returns-in_err-curves-clause-fault : goal.returns-in_err-curves-clause-fault
returns-in_err-curves-clause-fault g c =
    let p = err_from_is_err_and c.from_residual.result c.from_residual.ensures.1 in
    let request = c.args.request.now in
    rw (p.1, p.2) (ends_at_curves _ request c.curves-named.result.now request.models request.sessions c.curves-named.ensures.curves refl refl _ _ (c.in_err-curves.ensures.fault (names_of c.curves-named.result.now)))

pub returns-in_err-models-clause-fault : goal.returns-in_err-models-clause-fault
returns-in_err-models-clause-fault g c =
    let p = err_from_is_err_and c.from_residual-in_err-models.result c.from_residual-in_err-models.ensures.1 in
    let request = c.args.request.now in
    rw (p.1, p.2)
    (ends_at_models _ request c.curves-named.result.now c.models.result.now request.sessions c.curves-named.ensures.curves c.models.ensures.models refl _ _ (c.in_ok-curves.ensures.read (names_of c.curves-named.result.now)) _ _
    c.in_err-models.ensures.fault)

pub returns-in_err-scripts-clause-fault : goal.returns-in_err-scripts-clause-fault
returns-in_err-scripts-clause-fault g c =
    let p = err_from_is_err_and c.from_residual-in_err-scripts.result c.from_residual-in_err-scripts.ensures.1 in
    let given = names_of c.curves-named.result.now in
    rw (p.1, p.2)
    (ends_at_sessions _ c.args.request.now c.curves-named.result.now c.models.result.now _ c.curves-named.ensures.curves c.models.ensures.models c.sessions.ensures.sessions _ _
    (c.in_ok-curves.ensures.read given) _ _ c.in_ok-models.ensures.read _ _ (c.in_err-scripts.ensures.fault given))

pub returns-clause-inputs : goal.returns-clause-inputs
returns-clause-inputs g c =
    let given = names_of c.curves-named.result.now in
    let all = all_read _ c.args.request.now c.curves-named.result.now c.models.result.now _ c.curves-named.ensures.curves c.models.ensures.models c.sessions.ensures.sessions _ _
    (c.in_ok-curves.ensures.read given) _ _ c.in_ok-models.ensures.read _ _ (c.in_ok-scripts.ensures.read given) in
    record {
      accepted = all.accepted;
      curves = c.in_ok-curves.ensures.names ∙ ap names_of c.curves-named.ensures.curves;
      models = c.in_ok-models.ensures.names ∙ ap names_of c.models.ensures.models;
    }

pub returns-clause-reads : goal.returns-clause-reads
returns-clause-reads g c =
    let given = names_of c.curves-named.result.now in
    let all = all_read _ c.args.request.now c.curves-named.result.now c.models.result.now _ c.curves-named.ensures.curves c.models.ensures.models c.sessions.ensures.sessions _ _
    (c.in_ok-curves.ensures.read given) _ _ c.in_ok-models.ensures.read _ _ (c.in_ok-scripts.ensures.read given) in
    all.reads
