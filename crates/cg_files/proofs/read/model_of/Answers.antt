use Rattle.std.proofs.Common.{subst}
use Rattle.std.proofs.lemmas.Result.{err_from_is_err_and}
use Rattle.cg_grammar.specs.Text.{FailsBy}
use Rattle.cg_grammar.specs.declared.command.Base.TheVariants.{Script}
use Rattle.cg_report.specs.declared.file.FileKind.TheVariants.{Model}
use Rattle.cg_report.specs.declared.file.FileCause.TheVariants.{UnknownCurve}
use Rattle.cg_files.specs.Said.{NamesUnknown}
use Rattle.cg_files.specs.Inputs.{file_as, names_of}
use Rattle.cg_files.proofs.EndLemmas.{refuse_one}
use Rattle.cg_files.proofs.ReadLemmas.{model_fault}
use Rattle.cg_files.proofs.read.model_of.Goals as goal

pub returns-in_err-bytes-clause-fault : goal.returns-in_err-bytes-clause-fault
returns-in_err-bytes-clause-fault g c =
    let p = err_from_is_err_and c.from_residual.result c.from_residual.ensures.1 in
    rw (p.1, p.2) (c.in_err-bytes.ensures.fault (names_of c.args.curves.now))

pub returns-in-Ok-clause-fault : goal.returns-in-Ok-clause-fault
returns-in-Ok-clause-fault g c =
    let unknown = subst (λ bytes. NamesUnknown (names_of c.args.curves.now) bytes c.in-Some.line) c.deref-in-Ok.ensures.value c.in-Some.ensures.some in
    refuse_one (names_of c.args.curves.now) _ _ (file_as Model c.args.number c.args.name.now) _ c.in-Some.line UnknownCurve c.in_ok-bytes.ensures.found
    (c.in_ok-bytes.ensures.short, unknown) c.bytes_of.ensures.reads

pub returns-clause-fault : goal.returns-clause-fault
returns-clause-fault g c =
    let failed = subst (λ bytes. FailsBy Script bytes c.in-Err.fault) c.deref.ensures.value c.in-Err.ensures.fault in
    rw c.fault_of_model.ensures
    (model_fault (names_of c.args.curves.now) _ _ c.args.number c.args.name.now _ c.in_ok-bytes.ensures.found c.in_ok-bytes.ensures.short c.bytes_of.ensures.reads
    c.in-Err.fault.line c.in-Err.fault.cause failed)
