use Rattle.std.proofs.Common.{subst}
use Rattle.cg_script.specs.Script.{FailsBy}
use Rattle.cg_files.proofs.ReadLemmas.{script_fault}
use Rattle.cg_files.proofs.read.script_of.Goals as goal

pub returns-clause-fault : goal.returns-clause-fault
returns-clause-fault g c = λ given.
    rw c.fault_of_script.ensures
    (script_fault given _ _ c.args.number c.args.name.now _ c.in_ok-bytes.ensures.found c.in_ok-bytes.ensures.short c.bytes_of.ensures.reads c.in-Err.fault.line c.in-Err.fault.cause
    (subst (λ bytes. FailsBy bytes c.in-Err.fault) c.deref.ensures.value c.in-Err.ensures.fault))
