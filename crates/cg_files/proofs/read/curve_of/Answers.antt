use Rattle.std.proofs.Common.{subst}
use Rattle.cg_curve.specs.File.{HasFault}
use Rattle.cg_files.proofs.ReadLemmas.{curve_fault}
use Rattle.cg_files.proofs.read.curve_of.Goals as goal

pub returns-clause-fault : goal.returns-clause-fault
returns-clause-fault g c = λ given.
    rw c.fault_of_curve.ensures
    (curve_fault given _ _ c.args.number c.args.name.now _ c.in_ok-bytes.ensures.found c.in_ok-bytes.ensures.short c.bytes_of.ensures.reads _
    (λ other. subst (λ bytes. HasFault bytes c.in-Err.fault) c.deref.ensures.value (c.in-Err.ensures.fault other)))
