-- The status of a run.
use Rattle.std.specs.Prelude.{Bool, true, false}
use Rattle.cg_report.specs.declared.status.Status.{Status}
use Rattle.cg_report.specs.declared.status.Status.TheVariants.{Done, ReadFault, Refused, WriteFault, NoMemory}
use Rattle.cg_files.specs.declared.file.FileFault.{FileFault}
use Rattle.cg_files.specs.declared.file.FileFault.TheVariants as faults

-- the status of a fault of a file
abbrev pub status_of : FileFault → Status
status_of (faults.Failed file) = ReadFault file
status_of (faults.Refused file line cause) = Refused file line cause
status_of faults.NoMemory = NoMemory

-- the status once the sessions ran: whether a write failed, and whether want of memory stopped a session
abbrev pub status_after : Bool → Bool → Status
status_after true stopped = WriteFault
status_after false true = NoMemory
status_after false false = Done
