-- What the code's causes of refusals mean.
use Rattle.cg_meaning.specs.Cover as cover
use Rattle.cg_sharing.specs.Edit as edit
use Rattle.cg_sharing.specs.Cause as cause
use Rattle.cg_edit.specs.Plain.{kind_in}
use Rattle.cg_report.specs.declared.cause.SessionCause.{SessionCause}
use Rattle.cg_report.specs.declared.cause.SessionCause.TheVariants.{NotOpen, NoGrid, GridLimit, NoName, Ambiguous, WrongKind, Limit, NoModel, NoVersion, NoParent, Moved, NoCurve, Uncovered, Far}

abbrev pub cause_in : SessionCause → cause.Cause
cause_in NotOpen = cause.NotOpen
cause_in NoGrid = cause.NoGrid
cause_in (GridLimit cells) = cause.GridLimit cells
cause_in NoName = cause.Fault edit.NoName
cause_in (Ambiguous count) = cause.Fault (edit.Ambiguous count)
cause_in (WrongKind kind) = cause.Fault (edit.WrongKind (kind_in kind))
cause_in (Limit limit) = cause.Fault (edit.Past limit)
cause_in NoModel = cause.NoModel
cause_in (NoVersion count) = cause.NoVersion count
cause_in NoParent = cause.NoParent
cause_in (Moved head) = cause.Moved head
cause_in NoCurve = cause.Cover cover.NoCurve
cause_in (Uncovered year) = cause.Cover (cover.Uncovered year)
cause_in (Far year) = cause.Cover (cover.Far year)
