-- Why a command of a session is refused. chron's own.
use Rattle.std.specs.Prelude.{ℕ, ℤ}
use Rattle.cg_meaning.specs.Cover.{CoverFault}
use Rattle.cg_sharing.specs.Edit.{EditFault}

-- a grid is refused with the number of its years, a version with how many there are, and a commit with the newer head
pub data Cause : Type 0 where
  NotOpen : Cause
  NoGrid : Cause
  GridLimit : ℤ → Cause
  Fault : EditFault → Cause
  NoModel : Cause
  NoVersion : ℕ → Cause
  NoParent : Cause
  Moved : ℕ → Cause
  Cover : CoverFault → Cause
