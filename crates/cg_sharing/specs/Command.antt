-- The commands of a session, and where they stand in its script. chron's own.
use Rattle.std.specs.Prelude.{ℕ, ℤ}
use Rattle.cg_meaning.specs.Tree.{Name}
use Rattle.cg_sharing.specs.Edit.{Edit}

-- a grid has its older and its younger year, cal BP
pub data Command : Type 0 where
  Grid : ℤ → ℤ → Command
  Open : Name → Command
  Take : ℕ → Command
  Undo : Command
  Change : Edit → Command
  Commit : Name → Command
  Print : Name → Command
  Ranges : Name → Command
  Model : Command
  Work : Command

-- a command, and its line in the script, counted from 1
pub record Line : Type 0 where
  pub number : ℕ
  pub command : Command
