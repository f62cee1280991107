use Rattle.std.proofs.Common.{◌≡◌, ◌+◌, List, ℕ, length, Option}
use Rattle.std.specs.Io.{StartsWith, appended_bytes}
use Rattle.std.specs.Io.KnownBytes.{Consumes}
use Rattle.cg_io.proofs.file_shelf.append_parts.Given as goal

-- what was appended so far was taken from the reader, and is what the limit has lost
pub record Moved (old now : Option (List ℕ)) (before after : List ℕ) (left limit : ℕ) : Type 0 where
  pub kept : StartsWith after before
  pub taken : Consumes old now (appended_bytes before after)
  pub count : length after + left ≡ length before + limit

abbrev pub invariant-loop-taken : goal.invariant-loop-taken
invariant-loop-taken g l = Moved (g.F.Read.remaining l.fn.file) (g.F.Read.remaining l.file) l.fn.into.items l.into.items l.left l.limit

-- each turn takes at least one byte
abbrev pub decreases-loop-taken : goal.decreases-loop-taken
decreases-loop-taken g l = l.left
