use Rattle.std.proofs.Common.{◌≤◌, ◌+◌, length}
use Rattle.cg_curve.proofs.FileLemmas.{SoFar}
use Rattle.cg_curve.proofs.file.read_rows.Given as goal

-- Good rows so far; each line takes a byte at least.
abbrev pub invariant-loop-rest : goal.invariant-loop-rest
invariant-loop-rest l = SoFar l.bytes l.rest l.number l.rows.items × (l.number + length l.rest ≤ length l.bytes + 1)

abbrev pub decreases-loop-rest : goal.decreases-loop-rest
decreases-loop-rest l = length l.rest
