use Rattle.std.proofs.Common.{◌≤◌, ◌+◌, length, map}
use Rattle.cg_script.specs.Command.{line_in}
use Rattle.cg_script.proofs.ScriptLemmas.{SoFar}
use Rattle.cg_script.proofs.script.lines_of.Given as goal

-- Good lines so far; each line takes a byte at least.
abbrev pub invariant-loop-rest : goal.invariant-loop-rest
invariant-loop-rest l = record {
  so_far : SoFar l.bytes l.rest l.number (map line_in l.lines.items);
  few : l.number + length l.rest ≤ length l.bytes + 1;
  left : length l.rest ≤ length l.bytes;
}

abbrev pub decreases-loop-rest : goal.decreases-loop-rest
decreases-loop-rest l = length l.rest
