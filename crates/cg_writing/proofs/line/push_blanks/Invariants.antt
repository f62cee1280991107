use Rattle.std.proofs.Common.{◌≡◌, ◌++◌, replicate}
use Rattle.cg_writing.proofs.line.push_blanks.Given as goal

-- the blanks so far
abbrev pub invariant-loop : goal.invariant-loop
invariant-loop l = l.text.items ≡ l.fn.text.items ++ replicate l.counter 32
