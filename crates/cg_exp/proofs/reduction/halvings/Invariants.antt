use Rattle.std.proofs.Common.{ℕ, ◌*◌, ◌^◌, ◌<◌}
use Rattle.cg_exp.proofs.reduction.halvings.Given as goal

-- fewer halvings aren't enough
abbrev pub invariant-loop-h : goal.invariant-loop-h
invariant-loop-h l = (k : ℕ) → k < l.h → l.q * 2 ^ k < 4 * l.p
