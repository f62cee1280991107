use Rattle.std.proofs.Common.{◌^◌, All}
use Rattle.cg_enc.specs.Enclosure.{IsExponent}
use Rattle.tests_wide.proofs.ends.entries.Given as goal

abbrev pub invariant-loop-place : goal.invariant-loop-place
invariant-loop-place g l = All (λ e. IsExponent (2 ^ 60) e.exp) l.entries.items
