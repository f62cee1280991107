use Rattle.std.proofs.Common.{◌^◌}
use Rattle.std.specs.List.{All}
use Rattle.cg_enc.specs.Enclosure.{IsExponent}
use Rattle.tests_numbers.proofs.tables.entries.Given as goal

abbrev pub invariant-loop-ends : goal.invariant-loop-ends
invariant-loop-ends g l = All (λ e. IsExponent (2 ^ 60) e.exp) l.entries.items
