use Rattle.std.proofs.Common.{◌^◌}
use Rattle.std.specs.List.{All}
use Rattle.cg_enc.specs.Enclosure.{IsExponent}
use Rattle.tests_numbers.proofs.models.pinned.table_only.Given as goal

-- the entries so far are near
abbrev pub invariant-loop-a : goal.invariant-loop-a
invariant-loop-a l = All (λ e. IsExponent (2 ^ 60) e.exp) l.entries.items
