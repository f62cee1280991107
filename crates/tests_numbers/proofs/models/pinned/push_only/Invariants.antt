use Rattle.std.proofs.Common.{◌^◌}
use Rattle.std.specs.List.{All}
use Rattle.cg_enc.specs.Enclosure.{IsExponent}
use Rattle.tests_numbers.proofs.models.pinned.push_only.Given as goal

-- the entries so far are near
abbrev pub invariant-loop-b : goal.invariant-loop-b
invariant-loop-b l = All (λ e. IsExponent (2 ^ 60) e.exp) l.entries.items
