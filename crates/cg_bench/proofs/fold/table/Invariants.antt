use Rattle.std.proofs.Common.{◌≡◌, ◌^◌, map}
use Rattle.std.specs.List.{All, range_with_len}
use Rattle.cg_enc.specs.Enclosure.{IsExponent}
use Rattle.cg_bench.specs.Fold.{made}
use Rattle.cg_bench.proofs.fold.table.Given as goal

abbrev pub invariant-loop-place : goal.invariant-loop-place
invariant-loop-place l = record {
  value : l.entries.items ≡ map made (range_with_len 0 l.place);
  near : All (λ e. IsExponent (2 ^ 20) e.exp) l.entries.items;
}
