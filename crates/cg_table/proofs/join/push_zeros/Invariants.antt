use Rattle.std.proofs.Common.{◌≡◌, ◌++◌, replicate}
use Rattle.cg_enc.specs.Enclosure.{exact_zero}
use Rattle.cg_table.proofs.join.push_zeros.Given as goal

abbrev pub invariant-loop : goal.invariant-loop
invariant-loop l = record {
  zeros : l.entries.items ≡ l.initial.entries.items ++ replicate l.counter exact_zero;
}
