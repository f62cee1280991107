use Rattle.std.proofs.Common.{◌≡◌, ◌-◌, ◌≤◌, ℕ, get_or}
use Rattle.cg_enc.specs.Enclosure.{exact_zero}
use Rattle.cg_table.specs.Live.{live_until, live_rows, padded}
use Rattle.cg_table.specs.Table.{start}
use Rattle.cg_table.proofs.tri.live_of.Given as goal

abbrev pub invariant-loop-passed : goal.invariant-loop-passed
invariant-loop-passed l = record {
  live : live_rows (padded l.cells l.entries) ≡ live_until (padded l.cells l.entries) (l.rows - l.passed);
  place : l.begin ≡ start l.cells (l.rows - l.passed);
  zeros : (i : ℕ) → l.begin ≤ i → get_or l.entries i exact_zero ≡ exact_zero;
}
