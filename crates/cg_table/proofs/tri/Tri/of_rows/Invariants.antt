use Rattle.std.specs.List.{All}
use Rattle.std.proofs.Common.{take, ◌≡◌}
use Rattle.cg_enc.specs.Enclosure.{IsEnclosure}
use Rattle.cg_table.specs.Losses.{greatest_loss, greatest_reach}
use Rattle.cg_table.proofs.tri.Tri.of_rows.Given as goal

abbrev pub invariant-loop-e : goal.invariant-loop-e
invariant-loop-e l = record {
  valid : All IsEnclosure (take l.e-index l.e-items);
  loss : l.loss ≡ greatest_loss (take l.e-index l.e-items);
  reach : l.reach ≡ greatest_reach (take l.e-index l.e-items);
}
