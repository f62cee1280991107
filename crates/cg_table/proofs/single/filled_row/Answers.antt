use Rattle.std.proofs.Common.{◌^◌, arith}
use Rattle.cg_table.specs.Losses.{greatest_loss}
use Rattle.cg_table.specs.Table.{row_entry}
use Rattle.cg_table.proofs.PlaceLemmas.{count_rows}
use Rattle.cg_table.proofs.TableLemmas.{rows-near}
use Rattle.cg_table.proofs.WithinLemmas.{row_entry-near}
use Rattle.cg_table.proofs.single.filled_row.Goals as goal

pub of_entries-requires-clause-count : goal.of_entries-requires-clause-count
of_entries-requires-clause-count c = count_rows c.len-cells.result (λ a b. row_entry c.args.w.now b) c.loop-a.entries.items c.loop-a.a (omega arith) c.loop-a.invariant

pub of_entries-requires-clause-near : goal.of_entries-requires-clause-near
of_entries-requires-clause-near c = rows-near c.len-cells.result (λ a b. row_entry c.args.w.now b) (greatest_loss c.args.w.now) (2 ^ 60) c.loop-a.a c.loop-a.entries.items (λ a b le less. row_entry-near c.args.w.now b c.len-cells.ensures.entries) (omega arith) c.loop-a.invariant
