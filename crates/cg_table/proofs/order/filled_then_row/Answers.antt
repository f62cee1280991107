use Rattle.std.proofs.Common.{◌≡◌, ◌+◌, ◌*◌, ◌^◌, ◌∙◌, ℕ, ap, sym, arith}
use Rattle.cg_table.specs.Formulas.{then_row_entry}
use Rattle.cg_table.specs.Live.{live_rows, padded}
use Rattle.cg_table.specs.Losses.{greatest_loss, greatest_reach}
use Rattle.cg_table.specs.Table.{entry, row_entry, table_loss, table_reach}
use Rattle.cg_table.proofs.FormulaLemmas.{then_row-within}
use Rattle.cg_table.proofs.DeadLemmas.{then_row-dead}
use Rattle.cg_table.proofs.LiveLemmas.{length-made, made-table}
use Rattle.cg_table.proofs.PlaceLemmas.{rows_done, start_next, start_rises}
use Rattle.cg_table.proofs.TableLemmas.{rows-near}
use Rattle.cg_table.proofs.WithinLemmas.{entry-within, row_entry-within}
use Rattle.cg_table.proofs.order.filled_then_row.Goals as goal

pub returns-in_err-push_then_row-clause-few : goal.returns-in_err-push_then_row-clause-few
returns-in_err-push_then_row-clause-few g c =
    omega (arith, c.loop-a.invariant.ticks, c.push_then_row.ensures.at_most, start_next c.args.p.now.cells c.loop-a.a, start_rises c.args.p.now.cells (c.loop-a.a + 1) (live_rows c.args.p.now) (omega (arith, c.live-live.ensures.value)))

pub loop-a-preserved : goal.loop-a-preserved
loop-a-preserved g c = record {
  front = rows_done c.args.p.now.cells (then_row_entry (entry c.args.p.now) (row_entry c.args.w.now)) c.loop-a.entries.items c.push_then_row.new.entries.items c.loop-a.a c.in_ok-push_then_row.ensures.row c.loop-a.invariant.front;
  ticks = omega (arith, c.loop-a.invariant.ticks, c.in_ok-push_then_row.ensures.ticks, start_next c.args.p.now.cells c.loop-a.a);
}

pub of_rows-requires-clause-count : goal.of_rows-requires-clause-count
of_rows-requires-clause-count g c =
    let cells : c.len-cells.result ≡ c.args.p.now.cells = c.len-cells.ensures.cells ∙ sym c.requires.cells in
    let end : c.live-live.result ≡ c.loop-a.a = omega arith in
    rw (cells, end) (length-made c.args.p.now.cells c.loop-a.a (then_row_entry (entry c.args.p.now) (row_entry c.args.w.now)) c.loop-a.entries.items c.loop-a.invariant.front)

pub of_rows-requires-clause-near : goal.of_rows-requires-clause-near
of_rows-requires-clause-near g c = rows-near c.args.p.now.cells (then_row_entry (entry c.args.p.now) (row_entry c.args.w.now)) (table_loss c.args.p.now + greatest_loss c.args.w.now + 3 * c.args.p.now.cells + 3) (table_reach c.args.p.now * 2 ^ 31 + greatest_reach c.args.w.now * 2 ^ 31 + c.args.p.now.cells + 63) c.loop-a.a c.loop-a.entries.items
    (λ a b le less. then_row-within (entry c.args.p.now) (row_entry c.args.w.now) (table_loss c.args.p.now) (table_reach c.args.p.now * 2 ^ 31) (greatest_loss c.args.w.now) (greatest_reach c.args.w.now * 2 ^ 31) c.args.p.now.cells a b (λ a b. entry-within c.args.p.now a b c.live-live.ensures.table) (λ b. row_entry-within c.args.w.now b c.len-cells.ensures.entries) le less)
    (omega (arith, c.live-live.ensures.table.few, c.requires.reach)) c.loop-a.invariant.front

pub returns-clause-value : goal.returns-clause-value
returns-clause-value g c =
    let cells : c.len-cells.result ≡ c.args.p.now.cells = c.len-cells.ensures.cells ∙ sym c.requires.cells in
    made-table c.of_rows.result c.args.p.now.cells c.loop-a.a (then_row_entry (entry c.args.p.now) (row_entry c.args.w.now)) c.loop-a.entries.items (c.of_rows.ensures ∙ ap (λ (n : ℕ). padded n c.loop-a.entries.items) cells) c.loop-a.invariant.front (omega (arith, c.live-live.ensures.within))
    (λ a b low le less. then_row-dead c.args.p.now (row_entry c.args.w.now) a b (λ d more within. c.live-live.ensures.dead a d (omega arith) more within) le less)
