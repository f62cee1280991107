use Rattle.std.proofs.Common.{ℕ, ◌+◌, ◌*◌, ◌^◌, ◌∙◌, arith, ap, sym}
use Rattle.cg_table.specs.Live.{padded}
use Rattle.cg_table.specs.Losses.{greatest_loss, greatest_reach}
use Rattle.cg_table.specs.Table.{start, entry, row_entry, table_loss, table_reach}
use Rattle.cg_table.proofs.PlaceLemmas.{rows_done, start_next, start_rises}
use Rattle.cg_table.proofs.TableLemmas.{rows-near}
use Rattle.cg_context.specs.Formulas.{back_row_entry}
use Rattle.cg_context.proofs.LaterLemmas.{back_row-fits, back_row-dead}
use Rattle.cg_context.proofs.RowLemmas.{rows-count, rows-padded}
use Rattle.cg_context.proofs.later.filled_back_row.Goals as goal

pub loop-a-preserved : goal.loop-a-preserved
loop-a-preserved g c = record {
  front = rows_done c.args.v.now.cells (back_row_entry c.args.v.now.cells (entry c.args.v.now) (row_entry c.args.w.now)) c.loop-a.entries.items c.push_back_row.new.entries.items c.loop-a.a
      c.in_ok-push_back_row.ensures.row c.loop-a.invariant.front;
  ticks = omega (arith, c.loop-a.invariant.ticks, c.in_ok-push_back_row.ensures.ticks, start_next c.args.v.now.cells c.loop-a.a);
}

pub returns-in_err-push_back_row-clause-few : goal.returns-in_err-push_back_row-clause-few
returns-in_err-push_back_row-clause-few g c =
    let v = c.args.v.now in
    omega (arith, c.loop-a.invariant.ticks, c.push_back_row.ensures.at_most, start_next v.cells c.loop-a.a, start_rises v.cells (c.loop-a.a + 1) c.live-live.result (omega arith), ap (start v.cells) c.live-live.ensures.value)

pub of_rows-requires-clause-few : goal.of_rows-requires-clause-few
of_rows-requires-clause-few g c = omega (arith, c.live-live.ensures.table.few, c.len-cells.ensures.cells, c.requires.cells)

pub of_rows-requires-clause-count : goal.of_rows-requires-clause-count
of_rows-requires-clause-count g c =
    let v = c.args.v.now in
    rows-count v.cells c.live-live.result c.loop-a.a (back_row_entry v.cells (entry v) (row_entry c.args.w.now)) c.loop-a.entries.items (omega arith) c.loop-a.invariant.front
    ∙ ap (λ (n : ℕ). start n c.live-live.result) (c.requires.cells ∙ sym c.len-cells.ensures.cells)

pub of_rows-requires-clause-near : goal.of_rows-requires-clause-near
of_rows-requires-clause-near g c =
    let v = c.args.v.now in
    let w = c.args.w.now in
    rows-near v.cells (back_row_entry v.cells (entry v) (row_entry w)) (table_loss v + greatest_loss w + 3 + 3 * v.cells) (table_reach v * 2 ^ 31 + greatest_reach w * 2 ^ 31 + 63 + v.cells) c.loop-a.a c.loop-a.entries.items
    (back_row-fits v w c.live-live.ensures.table c.len-cells.ensures.entries) (omega (arith, c.live-live.ensures.table.few, c.requires.reach)) c.loop-a.invariant.front

pub returns-clause-value : goal.returns-clause-value
returns-clause-value g c =
    let v = c.args.v.now in
    let w = c.args.w.now in
    c.of_rows.ensures ∙ ap (λ (n : ℕ). padded n c.loop-a.entries.items) (c.len-cells.ensures.cells ∙ sym c.requires.cells)
    ∙ rows-padded v.cells c.live-live.result c.loop-a.a (back_row_entry v.cells (entry v) (row_entry w)) c.loop-a.entries.items (omega arith) c.live-live.ensures.within
    (back_row-dead v w c.live-live.result c.live-live.ensures.dead) c.loop-a.invariant.front
