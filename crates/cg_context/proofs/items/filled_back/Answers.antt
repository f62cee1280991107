use Rattle.std.proofs.Common.{ℕ, ◌+◌, ◌*◌, ◌^◌, ◌∙◌, arith, ap, sym}
use Rattle.cg_table.specs.Live.{padded}
use Rattle.cg_table.specs.Table.{start, entry, table_loss, table_reach}
use Rattle.cg_table.proofs.PlaceLemmas.{rows_done, ticks_row}
use Rattle.cg_table.proofs.TableLemmas.{rows-near}
use Rattle.cg_context.specs.Formulas.{back_entry}
use Rattle.cg_context.proofs.BackLemmas.{back-fits, back-dead}
use Rattle.cg_context.proofs.RowLemmas.{rows-count, rows-padded}
use Rattle.cg_context.proofs.items.filled_back.Goals as goal

pub loop-a-preserved : goal.loop-a-preserved
loop-a-preserved g c = record {
  front = rows_done c.args.v.now.cells (back_entry c.args.v.now.cells (entry c.args.v.now) (entry c.args.t.now)) c.loop-a.entries.items c.push_back.new.entries.items c.loop-a.a
      c.in_ok-push_back.ensures.row c.loop-a.invariant.front;
  ticks = ticks_row c.loop-a.steps c.push_back.new.steps _ c.args.v.now.cells c.loop-a.a (omega arith) c.push_back.ensures.ticks c.loop-a.invariant.ticks;
}

pub returns-in_err-push_back-clause-ticks : goal.returns-in_err-push_back-clause-ticks
returns-in_err-push_back-clause-ticks g c =
    let most = ticks_row c.loop-a.steps c.push_back.new.steps _ c.args.v.now.cells c.loop-a.a (omega arith) c.push_back.ensures.ticks c.loop-a.invariant.ticks in
    omega (arith, most)

pub of_rows-requires-clause-count : goal.of_rows-requires-clause-count
of_rows-requires-clause-count g c =
    let v = c.args.v.now in
    rows-count v.cells c.min-live.result c.loop-a.a (back_entry v.cells (entry v) (entry c.args.t.now)) c.loop-a.entries.items (omega arith) c.loop-a.invariant.front
    ∙ ap (λ (n : ℕ). start n c.min-live.result) (sym c.cells-cells.ensures.value)

pub of_rows-requires-clause-near : goal.of_rows-requires-clause-near
of_rows-requires-clause-near g c =
    let v = c.args.v.now in
    let t = c.args.t.now in
    rows-near v.cells (back_entry v.cells (entry v) (entry t)) (table_loss v + table_loss t + 3 + 3 * v.cells) (table_reach v * 2 ^ 31 + table_reach t * 2 ^ 31 + 63 + v.cells) c.loop-a.a c.loop-a.entries.items
    (back-fits v t c.cells-cells.ensures.table c.live-2.ensures.table) (omega (arith, c.cells-cells.ensures.table.few, c.requires.reach)) c.loop-a.invariant.front

pub returns-clause-value : goal.returns-clause-value
returns-clause-value g c =
    let v = c.args.v.now in
    let t = c.args.t.now in
    c.of_rows.ensures ∙ ap (λ (n : ℕ). padded n c.loop-a.entries.items) c.cells-cells.ensures.value
    ∙ rows-padded v.cells c.min-live.result c.loop-a.a (back_entry v.cells (entry v) (entry t)) c.loop-a.entries.items (omega arith) (omega (arith, c.min-live.ensures, c.live.ensures.within))
    (back-dead v t c.live.result c.live-2.result c.min-live.result c.requires.cells c.min-live.ensures c.live.ensures.dead c.live-2.ensures.dead) c.loop-a.invariant.front
