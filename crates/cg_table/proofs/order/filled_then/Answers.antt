use Rattle.std.proofs.Common.{◌≡◌, ◌+◌, ◌*◌, ◌^◌, ◌∙◌, ℕ, ap, sym, arith}
use Rattle.cg_table.specs.Formulas.{then_entry}
use Rattle.cg_table.specs.Live.{padded}
use Rattle.cg_table.specs.Table.{entry, table_loss, table_reach}
use Rattle.cg_table.proofs.FormulaLemmas.{then-within}
use Rattle.cg_table.proofs.DeadLemmas.{then-dead}
use Rattle.cg_table.proofs.LiveLemmas.{length-made, made-table}
use Rattle.cg_table.proofs.PlaceLemmas.{rows_done, ticks_row}
use Rattle.cg_table.proofs.TableLemmas.{rows-near}
use Rattle.cg_table.proofs.WithinLemmas.{entry-within}
use Rattle.cg_table.proofs.order.filled_then.Goals as goal

pub loop-a-preserved : goal.loop-a-preserved
loop-a-preserved g c = record {
  front = rows_done c.args.p.now.cells (then_entry (entry c.args.p.now) (entry c.args.t.now)) c.loop-a.entries.items c.push_then.new.entries.items c.loop-a.a c.in_ok-push_then.ensures.row c.loop-a.invariant.front;
  ticks = ticks_row c.loop-a.steps c.push_then.new.steps _ c.args.p.now.cells c.loop-a.a (omega arith) c.push_then.ensures.ticks c.loop-a.invariant.ticks;
}

pub of_rows-requires-clause-count : goal.of_rows-requires-clause-count
of_rows-requires-clause-count g c =
    let cells : c.cells-cells.result ≡ c.args.p.now.cells = c.cells-cells.ensures.value ∙ sym c.requires.cells in
    let end : c.live-live.result ≡ c.loop-a.a = omega arith in
    rw (cells, end) (length-made c.args.p.now.cells c.loop-a.a (then_entry (entry c.args.p.now) (entry c.args.t.now)) c.loop-a.entries.items c.loop-a.invariant.front)

pub of_rows-requires-clause-near : goal.of_rows-requires-clause-near
of_rows-requires-clause-near g c = rows-near c.args.p.now.cells (then_entry (entry c.args.p.now) (entry c.args.t.now)) (table_loss c.args.p.now + table_loss c.args.t.now + 3 * c.args.p.now.cells + 3) (table_reach c.args.p.now * 2 ^ 31 + table_reach c.args.t.now * 2 ^ 31 + c.args.p.now.cells + 63) c.loop-a.a c.loop-a.entries.items
    (λ a b le less. then-within (entry c.args.p.now) (entry c.args.t.now) (table_loss c.args.p.now) (table_reach c.args.p.now * 2 ^ 31) (table_loss c.args.t.now) (table_reach c.args.t.now * 2 ^ 31) c.args.p.now.cells a b (λ a b. entry-within c.args.p.now a b c.live-live.ensures.table) (λ a b. entry-within c.args.t.now a b c.cells-cells.ensures.table) le less)
    (omega (arith, c.cells-cells.ensures.table.few, c.requires.reach)) c.loop-a.invariant.front

pub returns-clause-value : goal.returns-clause-value
returns-clause-value g c =
    let cells : c.cells-cells.result ≡ c.args.p.now.cells = c.cells-cells.ensures.value ∙ sym c.requires.cells in
    made-table c.of_rows.result c.args.p.now.cells c.loop-a.a (then_entry (entry c.args.p.now) (entry c.args.t.now)) c.loop-a.entries.items (c.of_rows.ensures ∙ ap (λ (n : ℕ). padded n c.loop-a.entries.items) cells) c.loop-a.invariant.front (omega (arith, c.live-live.ensures.within))
    (λ a b low le less. then-dead c.args.p.now c.args.t.now a b (λ d more within. c.live-live.ensures.dead a d (omega arith) more within) le less)
