use Rattle.std.proofs.Common.{◌≡◌, ◌+◌, ◌*◌, ◌^◌, ◌∙◌, ℕ, ap, arith}
use Rattle.cg_table.specs.Formulas.{spanned_entry}
use Rattle.cg_table.specs.Live.{live_rows, padded}
use Rattle.cg_table.specs.Table.{entry, table_loss, table_reach}
use Rattle.cg_table.proofs.FormulaLemmas.{spanned-within}
use Rattle.cg_table.proofs.DeadLemmas.{spanned-dead}
use Rattle.cg_table.proofs.LiveLemmas.{length-made, made-table}
use Rattle.cg_table.proofs.PlaceLemmas.{rows_done, start_next, start_rises}
use Rattle.cg_table.proofs.TableLemmas.{rows-near}
use Rattle.cg_table.proofs.WithinLemmas.{entry-within}
use Rattle.cg_table.proofs.span.filled_spanned.Goals as goal

pub returns-in_err-push_spanned-clause-few : goal.returns-in_err-push_spanned-clause-few
returns-in_err-push_spanned-clause-few g c =
    omega (arith, c.loop-a.invariant.ticks, c.push_spanned.ensures.at_most, start_next c.args.m.now.cells c.loop-a.a, start_rises c.args.m.now.cells (c.loop-a.a + 1) (live_rows c.args.m.now) (omega (arith, c.live-live.ensures.value)))

pub loop-a-preserved : goal.loop-a-preserved
loop-a-preserved g c = record {
  front = rows_done c.args.m.now.cells (spanned_entry (entry c.args.m.now) c.args.n) c.loop-a.entries.items c.push_spanned.new.entries.items c.loop-a.a c.in_ok-push_spanned.ensures.row c.loop-a.invariant.front;
  ticks = omega (arith, c.loop-a.invariant.ticks, c.in_ok-push_spanned.ensures.ticks, start_next c.args.m.now.cells c.loop-a.a);
}

pub of_rows-requires-clause-count : goal.of_rows-requires-clause-count
of_rows-requires-clause-count g c =
    let end : c.live-live.result ≡ c.loop-a.a = omega arith in
    rw (c.cells-cells.ensures.value, end) (length-made c.args.m.now.cells c.loop-a.a (spanned_entry (entry c.args.m.now) c.args.n) c.loop-a.entries.items c.loop-a.invariant.front)

pub of_rows-requires-clause-near : goal.of_rows-requires-clause-near
of_rows-requires-clause-near g c = rows-near c.args.m.now.cells (spanned_entry (entry c.args.m.now) c.args.n) (table_loss c.args.m.now + 3 * c.args.m.now.cells + 6 * c.args.n + 3) (table_reach c.args.m.now * 2 ^ 31 + c.args.m.now.cells + 258 * c.args.n + 129) c.loop-a.a c.loop-a.entries.items
    (λ a b le less. spanned-within (entry c.args.m.now) (table_loss c.args.m.now) (table_reach c.args.m.now * 2 ^ 31) c.args.n c.args.m.now.cells a b (λ a b. entry-within c.args.m.now a b c.cells-cells.ensures.table) c.cells-cells.ensures.table.few le less)
    (omega (arith, c.cells-cells.ensures.table.few, c.requires)) c.loop-a.invariant.front

pub returns-clause-value : goal.returns-clause-value
returns-clause-value g c =
    made-table c.of_rows.result c.args.m.now.cells c.loop-a.a (spanned_entry (entry c.args.m.now) c.args.n) c.loop-a.entries.items (c.of_rows.ensures ∙ ap (λ (n : ℕ). padded n c.loop-a.entries.items) c.cells-cells.ensures.value) c.loop-a.invariant.front (omega (arith, c.live-live.ensures.within))
    (λ a b low le less. spanned-dead c.args.m.now c.args.n a b (λ d more within. c.live-live.ensures.dead a d (omega arith) more within) le less)
