use Rattle.std.proofs.Common.{◌≡◌, ◌+◌, ◌*◌, ◌^◌, ◌≤◌, ◌∙◌, ℕ, min, inl, inr, ap, arith}
use Rattle.std.proofs.lemmas.Bool.{cases_lt}
use Rattle.cg_table.specs.Formulas.{beside_entry}
use Rattle.cg_table.specs.Live.{live_rows, padded}
use Rattle.cg_table.specs.Table.{entry, table_loss, table_reach}
use Rattle.cg_table.proofs.FormulaLemmas.{beside-within}
use Rattle.cg_table.proofs.DeadLemmas.{beside-dead_left, beside-dead_right}
use Rattle.cg_table.proofs.LiveLemmas.{length-made, made-table}
use Rattle.cg_table.proofs.PlaceLemmas.{rows_done, start_next, start_rises}
use Rattle.cg_table.proofs.TableLemmas.{rows-near}
use Rattle.cg_table.proofs.WithinLemmas.{entry-within}
use Rattle.cg_table.proofs.side.filled_beside.Goals as goal

pub returns-in_err-push_beside-clause-few : goal.returns-in_err-push_beside-clause-few
returns-in_err-push_beside-clause-few g c =
    let live : c.loop-a.a + 1 ≤ min (live_rows c.args.s.now) (live_rows c.args.t.now) = omega (arith, c.min-live.ensures, c.live.ensures.value, c.live-2.ensures.value) in
    omega (arith, c.loop-a.invariant.ticks, c.push_beside.ensures.at_most, start_next c.args.s.now.cells c.loop-a.a, start_rises c.args.s.now.cells (c.loop-a.a + 1) (min (live_rows c.args.s.now) (live_rows c.args.t.now)) live)

pub loop-a-preserved : goal.loop-a-preserved
loop-a-preserved g c = record {
  front = rows_done c.args.s.now.cells (beside_entry (entry c.args.s.now) (entry c.args.t.now)) c.loop-a.entries.items c.push_beside.new.entries.items c.loop-a.a c.in_ok-push_beside.ensures.row c.loop-a.invariant.front;
  ticks = omega (arith, c.loop-a.invariant.ticks, c.in_ok-push_beside.ensures.ticks, start_next c.args.s.now.cells c.loop-a.a);
}

pub of_rows-requires-clause-count : goal.of_rows-requires-clause-count
of_rows-requires-clause-count g c =
    let end : c.min-live.result ≡ c.loop-a.a = omega arith in
    rw (c.cells-cells.ensures.value, end) (length-made c.args.s.now.cells c.loop-a.a (beside_entry (entry c.args.s.now) (entry c.args.t.now)) c.loop-a.entries.items c.loop-a.invariant.front)

pub of_rows-requires-clause-near : goal.of_rows-requires-clause-near
of_rows-requires-clause-near g c = rows-near c.args.s.now.cells (beside_entry (entry c.args.s.now) (entry c.args.t.now)) (table_loss c.args.s.now + table_loss c.args.t.now + 3 * c.args.s.now.cells + 6) (table_reach c.args.s.now * 2 ^ 31 + table_reach c.args.t.now * 2 ^ 31 + c.args.s.now.cells + 64) c.loop-a.a c.loop-a.entries.items
    (λ a b le less. beside-within (entry c.args.s.now) (entry c.args.t.now) (table_loss c.args.s.now) (table_reach c.args.s.now * 2 ^ 31) (table_loss c.args.t.now) (table_reach c.args.t.now * 2 ^ 31) c.args.s.now.cells a b (λ a b. entry-within c.args.s.now a b c.cells-cells.ensures.table) (λ a b. entry-within c.args.t.now a b c.live-2.ensures.table) le less)
    (omega (arith, c.cells-cells.ensures.table.few, c.requires.reach)) c.loop-a.invariant.front

pub returns-clause-value : goal.returns-clause-value
returns-clause-value g c =
    made-table c.of_rows.result c.args.s.now.cells c.loop-a.a (beside_entry (entry c.args.s.now) (entry c.args.t.now)) c.loop-a.entries.items (c.of_rows.ensures ∙ ap (λ (n : ℕ). padded n c.loop-a.entries.items) c.cells-cells.ensures.value) c.loop-a.invariant.front (omega (arith, c.min-live.ensures, c.live.ensures.within))
    (λ a b low le less. elim (cases_lt a c.live.result) [
      | inl before ↦ beside-dead_right c.args.s.now c.args.t.now a b (λ d more within. c.live-2.ensures.dead a d (omega (arith, low, before, c.min-live.ensures)) more within) le (omega (arith, less, c.requires.cells))
      | inr dead ↦ beside-dead_left c.args.s.now c.args.t.now a b (λ d more within. c.live.ensures.dead a d dead more within) le less
    ])
