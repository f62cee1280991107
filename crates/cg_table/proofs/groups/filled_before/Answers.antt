use Rattle.std.proofs.Common.{◌≡◌, ◌+◌, ◌*◌, ◌^◌, ◌∙◌, ℕ, ap, arith}
use Rattle.cg_table.specs.Formulas.{before_entry}
use Rattle.cg_table.specs.Live.{padded}
use Rattle.cg_table.specs.Table.{entry, table_loss, table_reach}
use Rattle.cg_table.proofs.FormulaLemmas.{before-within}
use Rattle.cg_table.proofs.DeadLemmas.{before-dead}
use Rattle.cg_table.proofs.LiveLemmas.{length-made, made-table}
use Rattle.cg_table.proofs.TableLemmas.{rows-near}
use Rattle.cg_table.proofs.WithinLemmas.{entry-within}
use Rattle.cg_table.proofs.groups.filled_before.Goals as goal

pub of_rows-requires-clause-count : goal.of_rows-requires-clause-count
of_rows-requires-clause-count c =
    let end : c.live-live.result ≡ c.loop-a.a = omega arith in
    rw (c.cells-cells.ensures.value, end) (length-made c.args.t.now.cells c.loop-a.a (before_entry c.args.t.now.cells (entry c.args.t.now)) c.loop-a.entries.items c.loop-a.invariant)

pub of_rows-requires-clause-near : goal.of_rows-requires-clause-near
of_rows-requires-clause-near c = rows-near c.args.t.now.cells (before_entry c.args.t.now.cells (entry c.args.t.now)) (table_loss c.args.t.now + 3 * c.args.t.now.cells) (table_reach c.args.t.now * 2 ^ 31 + c.args.t.now.cells) c.loop-a.a c.loop-a.entries.items
    (λ a b le less. before-within (entry c.args.t.now) (table_loss c.args.t.now) (table_reach c.args.t.now * 2 ^ 31) c.args.t.now.cells a b (λ a b. entry-within c.args.t.now a b c.cells-cells.ensures.table)) (omega (arith, c.cells-cells.ensures.table.few, c.requires)) c.loop-a.invariant

pub returns-clause-value : goal.returns-clause-value
returns-clause-value c =
    made-table c.of_rows.result c.args.t.now.cells c.loop-a.a (before_entry c.args.t.now.cells (entry c.args.t.now)) c.loop-a.entries.items (c.of_rows.ensures ∙ ap (λ (n : ℕ). padded n c.loop-a.entries.items) c.cells-cells.ensures.value) c.loop-a.invariant (omega (arith, c.live-live.ensures.within))
    (λ a b low le less. before-dead c.args.t.now a b (λ d more within. c.live-live.ensures.dead a d (omega arith) more within) le less)
