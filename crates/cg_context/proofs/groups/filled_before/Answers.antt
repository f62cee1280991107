use Rattle.std.proofs.Common.{ℕ, ◌*◌, ◌^◌, ◌∙◌, arith, ap, sym}
use Rattle.cg_table.specs.Live.{padded}
use Rattle.cg_table.specs.Table.{start, entry, table_loss, table_reach}
use Rattle.cg_table.proofs.TableLemmas.{rows-near}
use Rattle.cg_context.specs.Formulas.{into_before_entry}
use Rattle.cg_context.proofs.GroupLemmas.{into_before-fits, into_before-dead, reach-fits}
use Rattle.cg_context.proofs.RowLemmas.{rows-count, rows-padded}
use Rattle.cg_context.proofs.groups.filled_before.Goals as goal

pub of_rows-requires-clause-count : goal.of_rows-requires-clause-count
of_rows-requires-clause-count c =
    let x = c.args.x.now in
    rows-count x.cells c.live-live.result c.loop-a.a (into_before_entry (entry x)) c.loop-a.entries.items (omega arith) c.loop-a.invariant
    ∙ ap (λ (n : ℕ). start n c.live-live.result) (sym c.cells-cells.ensures.value)

pub of_rows-requires-clause-near : goal.of_rows-requires-clause-near
of_rows-requires-clause-near c =
    let x = c.args.x.now in
    let v = c.cells-cells.ensures.table in
    rows-near x.cells (into_before_entry (entry x)) (table_loss x) (table_reach x * 2 ^ 31) c.loop-a.a c.loop-a.entries.items (into_before-fits x v) (reach-fits x v) c.loop-a.invariant

pub returns-clause-value : goal.returns-clause-value
returns-clause-value c =
    let x = c.args.x.now in
    c.of_rows.ensures ∙ ap (λ (n : ℕ). padded n c.loop-a.entries.items) c.cells-cells.ensures.value
    ∙ rows-padded x.cells c.live-live.result c.loop-a.a (into_before_entry (entry x)) c.loop-a.entries.items (omega arith) c.live-live.ensures.within (into_before-dead x c.live-live.result c.live-live.ensures.dead) c.loop-a.invariant
