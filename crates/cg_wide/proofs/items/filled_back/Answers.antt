use Rattle.std.proofs.Common.{◌+◌, ◌*◌, ◌^◌, ◌∙◌, arith, ap, refl, sym, vec_items}
use Rattle.std.specs.List.{flat_map}
use Rattle.cg_table.specs.Live.{padded}
use Rattle.cg_table.specs.Table.{entry, start, table_loss, table_reach}
use Rattle.cg_table.proofs.TableLemmas.{rows-near}
use Rattle.cg_context.specs.Formulas.{back_entry}
use Rattle.cg_context.proofs.BackLemmas.{back-fits, back-dead}
use Rattle.cg_context.proofs.RowLemmas.{rows-count, rows-padded}
use Rattle.cg_wide.proofs.items.filled_back.Goals as goal

pub of_rows-requires-clause-count : goal.of_rows-requires-clause-count
of_rows-requires-clause-count g c =
    let made = c.in_ok-entries.ensures ∙ ap (flat_map vec_items) c.deref-2.ensures.value ∙ c.in_ok-rows.ensures in
    let v = c.args.v.now in
    rows-count v.cells c.min-live.result c.min-live.result (back_entry v.cells (entry v) (entry c.args.t.now)) c.in_ok-entries.entries.items refl made
    ∙ ap (λ n. start n c.min-live.result) (sym c.cells-cells.ensures.value)

pub of_rows-requires-clause-near : goal.of_rows-requires-clause-near
of_rows-requires-clause-near g c =
    let made = c.in_ok-entries.ensures ∙ ap (flat_map vec_items) c.deref-2.ensures.value ∙ c.in_ok-rows.ensures in
    let v = c.args.v.now in
    let t = c.args.t.now in
    rows-near v.cells (back_entry v.cells (entry v) (entry t)) (table_loss v + table_loss t + 3 + 3 * v.cells) (table_reach v * 2 ^ 31 + table_reach t * 2 ^ 31 + 63 + v.cells) c.min-live.result c.in_ok-entries.entries.items
    (back-fits v t c.cells-cells.ensures.table c.live-2.ensures.table) (omega (arith, c.cells-cells.ensures.table.few, c.requires.reach)) made

pub returns-clause-value : goal.returns-clause-value
returns-clause-value g c =
    let made = c.in_ok-entries.ensures ∙ ap (flat_map vec_items) c.deref-2.ensures.value ∙ c.in_ok-rows.ensures in
    let v = c.args.v.now in
    let t = c.args.t.now in
    c.of_rows.ensures ∙ ap (λ n. padded n c.in_ok-entries.entries.items) c.cells-cells.ensures.value
    ∙ rows-padded v.cells c.min-live.result c.min-live.result (back_entry v.cells (entry v) (entry t)) c.in_ok-entries.entries.items refl (omega (arith, c.min-live.ensures, c.live.ensures.within))
    (back-dead v t c.live.result c.live-2.result c.min-live.result c.requires.cells c.min-live.ensures c.live.ensures.dead c.live-2.ensures.dead) made
