use Rattle.std.proofs.Common.{◌+◌, ◌*◌, ◌^◌, ◌∙◌, length, ap, ap₂, arith, sym, vec_items}
use Rattle.std.specs.List.{flat_map}
use Rattle.cg_table.specs.Live.{padded}
use Rattle.cg_table.specs.Table.{entry, start, table_loss, table_reach}
use Rattle.cg_table.proofs.LiveLemmas.{padded-rows}
use Rattle.cg_table.proofs.PlaceLemmas.{length-rows}
use Rattle.cg_table.proofs.TableLemmas.{rows-near}
use Rattle.cg_context.specs.Formulas.{into_sequence_entry}
use Rattle.cg_context.proofs.CallLemmas.{into_sequence-within}
use Rattle.cg_context.proofs.TermLemmas.{entries-within}
use Rattle.cg_wide.proofs.sequence.filled_sequence.Goals as goal

pub of_rows-requires-clause-count : goal.of_rows-requires-clause-count
of_rows-requires-clause-count g c =
    let made = c.in_ok-entries.ensures ∙ ap (flat_map vec_items) c.deref.ensures.value ∙ c.in_ok-rows.ensures in
    let p = c.args.p.now in
    ap length made ∙ length-rows p.cells (into_sequence_entry (entry p) (entry c.args.v.now)) c.cells-all.result ∙ ap (λ n. start n c.cells-all.result) (sym c.cells-cells.ensures.value)

pub of_rows-requires-clause-near : goal.of_rows-requires-clause-near
of_rows-requires-clause-near g c =
    let made = c.in_ok-entries.ensures ∙ ap (flat_map vec_items) c.deref.ensures.value ∙ c.in_ok-rows.ensures in
    let p = c.args.p.now in
    let v = c.args.v.now in
    rows-near p.cells (into_sequence_entry (entry p) (entry v)) (table_loss p + table_loss v + 3 + 3 * p.cells) (table_reach p * 2 ^ 31 + table_reach v * 2 ^ 31 + 63 + p.cells) c.cells-all.result c.in_ok-entries.entries.items
    (λ b d le less. into_sequence-within (entry p) (entry v) (table_loss p) (table_reach p * 2 ^ 31) (table_loss v) (table_reach v * 2 ^ 31) p.cells b d
    (entries-within p c.cells-cells.ensures.table) (entries-within v c.cells-all.ensures.table) (omega (arith, le, less)))
    (omega (arith, c.cells-cells.ensures.table.few, c.requires.reach)) made

pub returns-clause-value : goal.returns-clause-value
returns-clause-value g c =
    let made = c.in_ok-entries.ensures ∙ ap (flat_map vec_items) c.deref.ensures.value ∙ c.in_ok-rows.ensures in
    let p = c.args.p.now in
    c.of_rows.ensures ∙ ap₂ padded c.cells-cells.ensures.value made
    ∙ padded-rows p.cells c.cells-all.result (into_sequence_entry (entry p) (entry c.args.v.now)) (omega (arith, c.requires.cells, c.cells-all.ensures.value))
    (λ b d low le less. absurd (omega (arith, c.requires.cells, c.cells-all.ensures.value)))
