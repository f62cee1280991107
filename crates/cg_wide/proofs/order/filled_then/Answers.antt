use Rattle.std.proofs.Common.{◌≡◌, ◌+◌, ◌*◌, ◌^◌, ◌∙◌, ap, sym, arith, vec_items}
use Rattle.std.specs.List.{flat_map}
use Rattle.cg_table.specs.Formulas.{then_entry}
use Rattle.cg_table.specs.Live.{padded}
use Rattle.cg_table.specs.Table.{entry, table_loss, table_reach}
use Rattle.cg_table.proofs.FormulaLemmas.{then-within}
use Rattle.cg_table.proofs.DeadLemmas.{then-dead}
use Rattle.cg_table.proofs.LiveLemmas.{length-made, made-table}
use Rattle.cg_table.proofs.TableLemmas.{rows-near}
use Rattle.cg_table.proofs.WithinLemmas.{entry-within}
use Rattle.cg_wide.proofs.order.filled_then.Goals as goal

pub of_rows-requires-clause-count : goal.of_rows-requires-clause-count
of_rows-requires-clause-count g c =
    let made = c.in_ok-entries.ensures ∙ ap (flat_map vec_items) c.deref.ensures.value ∙ c.in_ok-rows.ensures in
    let cells : c.cells-cells.result ≡ c.args.p.now.cells = c.cells-cells.ensures.value ∙ sym c.requires.cells in
    rw cells (length-made c.args.p.now.cells c.live-live.result (then_entry (entry c.args.p.now) (entry c.args.t.now)) c.in_ok-entries.entries.items made)

pub of_rows-requires-clause-near : goal.of_rows-requires-clause-near
of_rows-requires-clause-near g c =
    let made = c.in_ok-entries.ensures ∙ ap (flat_map vec_items) c.deref.ensures.value ∙ c.in_ok-rows.ensures in
    let p = c.args.p.now in
    let t = c.args.t.now in
    rows-near p.cells (then_entry (entry p) (entry t)) (table_loss p + table_loss t + 3 * p.cells + 3) (table_reach p * 2 ^ 31 + table_reach t * 2 ^ 31 + p.cells + 63) c.live-live.result c.in_ok-entries.entries.items
    (λ a b le less. then-within (entry p) (entry t) (table_loss p) (table_reach p * 2 ^ 31) (table_loss t) (table_reach t * 2 ^ 31) p.cells a b
    (λ a b. entry-within p a b c.live-live.ensures.table) (λ a b. entry-within t a b c.cells-cells.ensures.table) le less)
    (omega (arith, c.cells-cells.ensures.table.few, c.requires.reach, c.requires.cells)) made

pub returns-clause-value : goal.returns-clause-value
returns-clause-value g c =
    let made = c.in_ok-entries.ensures ∙ ap (flat_map vec_items) c.deref.ensures.value ∙ c.in_ok-rows.ensures in
    let p = c.args.p.now in
    let t = c.args.t.now in
    let cells : c.cells-cells.result ≡ p.cells = c.cells-cells.ensures.value ∙ sym c.requires.cells in
    made-table c.of_rows.result p.cells c.live-live.result (then_entry (entry p) (entry t)) c.in_ok-entries.entries.items (c.of_rows.ensures ∙ ap (λ n. padded n c.in_ok-entries.entries.items) cells) made (omega (arith, c.live-live.ensures.within))
    (λ a b low le less. then-dead p t a b (λ d more within. c.live-live.ensures.dead a d (omega arith) more within) le less)
