use Rattle.std.proofs.Common.{◌≡◌, ◌+◌, ◌*◌, ◌^◌, ◌∙◌, length, ap, ap₂, arith, sym}
use Rattle.cg_table.specs.Live.{padded}
use Rattle.cg_table.specs.Table.{entry, start, table_loss, table_reach}
use Rattle.cg_table.proofs.LiveLemmas.{padded-rows}
use Rattle.cg_table.proofs.PlaceLemmas.{length-rows, rows_done, start_next, start_rises}
use Rattle.cg_table.proofs.TableLemmas.{rows-near}
use Rattle.cg_context.specs.Formulas.{into_phase_entry}
use Rattle.cg_context.proofs.CallLemmas.{into_phase-within}
use Rattle.cg_context.proofs.PhaseLemmas.{phase-dead}
use Rattle.cg_context.proofs.TermLemmas.{entries-within}
use Rattle.cg_context.proofs.side.filled_phase.Goals as goal

pub returns-in_err-push_phase-clause-few : goal.returns-in_err-push_phase-clause-few
returns-in_err-push_phase-clause-few g c =
    let cells = c.args.x.now.cells in
    omega (arith, c.loop-a.invariant.ticks, c.push_phase.ensures.at_most, start_next cells c.loop-a.a, start_rises cells (c.loop-a.a + 1) c.live-live.result (omega arith), ap (start cells) c.live-live.ensures.value)

pub loop-a-preserved : goal.loop-a-preserved
loop-a-preserved g c =
    let x = c.args.x.now in
    record {
      front = rows_done x.cells (into_phase_entry x.cells (entry x) (entry c.args.others.now)) c.loop-a.entries.items c.push_phase.new.entries.items c.loop-a.a c.in_ok-push_phase.ensures.row c.loop-a.invariant.front;
      ticks = omega (arith, c.loop-a.invariant.ticks, c.in_ok-push_phase.ensures.ticks, start_next x.cells c.loop-a.a);
    }

pub of_rows-requires-clause-count : goal.of_rows-requires-clause-count
of_rows-requires-clause-count g c =
    let x = c.args.x.now in
    let size : c.cells-cells.result ≡ x.cells = c.cells-cells.ensures.value ∙ sym c.requires.cells in
    ap length c.loop-a.invariant.front ∙ length-rows x.cells (into_phase_entry x.cells (entry x) (entry c.args.others.now)) c.loop-a.a ∙ ap₂ start (sym size) (omega arith)

pub of_rows-requires-clause-near : goal.of_rows-requires-clause-near
of_rows-requires-clause-near g c =
    let x = c.args.x.now in
    let q = c.args.others.now in
    rows-near x.cells (into_phase_entry x.cells (entry x) (entry q)) (table_loss x + table_loss q + 3 * x.cells + 6) (table_reach x * 2 ^ 31 + table_reach q * 2 ^ 31 + x.cells + 64) c.loop-a.a c.loop-a.entries.items
    (λ a d le less. into_phase-within (entry x) (entry q) (table_loss x) (table_reach x * 2 ^ 31) (table_loss q) (table_reach q * 2 ^ 31) x.cells a d
    (entries-within x c.live-live.ensures.table) (entries-within q c.cells-cells.ensures.table) le less)
    (omega (arith, c.live-live.ensures.table.few, c.requires.reach)) c.loop-a.invariant.front

pub returns-clause-value : goal.returns-clause-value
returns-clause-value g c =
    let x = c.args.x.now in
    let q = c.args.others.now in
    let size : c.cells-cells.result ≡ x.cells = c.cells-cells.ensures.value ∙ sym c.requires.cells in
    c.of_rows.ensures ∙ ap₂ padded size c.loop-a.invariant.front
    ∙ padded-rows x.cells c.loop-a.a (into_phase_entry x.cells (entry x) (entry q)) (omega (arith, c.live-live.ensures.within))
    (λ a d low le less. phase-dead x q a d (λ b high short. c.live-live.ensures.dead a b (omega arith) high short) le less)
