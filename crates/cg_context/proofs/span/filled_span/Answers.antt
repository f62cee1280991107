use Rattle.std.proofs.Common.{◌+◌, ◌*◌, ◌^◌, ◌∙◌, length, ap, ap₂, arith, sym}
use Rattle.cg_table.specs.Live.{padded}
use Rattle.cg_table.specs.Table.{entry, start, table_loss, table_reach}
use Rattle.cg_table.proofs.LiveLemmas.{padded-rows}
use Rattle.cg_table.proofs.PlaceLemmas.{length-rows, rows_done, start_next, start_rises}
use Rattle.cg_table.proofs.TableLemmas.{rows-near}
use Rattle.cg_context.specs.Formulas.{into_span_entry}
use Rattle.cg_context.proofs.CallLemmas.{into_span-within}
use Rattle.cg_context.proofs.SpanLemmas.{span-dead}
use Rattle.cg_context.proofs.TermLemmas.{entries-within}
use Rattle.cg_context.proofs.span.filled_span.Goals as goal

pub returns-in_err-push_span-clause-few : goal.returns-in_err-push_span-clause-few
returns-in_err-push_span-clause-few g c =
    let cells = c.args.x.now.cells in
    omega (arith, c.loop-a.invariant.ticks, c.push_span.ensures.at_most, start_next cells c.loop-a.a, start_rises cells (c.loop-a.a + 1) c.live-live.result (omega arith), ap (start cells) c.live-live.ensures.value)

pub loop-a-preserved : goal.loop-a-preserved
loop-a-preserved g c =
    let x = c.args.x.now in
    record {
      front = rows_done x.cells (into_span_entry x.cells (entry x) c.args.n) c.loop-a.entries.items c.push_span.new.entries.items c.loop-a.a c.in_ok-push_span.ensures.row c.loop-a.invariant.front;
      ticks = omega (arith, c.loop-a.invariant.ticks, c.in_ok-push_span.ensures.ticks, start_next x.cells c.loop-a.a);
    }

pub of_rows-requires-clause-count : goal.of_rows-requires-clause-count
of_rows-requires-clause-count g c =
    let x = c.args.x.now in
    ap length c.loop-a.invariant.front ∙ length-rows x.cells (into_span_entry x.cells (entry x) c.args.n) c.loop-a.a ∙ ap₂ start (sym c.cells-cells.ensures.value) (omega arith)

pub of_rows-requires-clause-near : goal.of_rows-requires-clause-near
of_rows-requires-clause-near g c =
    let x = c.args.x.now in
    let v = c.cells-cells.ensures.table in
    rows-near x.cells (into_span_entry x.cells (entry x) c.args.n) (table_loss x + 6 * c.args.n + 3 + 3 * x.cells) (table_reach x * 2 ^ 31 + (66 + 258 * c.args.n) + 63 + x.cells) c.loop-a.a c.loop-a.entries.items
    (λ a b le less. into_span-within (entry x) (table_loss x) (table_reach x * 2 ^ 31) c.args.n x.cells a b (entries-within x v) v.few le less)
    (omega (arith, v.few, c.requires, c.ranges.n.fits)) c.loop-a.invariant.front

pub returns-clause-value : goal.returns-clause-value
returns-clause-value g c =
    let x = c.args.x.now in
    c.of_rows.ensures ∙ ap₂ padded c.cells-cells.ensures.value c.loop-a.invariant.front
    ∙ padded-rows x.cells c.loop-a.a (into_span_entry x.cells (entry x) c.args.n) (omega (arith, c.live-live.ensures.within))
    (λ a b low le less. span-dead x c.args.n a b (λ d high short. c.live-live.ensures.dead a d (omega arith) high short) le)
