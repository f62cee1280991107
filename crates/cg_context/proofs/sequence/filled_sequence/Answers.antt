use Rattle.std.proofs.Common.{◌+◌, ◌*◌, ◌^◌, ◌∙◌, length, ap, ap₂, arith, sym}
use Rattle.cg_table.specs.Live.{padded}
use Rattle.cg_table.specs.Table.{entry, start, table_loss, table_reach}
use Rattle.cg_table.proofs.LiveLemmas.{padded-rows}
use Rattle.cg_table.proofs.PlaceLemmas.{length-rows, rows_done}
use Rattle.cg_table.proofs.TableLemmas.{rows-near}
use Rattle.cg_context.specs.Formulas.{into_sequence_entry}
use Rattle.cg_context.proofs.CallLemmas.{into_sequence-within}
use Rattle.cg_context.proofs.SequenceLemmas.{sequence-ticks, sequence-ticks_most}
use Rattle.cg_context.proofs.TermLemmas.{entries-within}
use Rattle.cg_context.proofs.sequence.filled_sequence.Goals as goal

pub returns-in_err-push_sequence-clause-ticks : goal.returns-in_err-push_sequence-clause-ticks
returns-in_err-push_sequence-clause-ticks g c =
    let cells = c.args.p.now.cells in
    let at = c.loop-c.c in
    sequence-ticks_most c.push_sequence.new.steps (6 * c.args.steps.now) (at + 1) cells (omega (arith, c.requires.cells))
    (sequence-ticks c.loop-c.steps c.push_sequence.new.steps (6 * c.args.steps.now) at cells (omega (arith, c.requires.cells)) c.push_sequence.ensures.ticks c.loop-c.invariant.ticks)

pub loop-c-preserved : goal.loop-c-preserved
loop-c-preserved g c =
    let p = c.args.p.now in
    record {
      front = rows_done p.cells (into_sequence_entry (entry p) (entry c.args.v.now)) c.loop-c.entries.items c.push_sequence.new.entries.items c.loop-c.c c.in_ok-push_sequence.ensures.row c.loop-c.invariant.front;
      ticks = sequence-ticks c.loop-c.steps c.push_sequence.new.steps (6 * c.args.steps.now) c.loop-c.c p.cells (omega (arith, c.requires.cells)) c.push_sequence.ensures.ticks c.loop-c.invariant.ticks;
    }

pub of_rows-requires-clause-count : goal.of_rows-requires-clause-count
of_rows-requires-clause-count g c =
    let p = c.args.p.now in
    ap length c.loop-c.invariant.front ∙ length-rows p.cells (into_sequence_entry (entry p) (entry c.args.v.now)) c.loop-c.c ∙ ap₂ start (sym c.cells-cells.ensures.value) (omega arith)

pub of_rows-requires-clause-near : goal.of_rows-requires-clause-near
of_rows-requires-clause-near g c =
    let p = c.args.p.now in
    let v = c.args.v.now in
    rows-near p.cells (into_sequence_entry (entry p) (entry v)) (table_loss p + table_loss v + 3 + 3 * p.cells) (table_reach p * 2 ^ 31 + table_reach v * 2 ^ 31 + 63 + p.cells) c.loop-c.c c.loop-c.entries.items
    (λ b d le less. into_sequence-within (entry p) (entry v) (table_loss p) (table_reach p * 2 ^ 31) (table_loss v) (table_reach v * 2 ^ 31) p.cells b d
    (entries-within p c.cells-cells.ensures.table) (entries-within v c.cells-c-end.ensures.table) (omega (arith, le, less)))
    (omega (arith, c.cells-cells.ensures.table.few, c.requires.reach)) c.loop-c.invariant.front

pub returns-clause-value : goal.returns-clause-value
returns-clause-value g c =
    let p = c.args.p.now in
    c.of_rows.ensures ∙ ap₂ padded c.cells-cells.ensures.value c.loop-c.invariant.front
    ∙ padded-rows p.cells c.loop-c.c (into_sequence_entry (entry p) (entry c.args.v.now)) (omega (arith, c.requires.cells)) (λ b d low le less. absurd (omega (arith, c.requires.cells)))

pub returns-clause-ticks : goal.returns-clause-ticks
returns-clause-ticks g c = sequence-ticks_most c.loop-c.steps (6 * c.args.steps.now) c.loop-c.c c.args.p.now.cells (omega (arith, c.requires.cells)) c.loop-c.invariant.ticks
