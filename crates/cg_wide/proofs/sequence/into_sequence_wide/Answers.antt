use Rattle.std.proofs.Common.{◌≡◌, ◌+◌, ◌*◌, ◌^◌, ◌≤◌, arith}
use Rattle.std.proofs.lemmas.Result.{IfOk-weaker}
use Rattle.cg_path.specs.Contexts as exact
use Rattle.cg_table.specs.Table.{EnclosesTable, entry, table_loss, table_reach}
use Rattle.cg_table.proofs.TableLemmas.{AreWithin, table-loss, table-reach, table-encloses, most}
use Rattle.cg_context.specs.Formulas.{into_sequence_entry, into_sequence_of}
use Rattle.cg_context.proofs.CallLemmas.{into_sequence-within, into_sequence-encloses}
use Rattle.cg_context.proofs.TermLemmas.{entries-within}
use Rattle.cg_wide.proofs.sequence.into_sequence_wide.Goals as goal
use Rattle.cg_wide.proofs.sequence.into_sequence_wide.Goals.{After-filled_sequence}
use Rattle.cg_wide.proofs.sequence.into_sequence_wide.Given.{Over}

-- what each entry is within
within : (g : Over) (c : After-filled_sequence g) → AreWithin c.args.p.now.cells (into_sequence_entry (entry c.args.p.now) (entry c.args.v.now))
    (table_loss c.args.p.now + table_loss c.args.v.now + 3 + 3 * c.args.p.now.cells) (table_reach c.args.p.now * 2 ^ 31 + table_reach c.args.v.now * 2 ^ 31 + 63 + c.args.p.now.cells)
within g c a b le less =
    let p = c.args.p.now in
    let v = c.args.v.now in
    into_sequence-within (entry p) (entry v) (table_loss p) (table_reach p * 2 ^ 31) (table_loss v) (table_reach v * 2 ^ 31) p.cells a b (entries-within p c.filled_sequence.ensures.operands.0) (entries-within v c.filled_sequence.ensures.operands.1) (omega (arith, le, less))

pub returns-clause-encloses : goal.returns-clause-encloses
returns-clause-encloses g c y z d e some some' h h' =
    let p = c.args.p.now in
    let v = c.args.v.now in
    IfOk-weaker _ (λ r. r ≡ into_sequence_of p v) (λ r. EnclosesTable r (exact.into_sequence y z) (d * e))
    (λ r is. table-encloses r p.cells (into_sequence_entry (entry p) (entry v)) (exact.into_sequence y z) (d * e)
    (λ a b le less. into_sequence-encloses (entry p) (entry v) y z d e (table_loss p) (table_reach p * 2 ^ 31) (table_loss v) (table_reach v * 2 ^ 31) p.cells a b some some'
    (entries-within p c.filled_sequence.ensures.operands.0) (entries-within v c.filled_sequence.ensures.operands.1) h.at (λ a b le less. h'.at a b le (omega (arith, c.requires.cells, less))) le less) is)
    c.filled_sequence.ensures.value

pub returns-clause-loss : goal.returns-clause-loss
returns-clause-loss g c few = IfOk-weaker _ (λ r. r ≡ into_sequence_of c.args.p.now c.args.v.now) (λ r. table_loss r ≤ table_loss c.args.p.now + table_loss c.args.v.now + 2 ^ 13)
    (λ r is. most (table-loss r _ _ _ _ (within g c) is) (omega arith)) c.filled_sequence.ensures.value

pub returns-clause-reach : goal.returns-clause-reach
returns-clause-reach g c few = IfOk-weaker _ (λ r. r ≡ into_sequence_of c.args.p.now c.args.v.now) (λ r. table_reach r ≤ table_reach c.args.p.now + table_reach c.args.v.now + 1)
    (λ r is. table-reach r _ _ _ _ (table_reach c.args.p.now + table_reach c.args.v.now + 1) (within g c) (omega arith) is) c.filled_sequence.ensures.value
