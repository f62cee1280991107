use Rattle.std.proofs.Common.{◌≡◌, ◌+◌, ◌*◌, ◌^◌, ◌≤◌, arith}
use Rattle.std.proofs.lemmas.Result.{IfOk-weaker}
use Rattle.cg_path.specs.Contexts as exact
use Rattle.cg_table.specs.Live.{live_rows}
use Rattle.cg_table.specs.Table.{EnclosesTable, entry, table_loss, table_reach}
use Rattle.cg_table.proofs.LiveLemmas.{live_rows-most}
use Rattle.cg_table.proofs.PlaceLemmas.{start_rises, start_twice}
use Rattle.cg_table.proofs.TableLemmas.{AreWithin, table-loss, table-reach, table-encloses, most}
use Rattle.cg_context.specs.Formulas.{into_phase_entry, into_phase_of}
use Rattle.cg_context.proofs.CallLemmas.{into_phase-within, into_phase-encloses}
use Rattle.cg_context.proofs.TermLemmas.{entries-within}
use Rattle.cg_context.proofs.side.into_phase.Goals as goal
use Rattle.cg_context.proofs.side.into_phase.Goals.{After-filled_phase}
use Rattle.cg_context.proofs.side.into_phase.Given.{Over}

-- what each entry is within
within : (g : Over) (c : After-filled_phase g) → AreWithin c.args.x.now.cells (into_phase_entry c.args.x.now.cells (entry c.args.x.now) (entry c.args.others.now))
    (table_loss c.args.x.now + table_loss c.args.others.now + 3 * c.args.x.now.cells + 6) (table_reach c.args.x.now * 2 ^ 31 + table_reach c.args.others.now * 2 ^ 31 + c.args.x.now.cells + 64)
within g c a b le less =
    let x = c.args.x.now in
    let q = c.args.others.now in
    into_phase-within (entry x) (entry q) (table_loss x) (table_reach x * 2 ^ 31) (table_loss q) (table_reach q * 2 ^ 31) x.cells a b (entries-within x c.filled_phase.ensures.operands.0) (entries-within q c.filled_phase.ensures.operands.1) le less

pub returns-clause-encloses : goal.returns-clause-encloses
returns-clause-encloses g c y z d e some some' h h' =
    let x = c.args.x.now in
    let q = c.args.others.now in
    IfOk-weaker _ (λ r. r ≡ into_phase_of x q) (λ r. EnclosesTable r (exact.into_phase x.cells y z) (d * e))
    (λ r is. table-encloses r x.cells (into_phase_entry x.cells (entry x) (entry q)) (exact.into_phase x.cells y z) (d * e)
    (λ a b le less. into_phase-encloses (entry x) (entry q) y z d e (table_loss x) (table_reach x * 2 ^ 31) (table_loss q) (table_reach q * 2 ^ 31) x.cells a b some some'
    (entries-within x c.filled_phase.ensures.operands.0) (entries-within q c.filled_phase.ensures.operands.1) h.at (λ a b le less. h'.at a b le (omega (arith, c.requires.cells, less))) le less) is)
    c.filled_phase.ensures.value

pub returns-clause-loss : goal.returns-clause-loss
returns-clause-loss g c few = IfOk-weaker _ (λ r. r ≡ into_phase_of c.args.x.now c.args.others.now) (λ r. table_loss r ≤ table_loss c.args.x.now + table_loss c.args.others.now + 2 ^ 13)
    (λ r is. most (table-loss r _ _ _ _ (within g c) is) (omega arith)) c.filled_phase.ensures.value

pub returns-clause-reach : goal.returns-clause-reach
returns-clause-reach g c few = IfOk-weaker _ (λ r. r ≡ into_phase_of c.args.x.now c.args.others.now) (λ r. table_reach r ≤ table_reach c.args.x.now + table_reach c.args.others.now + 1)
    (λ r is. table-reach r _ _ _ _ (table_reach c.args.x.now + table_reach c.args.others.now + 1) (within g c) (omega arith) is) c.filled_phase.ensures.value

pub returns-clause-at_most : goal.returns-clause-at_most
returns-clause-at_most g c =
    let x = c.args.x.now in
    omega (arith, c.filled_phase.ensures.few, start_rises x.cells (live_rows x) x.cells (live_rows-most x), start_twice x.cells x.cells 0 (omega arith))
