use Rattle.std.proofs.Common.{◌≡◌, ◌+◌, ◌*◌, ◌^◌, ◌≤◌, arith}
use Rattle.std.proofs.lemmas.Result.{IfOk-weaker}
use Rattle.cg_meaning.specs.Pairs.{factorial}
use Rattle.cg_path.specs.Contexts as exact
use Rattle.cg_table.specs.Live.{live_rows}
use Rattle.cg_table.specs.Table.{EnclosesTable, entry, table_loss, table_reach}
use Rattle.cg_table.proofs.LiveLemmas.{live_rows-most}
use Rattle.cg_table.proofs.PlaceLemmas.{start_rises, start_twice}
use Rattle.cg_table.proofs.TableLemmas.{AreWithin, table-loss, table-reach, table-encloses, most}
use Rattle.cg_context.specs.Formulas.{into_span_entry, into_span_of}
use Rattle.cg_context.proofs.CallLemmas.{into_span-within, into_span-encloses}
use Rattle.cg_context.proofs.TermLemmas.{entries-within}
use Rattle.cg_context.proofs.span.into_span.Goals as goal
use Rattle.cg_context.proofs.span.into_span.Goals.{After-filled_span}
use Rattle.cg_context.proofs.span.into_span.Given.{Over}

-- what each entry is within
within : (g : Over) (c : After-filled_span g) → AreWithin c.args.x.now.cells (into_span_entry c.args.x.now.cells (entry c.args.x.now) c.args.n)
    (table_loss c.args.x.now + 6 * c.args.n + 3 + 3 * c.args.x.now.cells) (table_reach c.args.x.now * 2 ^ 31 + (66 + 258 * c.args.n) + 63 + c.args.x.now.cells)
within g c a b le less =
    let x = c.args.x.now in
    into_span-within (entry x) (table_loss x) (table_reach x * 2 ^ 31) c.args.n x.cells a b (entries-within x c.filled_span.ensures.operand) c.filled_span.ensures.operand.few le less

pub returns-clause-encloses : goal.returns-clause-encloses
returns-clause-encloses g c y d some h =
    let x = c.args.x.now in
    IfOk-weaker _ (λ r. r ≡ into_span_of x c.args.n) (λ r. EnclosesTable r (exact.into_span x.cells y c.args.n) (d * factorial x.cells ^ c.args.n))
    (λ r is. table-encloses r x.cells (into_span_entry x.cells (entry x) c.args.n) (exact.into_span x.cells y c.args.n) (d * factorial x.cells ^ c.args.n)
    (λ a b le less. into_span-encloses (entry x) y d (table_loss x) (table_reach x * 2 ^ 31) c.args.n x.cells a b some (entries-within x c.filled_span.ensures.operand) h.at c.filled_span.ensures.operand.few le less) is)
    c.filled_span.ensures.value

pub returns-clause-loss : goal.returns-clause-loss
returns-clause-loss g c few small = IfOk-weaker _ (λ r. r ≡ into_span_of c.args.x.now c.args.n) (λ r. table_loss r ≤ table_loss c.args.x.now + 2 ^ 13)
    (λ r is. most (table-loss r _ _ _ _ (within g c) is) (omega arith)) c.filled_span.ensures.value

pub returns-clause-reach : goal.returns-clause-reach
returns-clause-reach g c few small = IfOk-weaker _ (λ r. r ≡ into_span_of c.args.x.now c.args.n) (λ r. table_reach r ≤ table_reach c.args.x.now + 1)
    (λ r is. table-reach r _ _ _ _ (table_reach c.args.x.now + 1) (within g c) (omega arith) is) c.filled_span.ensures.value

pub returns-clause-at_most : goal.returns-clause-at_most
returns-clause-at_most g c =
    let x = c.args.x.now in
    omega (arith, c.filled_span.ensures.few, start_rises x.cells (live_rows x) x.cells (live_rows-most x), start_twice x.cells x.cells 0 (omega arith))
