use Rattle.std.proofs.Common.{◌≡◌, ℕ, ◌+◌, ◌*◌, ◌^◌, ◌∙◌, List, get_or, arith, ap}
use Rattle.cg_enc.specs.Enclosure.{Enclosure, exact_zero}
use Rattle.cg_table.specs.Sums.{sum_of}
use Rattle.cg_table.specs.Table.{Table, IsTable, entry, table_loss, table_reach}
use Rattle.cg_table.proofs.WithinLemmas.{entry-within}
use Rattle.cg_context.specs.Columns.{AreColumns}
use Rattle.cg_context.specs.Formulas.{row_by}
use Rattle.cg_context.proofs.ColumnLemmas.{columns-all}
use Rattle.cg_context.proofs.RowLemmas.{row_by-at, is-row_by}
use Rattle.cg_context.proofs.TermLemmas.{AreDead}
use Rattle.cg_context.proofs.groups.reaching.Goals as goal

-- the sums over the live rows are those over all
whole : (x : Table) (live : ℕ) (sums : List Enclosure) → IsTable x → AreDead x live → AreColumns (entry x) x.cells 0 live sums → sums ≡ row_by x.cells (λ c. sum_of (λ d. entry x d c) 0 c)
whole x live sums v dead h =
    let all = columns-all (entry x) x.cells 0 (table_loss x) (table_reach x * 2 ^ 31) live sums (λ a i counts less. entry-within x a i v) (omega arith)
    (λ a i low counts less. dead a i low (omega arith) less) h in
    is-row_by x.cells (λ c. sum_of (λ d. entry x d c) 0 c) sums h.width
    (λ c less.
    let own : c + 0 ≡ c = omega arith in
    ap (λ (xs : List Enclosure). get_or xs c exact_zero) all ∙ row_by-at x.cells (λ c. sum_of (λ d. entry x d c) 0 (c + 0)) c exact_zero less ∙ ap (sum_of (λ d. entry x d c) 0) own)

pub returns : goal.returns
returns c = whole c.args.x.now c.loop-a.a c.loop-a.sums.items c.cells.ensures.table (λ a b low le less. c.live-a-end.ensures.dead a b (omega arith) le less) c.loop-a.invariant
