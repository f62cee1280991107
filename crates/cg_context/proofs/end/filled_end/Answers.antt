use Rattle.std.proofs.Common.{◌≡◌, ℕ, ◌+◌, ◌*◌, ◌^◌, ◌<◌, ◌≤◌, ◌∙◌, List, min, inl, inr, arith, ap}
use Rattle.std.proofs.lemmas.Bool.{cases_lt}
use Rattle.std.proofs.lemmas.Result.{IfOk-weaker}
use Rattle.cg_enc.specs.Enclosure.{Enclosure, exact_zero}
use Rattle.cg_enc.specs.Rounding.{times}
use Rattle.cg_enc.proofs.Products.{times-zero_right}
use Rattle.cg_table.specs.Table.{Table, IsTable, entry, table_loss, table_reach}
use Rattle.cg_context.specs.Columns.{AreColumns}
use Rattle.cg_context.specs.Formulas.{at_end_entry, row_by}
use Rattle.cg_context.proofs.CallLemmas.{at_end-within}
use Rattle.cg_context.proofs.ColumnLemmas.{columns-all}
use Rattle.cg_context.proofs.RowLemmas.{row-near}
use Rattle.cg_context.proofs.TermLemmas.{AreDead, entries-within, product-within, times-nothing}
use Rattle.cg_context.proofs.end.filled_end.Goals as goal

-- the sums over the rows that live in both are the coefficients
whole : (x k : Table) (own other a : ℕ) (sums : List Enclosure) → IsTable x → IsTable k → x.cells ≡ k.cells → a ≡ min own other → AreDead x own → AreDead k other →
    AreColumns (λ b y. times (entry x b y) (entry k b y)) x.cells 1 a sums → sums ≡ row_by x.cells (at_end_entry (entry x) (entry k))
whole x k own other a sums v v' size done dead dead' h =
    columns-all (λ b y. times (entry x b y) (entry k b y)) x.cells 1 (table_loss x + table_loss k + 3) (table_reach x * 2 ^ 31 + table_reach k * 2 ^ 31 + 63) a sums
    (λ a i counts less. product-within x k a i a i v v') (omega arith) nothing h
  where
    nothing : (b y : ℕ) → a ≤ b → b < y + 1 → y < x.cells → times (entry x b y) (entry k b y) ≡ exact_zero
    nothing b y low counts less =
        elim (cases_lt b own) [
          | inr past ↦ times-nothing (entry x b y) (entry k b y) (dead b y past (omega arith) less)
          | inl inside ↦ times-zero_right (entry x b y) (entry k b y) (ap (λ (e : Enclosure). e.hi) (dead' b y (omega arith) (omega arith) (omega arith)))
        ]

pub row_of-requires : goal.row_of-requires
row_of-requires g c =
    let x = c.args.x.now in
    let k = c.args.k.now in
    let v = c.live.ensures.table in
    let v' = c.live-2.ensures.table in
    row-near c.loop-a.sums.items x.cells (at_end_entry (entry x) (entry k)) (table_loss x + table_loss k + 3 + 3 * x.cells) (table_reach x * 2 ^ 31 + table_reach k * 2 ^ 31 + 63 + x.cells)
    (λ y less. at_end-within (entry x) (entry k) (table_loss x) (table_reach x * 2 ^ 31) (table_loss k) (table_reach k * 2 ^ 31) x.cells y (entries-within x v) (entries-within k v') less)
    (omega (arith, v.few, c.requires.reach))
    (whole x k c.live.result c.live-2.result c.loop-a.a c.loop-a.sums.items v v' c.requires.cells (omega arith) c.live.ensures.dead c.live-2.ensures.dead c.loop-a.invariant.sums)

pub returns-clause-value : goal.returns-clause-value
returns-clause-value g c =
    let x = c.args.x.now in
    let k = c.args.k.now in
    IfOk-weaker _ (λ r. r ≡ c.loop-a.sums.items) (λ r. r ≡ row_by x.cells (at_end_entry (entry x) (entry k)))
    (λ r is. is ∙ whole x k c.live.result c.live-2.result c.loop-a.a c.loop-a.sums.items c.live.ensures.table c.live-2.ensures.table c.requires.cells (omega arith) c.live.ensures.dead c.live-2.ensures.dead c.loop-a.invariant.sums)
    c.row_of.ensures
