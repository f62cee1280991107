-- What an event that is an item by itself is counted by: at each cell what comes before it, times a coefficient.
use Rattle.std.proofs.Common.{◌≡◌, ℕ, ◌+◌, ◌-◌, ◌*◌, ◌^◌, ◌<◌, ◌≤◌, List, min, inl, inr, arith, ap}
use Rattle.std.proofs.lemmas.Bool.{cases_lt}
use Rattle.cg_enc.specs.Enclosure.{Enclosure, exact_zero, IsExponent}
use Rattle.cg_enc.specs.Rounding.{times}
use Rattle.cg_enc.proofs.Products.{times-zero_right}
use Rattle.cg_table.specs.Formulas.{cumulated}
use Rattle.cg_table.specs.Table.{Table, IsTable, entry, table_loss, table_reach}
use Rattle.cg_table.proofs.DeadLemmas.{sum-zero}
use Rattle.cg_table.proofs.WithinLemmas.{IsWithin, times-within, entry-within}
use Rattle.cg_context.specs.Columns.{AreColumns}
use Rattle.cg_context.specs.Formulas.{at_member_entry, row_by}
use Rattle.cg_context.proofs.CallLemmas.{cumulated-within}
use Rattle.cg_context.proofs.ColumnLemmas.{TermsWithin, columns-all}
use Rattle.cg_context.proofs.TermLemmas.{AreDead, entries-within, within-near, times-nothing}

-- the product at a cell
abbrev pub member-term : Table → Table → ℕ → ℕ → Enclosure
member-term p v a y = times (cumulated (entry p) a y) (entry v a y)

-- it lies within bounds
pub member_term-within : (p v : Table) (a y : ℕ) → IsTable p → IsTable v → a ≤ y → y < p.cells →
    IsWithin (member-term p v a y) (table_loss p + 3 * p.cells + table_loss v + 3) (table_reach p * 2 ^ 31 + p.cells + table_reach v * 2 ^ 31 + 63)
member_term-within p v a y h h' le less =
    times-within (cumulated (entry p) a y) (entry v a y) (table_loss p + 3 * p.cells) (table_reach p * 2 ^ 31 + p.cells) (table_loss v) (table_reach v * 2 ^ 31)
    (cumulated-within (entry p) (table_loss p) (table_reach p * 2 ^ 31) p.cells a y (entries-within p h) le less) (entry-within v a y h')

-- and so do all that count
pub member_terms-within : (p v : Table) → IsTable p → IsTable v →
    TermsWithin (member-term p v) p.cells 1 (table_loss p + 3 * p.cells + table_loss v + 3) (table_reach p * 2 ^ 31 + p.cells + table_reach v * 2 ^ 31 + 63)
member_terms-within p v h h' a y counts less = member_term-within p v a y h h' (omega arith) less

-- it may be added to
pub member_term-near : (p v : Table) (a y : ℕ) (e : Enclosure) → IsTable p → IsTable v → table_reach p + table_reach v < 2 ^ 20 → a ≤ y → y < p.cells → e ≡ member-term p v a y → IsExponent (2 ^ 60) e.exp
member_term-near p v a y e h h' reach le less is =
    within-near e (member-term p v a y) (table_loss p + 3 * p.cells + table_loss v + 3) (table_reach p * 2 ^ 31 + p.cells + table_reach v * 2 ^ 31 + 63) (2 ^ 60)
    (member_term-within p v a y h h' le less) (omega (arith, reach, h.few)) is

-- the sums over the rows that live in both are the coefficients
pub member-whole : (p v : Table) (own other a : ℕ) (sums : List Enclosure) → IsTable p → IsTable v → p.cells ≡ v.cells → a ≡ min own other → AreDead p own → AreDead v other →
    AreColumns (member-term p v) p.cells 1 a sums → sums ≡ row_by p.cells (at_member_entry (entry p) (entry v))
member-whole p v own other a sums h h' size done dead dead' sum =
    columns-all (member-term p v) p.cells 1 (table_loss p + 3 * p.cells + table_loss v + 3) (table_reach p * 2 ^ 31 + p.cells + table_reach v * 2 ^ 31 + 63) a sums
    (member_terms-within p v h h') (omega arith) nothing sum
  where
    nothing : (b y : ℕ) → a ≤ b → b < y + 1 → y < p.cells → member-term p v b y ≡ exact_zero
    nothing b y low counts less =
        elim (cases_lt b own) [
          | inr past ↦ times-nothing (cumulated (entry p) b y) (entry v b y)
              (sum-zero (entry p b) b (y - b + 1) (λ i short. dead b (b + i) past (omega arith) (omega arith)))
          | inl inside ↦ times-zero_right (cumulated (entry p) b y) (entry v b y) (ap (λ (e : Enclosure). e.hi) (dead' b y (omega arith) (omega arith) (omega arith)))
        ]
