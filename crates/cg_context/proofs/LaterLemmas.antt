-- Sums of the products of a context's row and a row of weights, from the youngest cell down.
use Rattle.std.proofs.Common.{◌≡◌, ℕ, ◌+◌, ◌*◌, ◌^◌, ◌<◌, ◌≤◌, List, arith}
use Rattle.cg_enc.specs.Enclosure.{Enclosure, exact_zero, IsExponent}
use Rattle.cg_enc.specs.Rounding.{times}
use Rattle.cg_table.specs.Losses.{greatest_loss, greatest_reach}
use Rattle.cg_table.specs.Row.{AreEntries}
use Rattle.cg_table.specs.Table.{Table, IsTable, entry, row_entry, table_loss, table_reach}
use Rattle.cg_table.proofs.TableLemmas.{AreWithin}
use Rattle.cg_table.proofs.WithinLemmas.{IsWithin, times-within, entry-within, row_entry-within}
use Rattle.cg_context.specs.Formulas.{sum_on, back_row_entry}
use Rattle.cg_context.proofs.CallLemmas.{back_row-within}
use Rattle.cg_context.proofs.DownSums.{on-within}
use Rattle.cg_context.proofs.TermLemmas.{AreDead, entries-within, within-near, times-nothing, sum_on-zero}

-- a coefficient, times a weight
pub weighed-within : (v : Table) (w : List Enclosure) (a d : ℕ) → IsTable v → AreEntries w →
    IsWithin (times (entry v a d) (row_entry w d)) (table_loss v + greatest_loss w + 3) (table_reach v * 2 ^ 31 + greatest_reach w * 2 ^ 31 + 63)
weighed-within v w a d h h' =
    times-within (entry v a d) (row_entry w d) (table_loss v) (table_reach v * 2 ^ 31) (greatest_loss w) (greatest_reach w * 2 ^ 31) (entry-within v a d h) (row_entry-within w d h')

-- it may be added to
pub weighed-near : (v : Table) (w : List Enclosure) (a d : ℕ) (e : Enclosure) → IsTable v → AreEntries w → table_reach v + greatest_reach w < 2 ^ 20 →
    e ≡ times (entry v a d) (row_entry w d) → IsExponent (2 ^ 60) e.exp
weighed-near v w a d e h h' reach is =
    within-near e (times (entry v a d) (row_entry w d)) (table_loss v + greatest_loss w + 3) (table_reach v * 2 ^ 31 + greatest_reach w * 2 ^ 31 + 63) (2 ^ 60)
    (weighed-within v w a d h h') (omega arith) is

-- and so may the sum
pub weighed_sum-near : (v : Table) (w : List Enclosure) (a c : ℕ) (e : Enclosure) → IsTable v → AreEntries w → table_reach v + greatest_reach w < 2 ^ 20 →
    e ≡ sum_on v.cells c (λ d. times (entry v a d) (row_entry w d)) → IsExponent (2 ^ 60) e.exp
weighed_sum-near v w a c e h h' reach is =
    let f : ℕ → Enclosure = λ d. times (entry v a d) (row_entry w d) in
    within-near e (sum_on v.cells c f) (table_loss v + greatest_loss w + 3 + 3 * v.cells) (table_reach v * 2 ^ 31 + greatest_reach w * 2 ^ 31 + 63 + v.cells) (2 ^ 60)
    (on-within v.cells c f (table_loss v + greatest_loss w + 3) (table_reach v * 2 ^ 31 + greatest_reach w * 2 ^ 31 + 63) (λ d low less. weighed-within v w a d h h'))
    (omega (arith, h.few)) is

-- each entry of the result
pub back_row-fits : (v : Table) (w : List Enclosure) → IsTable v → AreEntries w →
    AreWithin v.cells (back_row_entry v.cells (entry v) (row_entry w)) (table_loss v + greatest_loss w + 3 + 3 * v.cells) (table_reach v * 2 ^ 31 + greatest_reach w * 2 ^ 31 + 63 + v.cells)
back_row-fits v w h h' a b le less =
    back_row-within (entry v) (row_entry w) (table_loss v) (table_reach v * 2 ^ 31) (greatest_loss w) (greatest_reach w * 2 ^ 31) v.cells a b (entries-within v h) (λ b. row_entry-within w b h')

-- a row of zeros gives one
pub back_row-dead : (v : Table) (w : List Enclosure) (live : ℕ) → AreDead v live →
    (a b : ℕ) → live ≤ a → a ≤ b → b < v.cells → back_row_entry v.cells (entry v) (row_entry w) a b ≡ exact_zero
back_row-dead v w live dead a b low le less =
    sum_on-zero v.cells b (λ d. times (entry v a d) (row_entry w d)) (λ d high short. times-nothing (entry v a d) (row_entry w d) (dead a d low (omega arith) short))
