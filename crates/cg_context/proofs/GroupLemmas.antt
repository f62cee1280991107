-- The contexts of groups that bound events on one side only: what their entries lose and reach, and which are zero.
use Rattle.std.proofs.Common.{◌≡◌, ℕ, ◌+◌, ◌*◌, ◌^◌, ◌<◌, ◌≤◌, arith, refl}
use Rattle.std.proofs.lemmas.Bool.{ne_eqb}
use Rattle.cg_enc.specs.Enclosure.{Enclosure, exact_zero, IsExponent}
use Rattle.cg_table.specs.Sums.{sum_of}
use Rattle.cg_table.specs.Table.{Table, IsTable, entry, table_loss, table_reach}
use Rattle.cg_table.proofs.ReachLemmas.{greatest_reach-least}
use Rattle.cg_table.proofs.TableLemmas.{AreWithin}
use Rattle.cg_table.proofs.WithinLemmas.{entry-within, sum-within}
use Rattle.cg_context.specs.Formulas.{sum_on, into_after_entry, into_before_entry}
use Rattle.cg_context.proofs.CallLemmas.{into_after-within}
use Rattle.cg_context.proofs.DownSums.{on-within}
use Rattle.cg_context.proofs.TermLemmas.{AreDead, entries-within, within-near}

-- the sum of a column above its last entry may be added to
pub reaching-near : (x : Table) (c : ℕ) (e : Enclosure) → IsTable x → table_reach x < 2 ^ 20 → c ≤ x.cells → e ≡ sum_of (λ d. entry x d c) 0 c → IsExponent (2 ^ 60) e.exp
reaching-near x c e h reach le is =
    within-near e (sum_of (λ d. entry x d c) 0 c) (table_loss x + 3 * c) (table_reach x * 2 ^ 31 + c) (2 ^ 60)
    (sum-within (λ d. entry x d c) (table_loss x) (table_reach x * 2 ^ 31) 0 c (λ i less. entry-within x (0 + i) c h)) (omega (arith, h.few)) is

-- and so may a sum down the diagonal
pub tied-near : (x : Table) (c : ℕ) (e : Enclosure) → IsTable x → table_reach x < 2 ^ 20 → e ≡ sum_on x.cells c (λ d. entry x d d) → IsExponent (2 ^ 60) e.exp
tied-near x c e h reach is =
    within-near e (sum_on x.cells c (λ d. entry x d d)) (table_loss x + 3 * x.cells) (table_reach x * 2 ^ 31 + x.cells) (2 ^ 60)
    (on-within x.cells c (λ d. entry x d d) (table_loss x) (table_reach x * 2 ^ 31) (λ d low less. entry-within x d d h)) (omega (arith, h.few)) is

-- each entry of an After group's
pub into_after-fits : (x : Table) → IsTable x → AreWithin x.cells (into_after_entry x.cells (entry x)) (table_loss x + 3 * x.cells + 3) (table_reach x * 2 ^ 31 + x.cells + 1)
into_after-fits x h a b le less = into_after-within (entry x) (table_loss x) (table_reach x * 2 ^ 31) x.cells a b (entries-within x h) le less

-- it has the oldest row alone
pub into_after-dead : (cells : ℕ) (x : ℕ → ℕ → Enclosure) (a b : ℕ) → 1 ≤ a → a ≤ b → b < cells → into_after_entry cells x a b ≡ exact_zero
into_after-dead cells x a b low le less = rw (ne_eqb a 0 (λ e. absurd (omega arith))) refl

-- each entry of a Before group's
pub into_before-fits : (x : Table) → IsTable x → AreWithin x.cells (into_before_entry (entry x)) (table_loss x) (table_reach x * 2 ^ 31)
into_before-fits x h a b le less = entry-within x a a h

-- a row of zeros gives one
pub into_before-dead : (x : Table) (live : ℕ) → AreDead x live → (a b : ℕ) → live ≤ a → a ≤ b → b < x.cells → into_before_entry (entry x) a b ≡ exact_zero
into_before-dead x live dead a b low le less = dead a a low (omega arith) (omega arith)

-- no table reaches further than its entries may
pub reach-fits : (x : Table) → IsTable x → table_reach x * 2 ^ 31 ≤ 2 ^ 60
reach-fits x h = omega (arith, greatest_reach-least x.entries (2 ^ 29) h.entries.near)
