-- The two parts of a Phase's member's context: the member reaches the cell itself, or the others reach a later one.
use Rattle.std.proofs.Common.{◌≡◌, ℕ, suc, ◌+◌, ◌-◌, ◌*◌, ◌^◌, ◌<◌, ◌≤◌, arith, refl, ap, ap₂, ◌∙◌}
use Rattle.cg_enc.specs.Enclosure.{Enclosure, exact_zero, IsExponent}
use Rattle.cg_enc.specs.Rounding.{plus, times}
use Rattle.cg_enc.proofs.Sums.{plus-zero_left}
use Rattle.cg_table.specs.Formulas.{cumulated}
use Rattle.cg_table.specs.Table.{Table, IsTable, entry, table_loss, table_reach}
use Rattle.cg_table.proofs.WithinLemmas.{times-within, entry-within}
use Rattle.cg_context.specs.Formulas.{sum_on, into_phase_entry}
use Rattle.cg_context.proofs.CallLemmas.{cumulated-within}
use Rattle.cg_context.proofs.DownSums.{on-within}
use Rattle.cg_context.proofs.TermLemmas.{entries-within, product-within, within-near, times-nothing, sum_on-zero}

-- the first part, and a term of the second
abbrev pub own-term : Table → Table → ℕ → ℕ → Enclosure
own-term x q a d = times (entry x a d) (cumulated (entry q) a d)

abbrev pub later-term : Table → Table → ℕ → ℕ → Enclosure
later-term x q a b = times (entry x a b) (entry q a b)

-- the first part may be added to
pub own-near : (x q : Table) (a d : ℕ) (e : Enclosure) → IsTable x → IsTable q → table_reach x + table_reach q < 2 ^ 20 → x.cells ≡ q.cells → a ≤ d → d < x.cells →
    e ≡ own-term x q a d → IsExponent (2 ^ 60) e.exp
own-near x q a d e h h' reach same le less is =
    within-near e (own-term x q a d) (table_loss x + (table_loss q + 3 * x.cells) + 3) (table_reach x * 2 ^ 31 + (table_reach q * 2 ^ 31 + x.cells) + 63) (2 ^ 60)
    (times-within (entry x a d) (cumulated (entry q) a d) (table_loss x) (table_reach x * 2 ^ 31) (table_loss q + 3 * x.cells) (table_reach q * 2 ^ 31 + x.cells)
    (entry-within x a d h) (cumulated-within (entry q) (table_loss q) (table_reach q * 2 ^ 31) x.cells a d (entries-within q h') le less))
    (omega (arith, reach, h.few)) is

-- so may a term of the second part
pub later_term-near : (x q : Table) (a b : ℕ) (e : Enclosure) → IsTable x → IsTable q → table_reach x + table_reach q < 2 ^ 20 → e ≡ later-term x q a b → IsExponent (2 ^ 60) e.exp
later_term-near x q a b e h h' reach is =
    within-near e (later-term x q a b) (table_loss x + table_loss q + 3) (table_reach x * 2 ^ 31 + table_reach q * 2 ^ 31 + 63) (2 ^ 60) (product-within x q a b a b h h') (omega (arith, reach)) is

-- and their sum
pub later-near : (x q : Table) (a c : ℕ) (e : Enclosure) → IsTable x → IsTable q → table_reach x + table_reach q < 2 ^ 20 → e ≡ sum_on x.cells c (later-term x q a) → IsExponent (2 ^ 60) e.exp
later-near x q a c e h h' reach is =
    within-near e (sum_on x.cells c (later-term x q a)) (table_loss x + table_loss q + 3 + 3 * x.cells) (table_reach x * 2 ^ 31 + table_reach q * 2 ^ 31 + 63 + x.cells) (2 ^ 60)
    (on-within x.cells c (later-term x q a) (table_loss x + table_loss q + 3) (table_reach x * 2 ^ 31 + table_reach q * 2 ^ 31 + 63) (λ b low less. product-within x q a b a b h h'))
    (omega (arith, reach, h.few)) is

-- the product that is made at a cell
pub later_at : (x q : Table) (a cells i : ℕ) (e f r : Enclosure) → cells ≡ x.cells → e ≡ entry x a (cells - 1 - i) → f ≡ entry q a (cells - 1 - i) → r ≡ times e f → r ≡ later-term x q a (x.cells - 1 - i)
later_at x q a cells i e f r size left right is =
    is ∙ ap₂ (λ (u v : Enclosure). times u v) left right ∙ ap (λ (n : ℕ). later-term x q a (n - 1 - i)) size

-- both make an entry
pub phase_at : (x q : Table) (a d from : ℕ) (own later e : Enclosure) → own ≡ own-term x q a d → later ≡ sum_on x.cells from (later-term x q a) → from ≡ suc d → e ≡ plus own later →
    e ≡ into_phase_entry x.cells (entry x) (entry q) a d
phase_at x q a d from own later e left right next is =
    is ∙ ap₂ (λ (u v : Enclosure). plus u v) left (right ∙ ap (λ (c : ℕ). sum_on x.cells c (later-term x q a)) next)

-- a dead row has no context
pub phase-dead : (x q : Table) (a d : ℕ) → ((b : ℕ) → a ≤ b → b < x.cells → entry x a b ≡ exact_zero) → a ≤ d → d < x.cells →
    into_phase_entry x.cells (entry x) (entry q) a d ≡ exact_zero
phase-dead x q a d dead le less =
    ap₂ (λ (u v : Enclosure). plus u v) (times-nothing (entry x a d) (cumulated (entry q) a d) (dead d le less))
    (sum_on-zero x.cells (suc d) (later-term x q a) (λ b low short. times-nothing (entry x a b) (entry q a b) (dead b (omega arith) short)))
    ∙ plus-zero_left exact_zero exact_zero refl
