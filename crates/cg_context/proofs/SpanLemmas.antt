-- Sums of a context's row by the weights of spans.
use Rattle.std.proofs.Common.{◌≡◌, ℕ, ◌+◌, ◌-◌, ◌*◌, ◌^◌, ◌<◌, ◌≤◌, List, map, get_or, arith, ap, ap₂, ◌∙◌}
use Rattle.std.specs.List.{range_with_len}
use Rattle.cg_enc.specs.Enclosure.{Enclosure, exact_zero, IsExponent}
use Rattle.cg_enc.specs.Rounding.{times}
use Rattle.cg_table.specs.Formulas.{span_power}
use Rattle.cg_table.specs.Table.{Table, IsTable, entry, table_loss, table_reach}
use Rattle.cg_table.proofs.FormulaLemmas.{power-within, read_power}
use Rattle.cg_table.proofs.WithinLemmas.{IsWithin, times-within, entry-within}
use Rattle.cg_context.specs.Formulas.{sum_on, into_span_entry}
use Rattle.cg_context.proofs.DownSums.{on-within}
use Rattle.cg_context.proofs.TermLemmas.{within-near, times-nothing, sum_on-zero}

-- the product at a cell
abbrev pub span-term : Table → ℕ → ℕ → ℕ → Enclosure
span-term x n a b = times (entry x a b) (span_power (b - a + 1) n)

-- it lies within bounds
span_term-within : (x : Table) (n a b : ℕ) → IsTable x → b < x.cells → IsWithin (span-term x n a b) (table_loss x + 6 * n + 3) (table_reach x * 2 ^ 31 + (66 + 258 * n) + 63)
span_term-within x n a b h less =
    times-within (entry x a b) (span_power (b - a + 1) n) (table_loss x) (table_reach x * 2 ^ 31) (6 * n) (66 + 258 * n) (entry-within x a b h)
    (power-within (b - a + 1) n (omega arith) (omega (arith, h.few, less)))

-- it may be added to
pub span_term-near : (x : Table) (n a b : ℕ) (e : Enclosure) → IsTable x → table_reach x < 2 ^ 20 → n < 2 ^ 32 → b < x.cells → e ≡ span-term x n a b → IsExponent (2 ^ 60) e.exp
span_term-near x n a b e h reach few less is =
    within-near e (span-term x n a b) (table_loss x + 6 * n + 3) (table_reach x * 2 ^ 31 + (66 + 258 * n) + 63) (2 ^ 60) (span_term-within x n a b h less) (omega (arith, reach, few)) is

-- and so may the sum
pub span_sum-near : (x : Table) (n a c : ℕ) (e : Enclosure) → IsTable x → table_reach x < 2 ^ 20 → n < 2 ^ 32 → e ≡ sum_on x.cells c (span-term x n a) → IsExponent (2 ^ 60) e.exp
span_sum-near x n a c e h reach few is =
    within-near e (sum_on x.cells c (span-term x n a)) (table_loss x + 6 * n + 3 + 3 * x.cells) (table_reach x * 2 ^ 31 + (66 + 258 * n) + 63 + x.cells) (2 ^ 60)
    (on-within x.cells c (span-term x n a) (table_loss x + 6 * n + 3) (table_reach x * 2 ^ 31 + (66 + 258 * n) + 63) (λ b i less. span_term-within x n a b h less))
    (omega (arith, reach, few, h.few)) is

-- the product that is made at a cell
pub span_at : (x : Table) (n a cells i : ℕ) (powers : List Enclosure) (e f r : Enclosure) → cells ≡ x.cells → i < cells - a → powers ≡ map (λ s. span_power (s + 1) n) (range_with_len 0 x.cells) →
    e ≡ entry x a (cells - 1 - i) → f ≡ get_or powers (cells - 1 - i - a) f → r ≡ times e f → r ≡ span-term x n a (x.cells - 1 - i)
span_at x n a cells i powers e f r size less made left read is =
    is ∙ ap₂ (λ (u v : Enclosure). times u v) left (read_power powers n x.cells (cells - 1 - i - a) f made (omega (arith, size, less)) read)
    ∙ ap (λ (m : ℕ). span-term x n a (m - 1 - i)) size

-- a dead row has no context
pub span-dead : (x : Table) (n a c : ℕ) → ((b : ℕ) → a ≤ b → b < x.cells → entry x a b ≡ exact_zero) → a ≤ c → into_span_entry x.cells (entry x) n a c ≡ exact_zero
span-dead x n a c dead le = sum_on-zero x.cells c (span-term x n a)
    (λ b low less. times-nothing (entry x a b) (span_power (b - a + 1) n) (dead b (omega arith) less))
