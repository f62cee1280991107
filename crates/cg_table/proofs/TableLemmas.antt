-- What holds of a table where it holds of each entry that its formula gives.
use Rattle.std.proofs.Common.{◌≡◌, ℕ, zero, suc, ◌+◌, ◌-◌, ◌*◌, ◌^◌, ◌<◌, ◌≤◌, List, arith, refl, sym, subst}
use Rattle.std.specs.List.{All}
use Rattle.std.proofs.lemmas.List.Elements.{All-append, All-from_get_or}
use Rattle.std.proofs.lemmas.List.FromFn.{get_or-map-range_with_len, length-map-range_with_len}
use Rattle.cg_enc.specs.Enclosure.{Enclosure, exact_zero, HasLoss, IsExponent, Encloses}
use Rattle.cg_table.specs.Table.{Table, row, rows, table, table_loss, table_reach, EnclosesTable}
use Rattle.cg_table.proofs.LossLemmas.{greatest_loss-least}
use Rattle.cg_table.proofs.ReachLemmas.{greatest_reach-least}
use Rattle.cg_table.proofs.PlaceLemmas.{entry-table}
use Rattle.cg_table.proofs.WithinLemmas.{IsWithin}

All-row : (P : Enclosure → Type 0) (cells : ℕ) (f : ℕ → ℕ → Enclosure) (a : ℕ) → ((b : ℕ) → a ≤ b → b < cells → P (f a b)) → All P (row cells f a)
All-row P cells f a h = All-from_get_or P (row cells f a) exact_zero
    (λ i less. subst P (sym (get_or-map-range_with_len (f a) a (cells - a) i (a + i) exact_zero (omega (arith, length-map-range_with_len (f a) a (cells - a))) refl))
    (h (a + i) (omega arith) (omega (arith, length-map-range_with_len (f a) a (cells - a)))))

pub All-rows : (P : Enclosure → Type 0) (cells : ℕ) (f : ℕ → ℕ → Enclosure) (n : ℕ) → ((a b : ℕ) → a ≤ b → b < cells → P (f a b)) → All P (rows cells f n)
All-rows P cells f zero h = λ k d less. absurd (omega arith)
All-rows P cells f (suc n) h = All-append P (rows cells f n) (row cells f n) (All-rows P cells f n h) (All-row P cells f n (h n))

-- each entry that a formula gives loses k at most and has its exponent within m
abbrev pub AreWithin : ℕ → (ℕ → ℕ → Enclosure) → ℕ → ℕ → Type 0
AreWithin cells f k m = (a b : ℕ) → a ≤ b → b < cells → IsWithin (f a b) k m

pub rows-near : (cells : ℕ) (f : ℕ → ℕ → Enclosure) (k m a : ℕ) (items : List Enclosure) → AreWithin cells f k m → m ≤ 2 ^ 60 → items ≡ rows cells f a → All (λ e. IsExponent (2 ^ 60) e.exp) items
rows-near cells f k m a items h small is = subst (All (λ e. IsExponent (2 ^ 60) e.exp)) (sym is) (All-rows (λ e. IsExponent (2 ^ 60) e.exp) cells f a
    (λ a b le less. let near = (h a b le less).near in (omega (arith, near.0), omega (arith, near.1))))

pub table-loss : (t : Table) (cells : ℕ) (f : ℕ → ℕ → Enclosure) (k m : ℕ) → AreWithin cells f k m → t ≡ table cells f → table_loss t ≤ k
table-loss t cells f k m h is = rw is (greatest_loss-least (rows cells f cells) k (All-rows (λ e. HasLoss e k) cells f cells (λ a b le less. (h a b le less).loss)))

pub table-reach : (t : Table) (cells : ℕ) (f : ℕ → ℕ → Enclosure) (k m r : ℕ) → AreWithin cells f k m → m ≤ r * 2 ^ 31 → t ≡ table cells f → table_reach t ≤ r
table-reach t cells f k m r h small is = rw is (greatest_reach-least (rows cells f cells) r (All-rows (λ e. IsExponent (r * 2 ^ 31) e.exp) cells f cells
    (λ a b le less. let near = (h a b le less).near in (omega (arith, near.0), omega (arith, near.1)))))

pub table-encloses : (t : Table) (cells : ℕ) (f : ℕ → ℕ → Enclosure) (x : ℕ → ℕ → ℕ) (d : ℕ) → ((a b : ℕ) → a ≤ b → b < cells → Encloses (f a b) (x a b) d) → t ≡ table cells f → EnclosesTable t x d
table-encloses t cells f x d h is = rw is (record { at = λ a b le less. subst (λ (e : Enclosure). Encloses e (x a b) d) (sym (entry-table cells f a b le less)) (h a b le less) })

pub most : {a b c : ℕ} → a ≤ b → b ≤ c → a ≤ c
most h h' = omega (arith, h, h')
