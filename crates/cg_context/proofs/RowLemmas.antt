-- Rows that a formula gives, cell by cell, and rows of a table behind others.
use Rattle.std.proofs.Common.{◌≡◌, ℕ, zero, suc, ◌+◌, ◌-◌, ◌*◌, ◌++◌, ◌^◌, ◌<◌, ◌≤◌, List, length, map, min, get_or, inl, inr, arith, ap, ◌∙◌, sym, subst, zero-add, refl}
use Rattle.std.specs.List.{All, range_with_len}
use Rattle.std.proofs.lemmas.Bool.{cases_lt}
use Rattle.std.proofs.lemmas.List.{ext_get_or, get_or_append_left, get_or-append-add, length-append}
use Rattle.std.proofs.lemmas.List.Elements.{All-from_get_or}
use Rattle.std.proofs.lemmas.List.FromFn.{get_or-map-range_with_len, length-map-range_with_len}
use Rattle.cg_enc.specs.Enclosure.{Enclosure, exact_zero, HasLoss, IsExponent, Encloses}
use Rattle.cg_table.specs.Losses.{greatest_loss, greatest_reach}
use Rattle.cg_table.specs.Live.{padded}
use Rattle.cg_table.specs.Table.{EnclosesRow, start, rows, table}
use Rattle.cg_table.proofs.LiveLemmas.{padded-rows}
use Rattle.cg_table.proofs.LossLemmas.{greatest_loss-least, HasLoss-more}
use Rattle.cg_table.proofs.PlaceLemmas.{length-rows}
use Rattle.cg_table.proofs.ReachLemmas.{greatest_reach-least, IsExponent-more}
use Rattle.cg_table.proofs.WithinLemmas.{IsWithin}
use Rattle.cg_context.specs.Formulas.{row_by}

-- the entry of a cell
pub row_by-at : (cells : ℕ) (f : ℕ → Enclosure) (c : ℕ) (d : Enclosure) → c < cells → get_or (row_by cells f) c d ≡ f c
row_by-at cells f c d less = get_or-map-range_with_len f 0 cells c c d less (zero-add c)

-- it has an entry for each
pub length-row_by : (cells : ℕ) (f : ℕ → Enclosure) → length (row_by cells f) ≡ cells
length-row_by cells f = length-map-range_with_len f 0 cells

-- what holds at each cell holds of each entry
pub All-row_by : (P : Enclosure → Type 0) (cells : ℕ) (f : ℕ → Enclosure) → ((c : ℕ) → c < cells → P (f c)) → All P (row_by cells f)
All-row_by P cells f h = All-from_get_or P (row_by cells f) exact_zero
    (λ i less.
    let inside : i < cells = omega (arith, less, length-row_by cells f) in
    subst P (sym (row_by-at cells f i exact_zero inside)) (h i inside))

-- a list that has at each cell what a formula gives there
pub is-row_by : (cells : ℕ) (f : ℕ → Enclosure) (xs : List Enclosure) → length xs ≡ cells → ((c : ℕ) → c < cells → get_or xs c exact_zero ≡ f c) → xs ≡ row_by cells f
is-row_by cells f xs long h =
    ext_get_or exact_zero xs (row_by cells f) (long ∙ sym (length-row_by cells f))
    (λ i less. h i (omega (arith, long, less)) ∙ sym (row_by-at cells f i exact_zero (omega (arith, long, less))))

-- each cell's entry loses k at most and has its exponent within m
abbrev pub CellsWithin : ℕ → (ℕ → Enclosure) → ℕ → ℕ → Type 0
CellsWithin cells f k m = (c : ℕ) → c < cells → IsWithin (f c) k m

-- what the entries lose
pub row-loss : (r : List Enclosure) (cells : ℕ) (f : ℕ → Enclosure) (k m most : ℕ) → CellsWithin cells f k m → k ≤ most → r ≡ row_by cells f → greatest_loss r ≤ most
row-loss r cells f k m most h le is =
    rw is (greatest_loss-least (row_by cells f) most (All-row_by (λ e. HasLoss e most) cells f (λ c less. HasLoss-more (f c) k most le (h c less).loss)))

-- how far they reach
pub row-reach : (r : List Enclosure) (cells : ℕ) (f : ℕ → Enclosure) (k m most : ℕ) → CellsWithin cells f k m → m ≤ most * 2 ^ 31 → r ≡ row_by cells f → greatest_reach r ≤ most
row-reach r cells f k m most h le is =
    rw is (greatest_reach-least (row_by cells f) most (All-row_by (λ e. IsExponent (most * 2 ^ 31) e.exp) cells f (λ c less. IsExponent-more (f c).exp m (most * 2 ^ 31) le (h c less).near)))

-- its entries may be put into a row
pub row-near : (r : List Enclosure) (cells : ℕ) (f : ℕ → Enclosure) (k m : ℕ) → CellsWithin cells f k m → m ≤ 2 ^ 60 → r ≡ row_by cells f → All (λ e. IsExponent (2 ^ 60) e.exp) r
row-near r cells f k m h le is =
    rw is (All-row_by (λ e. IsExponent (2 ^ 60) e.exp) cells f (λ c less. IsExponent-more (f c).exp m (2 ^ 60) le (h c less).near))

-- what they enclose
pub row-encloses : (r : List Enclosure) (cells : ℕ) (f : ℕ → Enclosure) (y : ℕ → ℕ) (d : ℕ) → ((c : ℕ) → c < cells → Encloses (f c) (y c) d) → r ≡ row_by cells f → EnclosesRow r y d
row-encloses r cells f y d h is =
    rw is (record {
      at = λ c less.
          let inside : c < cells = omega (arith, less, length-row_by cells f) in
          subst (λ (e : Enclosure). Encloses e (y c) d) (sym (row_by-at cells f c exact_zero inside)) (h c inside);
    })

-- cells from a on, written over the zeros behind what stood before
pub row-behind : (cells a : ℕ) (f : ℕ → Enclosure) (front zeros new : List Enclosure) → length zeros ≡ cells - a → length new ≡ length (front ++ zeros) →
    ((i : ℕ) → i < length front → get_or new i exact_zero ≡ get_or (front ++ zeros) i exact_zero) →
    ((i : ℕ) → i < cells - a → get_or new (length front + i) exact_zero ≡ f (a + i)) →
    new ≡ front ++ map f (range_with_len a (cells - a))
row-behind cells a f front zeros new wide whole before each =
    let r : List Enclosure = map f (range_with_len a (cells - a)) in
    let row_long : length r ≡ cells - a = length-map-range_with_len f a (cells - a) in
    ext_get_or exact_zero new (front ++ r) (omega (arith, whole, length-append front zeros, length-append front r, wide, row_long))
    (λ i less. elim (cases_lt i (length front)) [
      | inl low ↦ before i low ∙ get_or_append_left front zeros exact_zero i low ∙ sym (get_or_append_left front r exact_zero i low)
      | inr high ↦
          let k : ℕ = i - length front in
          let at : length front + k ≡ i = omega arith in
          let within : k < cells - a = omega (arith, whole, length-append front zeros, wide) in
          ap (λ (x : ℕ). get_or new x exact_zero) (sym at) ∙ each k within ∙ sym (get_or-map-range_with_len f a (cells - a) k (a + k) exact_zero within refl)
          ∙ sym (get_or-append-add front r k exact_zero) ∙ ap (λ (x : ℕ). get_or (front ++ r) x exact_zero) at
    ])

-- a table of the oldest row alone
pub oldest-alone : (cells : ℕ) (f : ℕ → ℕ → Enclosure) (xs : List Enclosure) → xs ≡ row_by cells (f 0) → ((a b : ℕ) → 1 ≤ a → a ≤ b → b < cells → f a b ≡ exact_zero) →
    padded cells xs ≡ table cells f
oldest-alone cells f xs is dead =
    ap (padded cells) (is ∙ first cells) ∙ padded-rows cells (min cells 1) f (omega arith) (λ a b low le less. dead a b (omega arith) le less)
  where
    first : (cells : ℕ) → row_by cells (f 0) ≡ rows cells f (min cells 1)
    first zero = refl
    first (suc n) =
        let one : min (suc n) 1 ≡ 1 = omega arith in
        let all : suc n - 0 ≡ suc n = omega arith in
        rw one (ap (λ (k : ℕ). map (f 0) (range_with_len 0 k)) (sym all))

-- and how many entries it keeps
pub oldest-count : (cells : ℕ) (f : ℕ → ℕ → Enclosure) (xs : List Enclosure) → xs ≡ row_by cells (f 0) → (n rows : ℕ) → n ≡ cells → rows ≡ min n 1 → length xs ≡ start n rows
oldest-count cells f xs is n rows size e = ap length is ∙ length-row_by cells (f 0) ∙ sym size ∙ counted n ∙ ap (start n) (sym e)
  where
    counted : (n : ℕ) → n ≡ start n (min n 1)
    counted zero = refl
    counted (suc n) =
        let one : min (suc n) 1 ≡ 1 = omega arith in
        rw one (omega arith)

-- the rows of a table up to the last that isn't zero
pub rows-count : (cells live a : ℕ) (f : ℕ → ℕ → Enclosure) (items : List Enclosure) → a ≡ live → items ≡ rows cells f a → length items ≡ start cells live
rows-count cells live a f items done is = ap length is ∙ length-rows cells f a ∙ ap (start cells) done

-- and the table that they give
pub rows-padded : (cells live a : ℕ) (f : ℕ → ℕ → Enclosure) (items : List Enclosure) → a ≡ live → live ≤ cells → ((a b : ℕ) → live ≤ a → a ≤ b → b < cells → f a b ≡ exact_zero) →
    items ≡ rows cells f a → padded cells items ≡ table cells f
rows-padded cells live a f items done le dead is = ap (padded cells) (is ∙ ap (rows cells f) done) ∙ padded-rows cells live f le dead
