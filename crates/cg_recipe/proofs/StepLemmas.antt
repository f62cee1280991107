-- What one call of cg_table makes of tables that enclose exact ones.
use Rattle.std.proofs.Common.{◌≡◌, ℕ, ◌*◌, ◌^◌, ◌<◌, ◌≤◌, List, length, inl, inr, arith, refl, sym, subst}
use Rattle.std.specs.List.{All}
use Rattle.std.specs.Prelude.{slice_index_or}
use Rattle.std.proofs.Math.Nat.{mul-pos, one-le-pow}
use Rattle.std.proofs.lemmas.Bool.{cases_lt}
use Rattle.std.proofs.lemmas.List.Elements.{All-get_or}
use lib.ListN.{get_or-eq_default}
use Rattle.cg_enc.specs.Enclosure.{Enclosure, exact_zero, IsEnclosure, IsExponent, Encloses, HasLoss}
use Rattle.cg_enc.proofs.WholeNumbers.{zero-IsEnclosure}
use Rattle.cg_table.specs.Losses.{greatest_loss, greatest_reach}
use Rattle.cg_table.specs.Table.{Table, table, entry, row_entry, table_loss, table_reach, place, EnclosesTable, EnclosesRow}
use Rattle.cg_table.specs.Formulas.{identity_entry, identity_of, row_table, then_row_entry, then_row_of, then_entry, then_of, beside_entry, beside_of, after_entry, after_of, before_entry, before_of, spanned_entry, spanned_of}
use Rattle.cg_table.proofs.LossLemmas.{greatest_loss-HasLoss}
use Rattle.cg_table.proofs.ReachLemmas.{greatest_reach-IsExponent}
use Rattle.cg_table.proofs.TableLemmas.{All-rows, AreWithin, table-encloses}
use Rattle.cg_table.proofs.WithinLemmas.{IsWithin}
use Rattle.cg_table.proofs.FormulaLemmas.{AllWithin, AllEnclose, identity-within, identity-encloses, then_row-within, then_row-encloses, then-within, then-encloses, beside-within, beside-encloses, after-within, after-encloses, before-within, before-encloses, spanned-within, spanned-encloses}
use Rattle.cg_meaning.specs.Pairs.{factorial}
use Rattle.cg_part.specs.Tables as exact
use Rattle.cg_part.proofs.Factorials.{exact-spans}
use Rattle.cg_context.proofs.CallLemmas.{factorial-some}
use Rattle.cg_recipe.proofs.JoinLemmas.{share, then_row-joins, then-joins, beside-joins, after-joins, before-joins, spanned-joins}

-- A table for this many cells whose entries enclose an exact one over d.
pub record IsMade (cells : ℕ) (t : Table) (x : exact.ExactTable) (d : ℕ) : Type 0 where
  pub each : t.cells ≡ cells
  pub valid : All IsEnclosure t.entries
  pub some : 0 < d
  pub encloses : EnclosesTable t x d

-- A row for this many cells whose entries enclose exact weights over d.
pub record IsRow (cells : ℕ) (w : List Enclosure) (y : ℕ → ℕ) (d : ℕ) : Type 0 where
  pub each : length w ≡ cells
  pub valid : All IsEnclosure w
  pub some : 0 < d
  pub encloses : EnclosesRow w y d

-- what holds of zero and of each element holds at any place
anywhere : (P : Enclosure → Type 0) (xs : List Enclosure) (i : ℕ) → P exact_zero → All P xs → P (slice_index_or xs i exact_zero)
anywhere P xs i h all =
    elim (cases_lt i (length xs)) [
      | inl inside ↦ All-get_or P xs i exact_zero inside all
      | inr past ↦ subst P (sym (get_or-eq_default xs exact_zero past)) h
    ]

-- what is read from a list of enclosures
pub read-within : (xs : List Enclosure) (i : ℕ) → All IsEnclosure xs → IsWithin (slice_index_or xs i exact_zero) (greatest_loss xs) (greatest_reach xs * 2 ^ 31)
read-within xs i valid = record {
  valid = anywhere IsEnclosure xs i zero-IsEnclosure valid;
  loss = anywhere (λ e. HasLoss e (greatest_loss xs)) xs i (omega arith) (greatest_loss-HasLoss xs);
  near = anywhere (λ e. IsExponent (greatest_reach xs * 2 ^ 31) e.exp) xs i (omega arith, omega arith) (greatest_reach-IsExponent xs);
}

-- the entries of a table
pub entries-within : (t : Table) → All IsEnclosure t.entries → AllWithin (entry t) (table_loss t) (table_reach t * 2 ^ 31)
entries-within t valid a b = read-within t.entries (place t.cells a b) valid

-- they enclose the exact ones
entries-enclose : {cells : ℕ} {t : Table} {x : exact.ExactTable} {d : ℕ} → IsMade cells t x d → AllEnclose cells (entry t) x d
entries-enclose h a b le less = h.encloses.at a b le (omega (arith, h.each))

-- a table that a formula gives
pub of-formula : (cells n : ℕ) (f : ℕ → ℕ → Enclosure) (z x : exact.ExactTable) (d k m : ℕ) → n ≡ cells → 0 < d → AreWithin n f k m →
    ((a b : ℕ) → a ≤ b → b < n → Encloses (f a b) (z a b) d) → ((a b : ℕ) → a ≤ b → b < n → z a b ≡ x a b) → IsMade cells (table n f) x d
of-formula cells n f z x d k m e some within encloses same = record {
  each = e;
  valid = All-rows IsEnclosure n f n (λ a b le less. (within a b le less).valid);
  some = some;
  encloses = table-encloses (table n f) n f x d
      (λ a b le less. subst (λ (v : ℕ). Encloses (f a b) v d) (same a b le less) (encloses a b le less)) refl;
}

-- nothing
pub identity-made : (cells : ℕ) → IsMade cells (identity_of cells) exact.identity 1
identity-made cells =
    of-formula cells cells identity_entry exact.identity exact.identity 1 0 66 refl (omega arith) (λ a b le less. identity-within a b)
    (λ a b le less. identity-encloses a b) (λ a b le less. refl)

-- an event by itself
pub row-made : {cells : ℕ} {w : List Enclosure} {y : ℕ → ℕ} {d : ℕ} → IsRow cells w y d → IsMade cells (row_table w) (exact.row_table y) d
row-made {cells = cells} {w = w} {y = y} {d = d} h =
    of-formula cells (length w) (λ a b. row_entry w b) (exact.row_table y) (exact.row_table y) d (greatest_loss w) (greatest_reach w * 2 ^ 31) h.each h.some
    (λ a b le less. read-within w b h.valid) (λ a b le less. h.encloses.at b less) (λ a b le less. refl)

-- an event after a table
pub then_row-made : {cells : ℕ} {p : Table} {x : exact.ExactTable} {d : ℕ} {w : List Enclosure} {y : ℕ → ℕ} {e : ℕ} → IsMade cells p x d → IsRow cells w y e →
    IsMade cells (then_row_of p w) (exact.then_table x (exact.row_table y)) (d * e)
then_row-made {cells = cells} {p = p} {x = x} {d = d} {w = w} {y = y} {e = e} h r =
    let inside : AllWithin (entry p) (table_loss p) (table_reach p * 2 ^ 31) = entries-within p h.valid in
    let weights : (b : ℕ) → IsWithin (row_entry w b) (greatest_loss w) (greatest_reach w * 2 ^ 31) = λ b. read-within w b r.valid in
    of-formula cells p.cells (then_row_entry (entry p) (row_entry w)) (λ a b. _) (exact.then_table x (exact.row_table y)) (d * e) _ _ h.each
    (mul-pos h.some r.some)
    (λ a b le less. then_row-within (entry p) (row_entry w) (table_loss p) (table_reach p * 2 ^ 31) (greatest_loss w)
    (greatest_reach w * 2 ^ 31) p.cells a b inside weights le less)
    (λ a b le less. then_row-encloses (entry p) (row_entry w) x y d e (table_loss p) (table_reach p * 2 ^ 31) (greatest_loss w)
    (greatest_reach w * 2 ^ 31) p.cells a b h.some inside weights
    h.encloses.at (r.encloses.at b (omega (arith, h.each, r.each))) le less)
    (λ a b le less. then_row-joins x y a b le)

-- a table after another
pub then-made : {cells : ℕ} {p : Table} {x : exact.ExactTable} {d : ℕ} {t : Table} {y : exact.ExactTable} {e : ℕ} → IsMade cells p x d → IsMade cells t y e →
    IsMade cells (then_of p t) (exact.then_table x y) (d * e)
then-made {cells = cells} {p = p} {x = x} {d = d} {t = t} {y = y} {e = e} h k =
    let inside : AllWithin (entry p) (table_loss p) (table_reach p * 2 ^ 31) = entries-within p h.valid in
    let inside' : AllWithin (entry t) (table_loss t) (table_reach t * 2 ^ 31) = entries-within t k.valid in
    of-formula cells p.cells (then_entry (entry p) (entry t)) (λ a b. _) (exact.then_table x y) (d * e) _ _ h.each (mul-pos h.some k.some)
    (λ a b le less. then-within (entry p) (entry t) (table_loss p) (table_reach p * 2 ^ 31) (table_loss t)
    (table_reach t * 2 ^ 31) p.cells a b inside inside' le less)
    (λ a b le less. then-encloses (entry p) (entry t) x y d e (table_loss p) (table_reach p * 2 ^ 31) (table_loss t)
    (table_reach t * 2 ^ 31) p.cells a b h.some k.some inside inside'
    h.encloses.at (λ i j le' less'. k.encloses.at i j le' (omega (arith, h.each, k.each))) le less)
    (λ a b le less. then-joins x y a b le)

-- a table beside another
pub beside-made : {cells : ℕ} {p : Table} {x : exact.ExactTable} {d : ℕ} {t : Table} {y : exact.ExactTable} {e : ℕ} → IsMade cells p x d → IsMade cells t y e →
    IsMade cells (beside_of p t) (exact.beside x y) (d * e)
beside-made {cells = cells} {p = p} {x = x} {d = d} {t = t} {y = y} {e = e} h k =
    let inside : AllWithin (entry p) (table_loss p) (table_reach p * 2 ^ 31) = entries-within p h.valid in
    let inside' : AllWithin (entry t) (table_loss t) (table_reach t * 2 ^ 31) = entries-within t k.valid in
    of-formula cells p.cells (beside_entry (entry p) (entry t)) (λ a b. _) (exact.beside x y) (d * e) _ _ h.each (mul-pos h.some k.some)
    (λ a b le less. beside-within (entry p) (entry t) (table_loss p) (table_reach p * 2 ^ 31) (table_loss t)
    (table_reach t * 2 ^ 31) p.cells a b inside inside' le less)
    (λ a b le less. beside-encloses (entry p) (entry t) x y d e (table_loss p) (table_reach p * 2 ^ 31) (table_loss t)
    (table_reach t * 2 ^ 31) p.cells a b h.some k.some inside inside'
    h.encloses.at (λ i j le' less'. k.encloses.at i j le' (omega (arith, h.each, k.each))) le less)
    (λ a b le less. beside-joins x y a b le)

-- an After group
pub after-made : {cells : ℕ} {t : Table} {x : exact.ExactTable} {d : ℕ} → IsMade cells t x d → IsMade cells (after_of t) (exact.after_group x) d
after-made {cells = cells} {t = t} {x = x} {d = d} h =
    let inside : AllWithin (entry t) (table_loss t) (table_reach t * 2 ^ 31) = entries-within t h.valid in
    of-formula cells t.cells (after_entry (entry t)) (λ a b. _) (exact.after_group x) d _ _ h.each h.some
    (λ a b le less. after-within (entry t) (table_loss t) (table_reach t * 2 ^ 31) t.cells a b inside le less)
    (λ a b le less. after-encloses (entry t) x d (table_loss t) (table_reach t * 2 ^ 31) t.cells a b h.some inside h.encloses.at le less)
    (λ a b le less. after-joins x a b)

-- a Before group
pub before-made : {cells : ℕ} {t : Table} {x : exact.ExactTable} {d : ℕ} → IsMade cells t x d → IsMade cells (before_of t) (exact.before_group cells x) d
before-made {cells = cells} {t = t} {x = x} {d = d} h =
    let inside : AllWithin (entry t) (table_loss t) (table_reach t * 2 ^ 31) = entries-within t h.valid in
    of-formula cells t.cells (before_entry t.cells (entry t)) (λ a b. _) (exact.before_group cells x) d _ _ h.each h.some
    (λ a b le less. before-within (entry t) (table_loss t) (table_reach t * 2 ^ 31) t.cells a b inside)
    (λ a b le less. before-encloses (entry t) x d (table_loss t) (table_reach t * 2 ^ 31) t.cells a b h.some inside h.encloses.at le less)
    (λ a b le less. rw (h.each) (before-joins cells x a b (omega (arith, h.each))))

-- what stands between two Boundaries
pub spanned-made : {cells : ℕ} {t : Table} {x : exact.ExactTable} {d : ℕ} (opened : ℕ) → cells ≤ 512 → IsMade cells t x d →
    IsMade cells (spanned_of t opened) (exact.spanned cells x opened) (d * factorial cells ^ opened)
spanned-made {cells = cells} {t = t} {x = x} {d = d} opened few h =
    let inside : AllWithin (entry t) (table_loss t) (table_reach t * 2 ^ 31) = entries-within t h.valid in
    let small : t.cells < 2 ^ 33 = omega (arith, h.each) in
    of-formula cells t.cells (spanned_entry (entry t) opened) (λ a b. _) (exact.spanned cells x opened) (d * factorial cells ^ opened) _ _ h.each
    (mul-pos h.some (one-le-pow opened (factorial cells) (factorial-some cells)))
    (λ a b le less. spanned-within (entry t) (table_loss t) (table_reach t * 2 ^ 31) opened t.cells a b inside small le less)
    (λ a b le less. spanned-encloses (entry t) x (share cells) d (factorial cells) (table_loss t) (table_reach t * 2 ^ 31) opened t.cells a b h.some
    (factorial-some cells) inside h.encloses.at small
    (λ s some most. exact-spans cells s some (omega (arith, h.each))) le less)
    (λ a b le less. spanned-joins cells x opened a b le)

-- other weights that are the same on the grid
pub row-same : (cells : ℕ) (w : List Enclosure) (y z : ℕ → ℕ) (d : ℕ) → ((b : ℕ) → b < cells → y b ≡ z b) → IsRow cells w y d → IsRow cells w z d
row-same cells w y z d same h = record {
  each = h.each;
  valid = h.valid;
  some = h.some;
  encloses = record { at = λ b less. subst (λ (n : ℕ). Encloses (row_entry w b) n d) (same b (omega (arith, h.each))) (h.encloses.at b less) };
}

-- another exact table that is the same on the grid
pub made-same : (cells : ℕ) (t : Table) (x z : exact.ExactTable) (d : ℕ) → ((a b : ℕ) → a ≤ b → b < cells → x a b ≡ z a b) → IsMade cells t x d →
    IsMade cells t z d
made-same cells t x z d same h = record {
  each = h.each;
  valid = h.valid;
  some = h.some;
  encloses = record { at = λ a b le less. subst (λ (n : ℕ). Encloses (entry t a b) n d) (same a b le (omega (arith, h.each))) (h.encloses.at a b le less) };
}

-- the same divisor
pub made-over : {cells : ℕ} {t : Table} {x : exact.ExactTable} {d e : ℕ} → d ≡ e → IsMade cells t x d → IsMade cells t x e
made-over {cells = cells} {t = t} {x = x} same h = subst (λ (n : ℕ). IsMade cells t x n) same h
