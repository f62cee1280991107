-- Triangular tables of enclosures: an entry for each two cells a ≤ b. chron's own.
use Rattle.std.specs.Prelude.{◌≡◌, ℕ, zero, suc, ◌+◌, ◌-◌, ◌^◌, ◌<◌, ◌≤◌, List, [], ◌++◌, map, length, slice_index_or}
use Rattle.std.specs.List.{range_with_len}
use Rattle.cg_enc.specs.Enclosure.{Enclosure, exact_zero, Encloses}
use Rattle.cg_table.specs.Losses.{greatest_loss, greatest_reach}
use Rattle.cg_table.specs.Row.{AreEntries}

-- the number of cells, and the entries (a, b) for a ≤ b, row by row with rising b
pub record Table : Type 0 where
  pub cells : ℕ
  pub entries : List Enclosure

-- how many entries stand before row a
abbrev pub start : ℕ → ℕ → ℕ
start cells zero = 0
start cells (suc a) = start cells a + (cells - a)

-- how many stand before the entry (a, b)
abbrev pub place : ℕ → ℕ → ℕ → ℕ
place cells a b = start cells a + (b - a)

-- the entry (a, b)
abbrev pub entry : Table → ℕ → ℕ → Enclosure
entry t a b = slice_index_or t.entries (place t.cells a b) exact_zero

-- row a, where f gives each entry
abbrev pub row : ℕ → (ℕ → ℕ → Enclosure) → ℕ → List Enclosure
row cells f a = map (f a) (range_with_len a (cells - a))

-- the rows before row a
abbrev pub rows : ℕ → (ℕ → ℕ → Enclosure) → ℕ → List Enclosure
rows cells f zero = []
rows cells f (suc a) = rows cells f a ++ row cells f a

-- the table in which f gives each entry
abbrev pub table : ℕ → (ℕ → ℕ → Enclosure) → Table
table cells f = record { cells = cells; entries = rows cells f cells }

-- the least loss that all entries have
abbrev pub table_loss : Table → ℕ
table_loss t = greatest_loss t.entries

-- the least number of times 2 ^ 31 within which all exponents lie
abbrev pub table_reach : Table → ℕ
table_reach t = greatest_reach t.entries

-- what every table meets
pub record IsTable (t : Table) : Type 0 where
  pub all_there : length t.entries ≡ start t.cells t.cells
  pub entries : AreEntries t.entries
  pub few : t.cells < 2 ^ 33

-- each entry encloses the fraction of x over d
pub record EnclosesTable (t : Table) (x : ℕ → ℕ → ℕ) (d : ℕ) : Type 0 where
  pub at : (a b : ℕ) → a ≤ b → b < t.cells → Encloses (entry t a b) (x a b) d

-- the entry of a row at a cell
abbrev pub row_entry : List Enclosure → ℕ → Enclosure
row_entry w b = slice_index_or w b exact_zero

-- each entry of a row encloses the fraction of y over d
pub record EnclosesRow (w : List Enclosure) (y : ℕ → ℕ) (d : ℕ) : Type 0 where
  pub at : (b : ℕ) → b < length w → Encloses (row_entry w b) (y b) d
