-- Tables of which the first rows alone have entries other than zero. chron's own.
use Rattle.std.specs.Prelude.{ℕ, zero, suc, ◌-◌, nat_lt, if◌then◌else◌, Bool, List, ◌++◌, length, replicate}
use Rattle.std.specs.List.{list_any}
use Rattle.cg_enc.specs.Enclosure.{Enclosure, exact_zero}
use Rattle.cg_table.specs.Formulas.{identity_entry}
use Rattle.cg_table.specs.Table.{Table, start, entry, row, table}

-- whether one of them isn't zero
abbrev pub any_live : List Enclosure → Bool
any_live entries = list_any (λ e. nat_lt 0 e.hi) entries

-- whether row a has an entry that isn't zero
abbrev pub live_in : Table → ℕ → Bool
live_in t a = any_live (row t.cells (entry t) a)

-- of the rows before one, how many there are up to the last that has such an entry
abbrev pub live_until : Table → ℕ → ℕ
live_until t zero = 0
live_until t (suc a) = if live_in t a then suc a else live_until t a

-- the live rows: how many rows there are up to the last that has such an entry
abbrev pub live_rows : Table → ℕ
live_rows t = live_until t t.cells

-- the table whose first entries are these, row by row, and all further ones zero
abbrev pub padded : ℕ → List Enclosure → Table
padded cells entries = record {
  cells = cells;
  entries = entries ++ replicate (start cells cells - length entries) exact_zero;
}

-- the identity in its first `live` rows, zero in the others
abbrev pub identity_rows_entry : ℕ → ℕ → ℕ → Enclosure
identity_rows_entry live a b = if nat_lt a live then identity_entry a b else exact_zero

abbrev pub identity_rows_of : ℕ → ℕ → Table
identity_rows_of cells live = table cells (identity_rows_entry live)
