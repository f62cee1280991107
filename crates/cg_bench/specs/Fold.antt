-- What the measured calls give of a triangular table and its context, and a check sum of it.
use Rattle.std.specs.Prelude.{List, ℕ, zero, suc, ◌+◌, ◌-◌, ◌*◌, ◌/◌, ◌%◌, ◌^◌, pos, ◌-ℤ◌, map, fold, codes}
use Rattle.std.specs.List.{range_with_len}
use Rattle.cg_enc.specs.Enclosure.{Enclosure}
use Rattle.cg_enc.specs.Rounding.{norm}
use Rattle.cg_table.specs.Formulas.{then_of}
use Rattle.cg_table.specs.Table.{Table, entry, row, start}
use Rattle.cg_context.specs.Formulas.{back_of, into_sequence_of, root_context}
use Rattle.cg_bench.specs.declared.call.Call.{Call}
use Rattle.cg_bench.specs.declared.call.Call.TheVariants.{Then, Back, IntoSequence}

-- the word that names a call
abbrev pub word_of : Call → List ℕ
word_of Then = codes "then"
word_of Back = codes "back"
word_of IntoSequence = codes "into_sequence"

-- a check sum goes on with one more entry
abbrev pub mixed : ℕ → Enclosure → ℕ
mixed sum e = ((sum * 31 % 2 ^ 64 + e.lo) % 2 ^ 64 + e.hi) % 2 ^ 64

-- the check sum of the first a rows of a table
unfoldable pub check_of : Table → ℕ → ℕ
check_of t zero = 0
check_of t (suc a) = fold mixed (check_of t a) (row t.cells (entry t) a)

-- the digits by which the entry at a place is made
abbrev pub spread : ℕ → ℕ
spread place = place * 0x9e37_79b9_7f4a_7c15 % 2 ^ 64

-- it has an upper end of 63 digits, a loss of at most 1023 and an exponent from -69 to -62
abbrev pub made : ℕ → Enclosure
made place =
    let x = spread place in
    norm (2 ^ 62 + x / 4 - x % 1024) (2 ^ 62 + x / 4) (pos 0 -ℤ pos (62 + x / 2 ^ 61))

-- the table of these entries
abbrev pub made_table : ℕ → Table
made_table cells = record { cells = cells; entries = map made (range_with_len 0 (start cells cells)) }

-- the context of an item behind this table, in a Sequence that is the whole tree
abbrev pub made_context : ℕ → Table
made_context cells = into_sequence_of (made_table cells) (root_context cells)

-- what a call gives of this table and its context
abbrev pub called : Call → ℕ → Table
called Then cells = then_of (made_table cells) (made_table cells)
called Back cells = back_of (made_context cells) (made_table cells)
called IntoSequence cells = into_sequence_of (made_table cells) (made_context cells)
