-- What reading a file to its end takes from a reader and answers, where the reader tells what it has left. chron's own.
use Rattle.std.specs.Prelude.{◌≡◌, ℕ, ◌<◌, ◌≤◌, List, ◌++◌, length, Option, Some, None, Result, Ok, Err}
use Rattle.std.specs.Io.KnownBytes.{Consumes}
use Rattle.cg_io.specs.declared.shelf.ReadEnd.{ReadEnd}
use Rattle.cg_io.specs.declared.shelf.ReadEnd.TheVariants.{Whole, TooLong}
use Rattle.cg_io.specs.declared.shelf.ShelfFault.{ShelfFault}

-- no more than so many bytes were taken from the reader
abbrev pub TakesAtMost : ℕ → Option (List ℕ) → Option (List ℕ) → Type 0
TakesAtMost most old new = (bytes : List ℕ) × Consumes old new bytes × (length bytes ≤ most)

-- a reader that tells what it has left: all of it was appended, or it is longer than the limit
abbrev pub AppendsRest : Option (List ℕ) → ℕ → List ℕ → List ℕ → Result ReadEnd ShelfFault → Type 0
AppendsRest None limit before after result = Unit {0}
AppendsRest (Some rest) limit before after (Ok Whole) = (length rest ≤ limit) × (after ≡ before ++ rest)
AppendsRest (Some rest) limit before after (Ok TooLong) = limit < length rest
AppendsRest (Some rest) limit before after (Err fault) = Unit {0}
