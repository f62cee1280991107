-- Reads of a shelf, one after the other, and what they find.
use Rattle.std.specs.Prelude.{◌≡◌, ℕ, zero, suc, ◌≤◌, List, length, Option, Some, None, option_map}
use Rattle.cg_io.specs.Shelf.{Files, Fails, Gives, after_read}

-- the longest file that is read, in bytes
abbrev pub limit : ℕ
limit = 4194304

-- what the shelf tells after so many more reads
abbrev pub later : ℕ → Option Files → Option Files
later zero told = told
later (suc reads) told = later reads (option_map after_read told)

-- where the shelf tells its files, so many reads were made
abbrev pub Reads : ℕ → Option Files → Option Files → Type 0
Reads reads None now = Unit {0}
Reads reads (Some files) now = now ≡ later reads (Some files)

-- where the shelf tells its files, the next read finds these bytes
abbrev pub Finds : Option Files → List ℕ → List ℕ → Type 0
Finds None name bytes = Unit {0}
Finds (Some files) name bytes = Gives files name bytes

-- where the shelf tells its files, the next read fails
abbrev pub Misses : Option Files → List ℕ → Type 0
Misses None name = Unit {0}
Misses (Some files) name = Fails files name

-- the next read finds bytes within the limit of which this holds
abbrev pub ReadsAs : Option Files → List ℕ → (List ℕ → Type 0) → Type 0
ReadsAs told name Fact = (bytes : List ℕ) × Finds told name bytes × (length bytes ≤ limit) × Fact bytes
