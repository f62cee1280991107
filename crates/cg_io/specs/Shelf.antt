-- What a shelf of files tells, and what a read of it answers. chron's own.
use Rattle.std.specs.Prelude.{◌≡◌, ◌⊎◌, ℕ, ◌+◌, ◌<◌, ◌≤◌, List, ◌++◌, length, Option, Some, None, Result, Ok, Err, Contains}
use Rattle.cg_io.specs.Causes.{one_more}
use Rattle.cg_io.specs.declared.shelf.ReadEnd.{ReadEnd}
use Rattle.cg_io.specs.declared.shelf.ReadEnd.TheVariants.{Whole, TooLong}
use Rattle.cg_io.specs.declared.shelf.ShelfFault.{ShelfFault}
use Rattle.cg_io.specs.declared.shelf.ShelfFault.TheVariants.{Failed, NoMemory}

-- the bytes of each file by its name, the number of reads so far, and the numbers of the reads that are to fail, counted from 1
pub record Files : Type 0 where
  pub content : List ℕ → Option (List ℕ)
  pub reads : ℕ
  pub failing : List ℕ

-- the next read is one that is to fail, or there is no such file
abbrev pub Fails : Files → List ℕ → Type 0
Fails told name = Contains told.failing (told.reads + 1) ⊎ (told.content name ≡ None)

-- these are the file's bytes, and the read of them does not fail
pub record Gives (told : Files) (name bytes : List ℕ) : Type 0 where
  pub file : told.content name ≡ Some bytes
  pub sound : Fails told name → ⊥

-- one read later
abbrev pub after_read : Files → Files
after_read told = record told { reads = one_more told.reads }

-- what a read leaves in the buffer
abbrev pub Appends : ℕ → List ℕ → List ℕ → Result ReadEnd ShelfFault → Type 0
Appends limit before after (Ok Whole) = (bytes : List ℕ) × (length bytes ≤ limit) × (after ≡ before ++ bytes)
Appends limit before after (Ok TooLong) = after ≡ before
Appends limit before after (Err fault) = after ≡ before

-- the answer is as the files tell
abbrev pub Answers : Files → List ℕ → ℕ → List ℕ → List ℕ → Result ReadEnd ShelfFault → Type 0
Answers told name limit before after (Ok Whole) = (bytes : List ℕ) × Gives told name bytes × (length bytes ≤ limit) × (after ≡ before ++ bytes)
Answers told name limit before after (Ok TooLong) = (bytes : List ℕ) × Gives told name bytes × (limit < length bytes)
Answers told name limit before after (Err Failed) = Fails told name
Answers told name limit before after (Err NoMemory) = Unit {0}

-- a shelf that tells its files goes on to, with one read more, and the answer is as they tell
abbrev pub TellsRead : Option Files → Option Files → List ℕ → ℕ → List ℕ → List ℕ → Result ReadEnd ShelfFault → Type 0
TellsRead None new name limit before after result = Unit {0}
TellsRead (Some told) new name limit before after result = (new ≡ Some (after_read told)) × Answers told name limit before after result

-- the count of faults after a read that answered so
abbrev pub faults_counted : ℕ → Result ReadEnd ShelfFault → ℕ
faults_counted faults (Ok end) = faults
faults_counted faults (Err Failed) = one_more faults
faults_counted faults (Err NoMemory) = faults
