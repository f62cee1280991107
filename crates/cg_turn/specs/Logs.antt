-- Entries of a log, each of one seat. chron's own.
use Rattle.std.specs.Prelude.{◌≡◌, ℕ, ◌<◌, ◌⊎◌, List, [], ◌∷◌, ◌++◌, filter, nat_eq}

module _ {E : Type 0} where
  -- the entries of the seat with this number
  abbrev pub by : (E → ℕ) → ℕ → List E → List E
  by seat_of number log = filter (λ entry. nat_eq (seat_of entry) number) log

  -- the log begins with what was seen
  abbrev pub StartsWith : List E → List E → Type 0
  StartsWith log seen = (rest : List E) × (seen ++ rest ≡ log)

  -- all entries are of the seat with this number
  abbrev pub AllBy : (E → ℕ) → ℕ → List E → Type 0
  AllBy seat_of number [] = Unit {0}
  AllBy seat_of number (entry ∷ entries) = (seat_of entry ≡ number) × AllBy seat_of number entries

  -- the log is another with entries of the seat with this number after it
  abbrev pub Extends : (E → ℕ) → ℕ → List E → List E → Type 0
  Extends seat_of number old new = (news : List E) × (new ≡ old ++ news) × AllBy seat_of number news

  -- all entries are of seats with the numbers from 1 up to this one
  abbrev pub HasNoOther : (E → ℕ) → ℕ → List E → Type 0
  HasNoOther seat_of count log = (number : ℕ) → (number ≡ 0) ⊎ (count < number) → by seat_of number log ≡ []
