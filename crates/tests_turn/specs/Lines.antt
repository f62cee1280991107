-- Lines of a sheet. chron's own.
use Rattle.std.specs.Prelude.{◌≡◌, ℕ, ◌++◌, ◌∷◌, [], List, Bool, MatchBool}
use Rattle.tests_turn.specs.declared.sheet.Line.{Line}

-- the lines that a seat made are one more where it wrote, and else the same
abbrev pub Writes : ℕ → ℕ → Bool → List Line → List Line → Type 0
Writes seat before wrote old new =
    MatchBool wrote (new ≡ old ++ record { seat = seat; before = before } ∷ []) (new ≡ old)
