-- What each kind of step tells the seat that makes it. chron's own.
use Rattle.std.specs.Prelude.{◌≡◌, ◌≢◌, ℕ, ◌%◌, ◌^◌, List, [], ◌∷◌, ◌++◌, length, drop, Option, Some}
use Rattle.atomic_table.specs.Table.{Me, Step}
use Rattle.cg_turn.specs.declared.view.View.{View}
use Rattle.cg_turn.specs.declared.view.Phase.TheVariants.{Idle, Waiting, Due, Fresh, Noted}
use Rattle.cg_turn.specs.Logs.{by, StartsWith}
use Rattle.cg_turn.specs.Views.{in_phase, with_log}

-- a seat with what it knows, and the slot if it has it
abbrev pub Sitter : Type 0 → Type 0 → Type 0 → Type 0
Sitter V G E = Me (Option V) (View G E)

module _ {V G E : Type 0} where
  -- a ticket was drawn
  abbrev pub Draws : Step (Option V) → Sitter V G E → ℕ → Sitter V G E → Type 0
  Draws st m n m' = (t : ℕ) × (n ≡ t % 2 ^ 64) × (m'.0 ≡ in_phase m.0 Waiting t) × (m'.1 ≡ m.1)

  -- the seat is due where its ticket is served, and else stays as it is
  abbrev pub Looks : Step (Option V) → Sitter V G E → ℕ → Sitter V G E → Type 0
  Looks st m n m' =
      (n ≡ m.0.ticket % 2 ^ 64 → (m'.0 ≡ in_phase m.0 Due m.0.ticket) × (m'.1 ≡ m.1))
      × (n ≢ m.0.ticket % 2 ^ 64 → (m'.0 ≡ m.0) × (m'.1 ≡ m.1))

  -- the seat has the slot, whose value has the ground that it knows, and a log that begins with all that it had seen;
  -- its entries in that log, and in what it had seen, are those that it made
  abbrev pub LoadsLength : (V → G) → (V → List E) → (E → ℕ) → Step (Option V) → Sitter V G E → ℕ → Sitter V G E → Type 0
  LoadsLength ground_of entries seat_of st m n m' =
      (x : V) × (m'.0 ≡ with_log m.0 Fresh (entries x) m.0.mine) × (m'.1 ≡ (0, Some x) ∷ [])
      × (m.0.seen_ground ≡ Some (ground_of x)) × StartsWith (entries x) m.0.seen
      × (by seat_of m.0.number (entries x) ≡ m.0.mine) × (by seat_of m.0.number m.0.seen ≡ m.0.mine)

  -- what the seat has seen is the log of the value in the slot, and what is new in it is the seat's
  abbrev pub StoresLength : (V → List E) → Step (Option V) → Sitter V G E → ℕ → Sitter V G E → Type 0
  StoresLength entries st m n m' =
      (y : V) × (m.1 ≡ (0, Some y) ∷ [])
      × (m'.0 ≡ with_log m.0 Noted (entries y) (m.0.mine ++ drop (length m.0.seen) (entries y))) × (m'.1 ≡ m.1)

  -- the slot is given, and the seat is idle
  abbrev pub Passes : Step (Option V) → Sitter V G E → ℕ → Sitter V G E → Type 0
  Passes st m n m' = (m'.0 ≡ in_phase m.0 Idle 0) × (m'.1 ≡ [])
