-- The phases of a seat, and what is counted over all seats. chron's own.
use Rattle.std.specs.Prelude.{ℕ, ◌+◌, List, [], ◌∷◌}
use Rattle.cg_turn.specs.declared.view.Phase.{Phase}
use Rattle.cg_turn.specs.declared.view.Phase.TheVariants.{Idle, Waiting, Due, Fresh, Noted, Spent}

-- 1 until the seat has ended
abbrev pub live : Phase → ℕ
live Idle = 1
live Waiting = 1
live Due = 1
live Fresh = 1
live Noted = 1
live Spent = 0

-- 1 where the seat has a ticket
abbrev pub ticketed : Phase → ℕ
ticketed Idle = 0
ticketed Waiting = 1
ticketed Due = 1
ticketed Fresh = 1
ticketed Noted = 1
ticketed Spent = 0

-- 1 where the seat's ticket is served
abbrev pub serving : Phase → ℕ
serving Idle = 0
serving Waiting = 0
serving Due = 1
serving Fresh = 1
serving Noted = 1
serving Spent = 0

-- 1 where the seat has the slot
abbrev pub holding : Phase → ℕ
holding Idle = 0
holding Waiting = 0
holding Due = 0
holding Fresh = 1
holding Noted = 1
holding Spent = 0

-- what all elements count
abbrev pub total : {A : Type 0} → (A → ℕ) → List A → ℕ
total f [] = 0
total f (v ∷ vs) = f v + total f vs
