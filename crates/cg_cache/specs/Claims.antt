-- What a claim answers and hands out. chron's own.
use Rattle.std.specs.Prelude.{ℕ, ◌≡◌, List, Option, Some, None}
use Rattle.std.specs.Arc.{arc_value}
use Rattle.cg_cache.specs.declared.ticket.Claimed.{Claimed}
use Rattle.cg_cache.specs.declared.ticket.Claimed.TheVariants.{Hit, Mine, Busy, NoRoom, NoMemory}
use Rattle.cg_cache.specs.Cached as cached
use Rattle.cg_cache.specs.Cached.{Answer}

module _ {P : Type 0} where
  -- none for want of memory
  abbrev pub answered : Claimed P → Option Answer
  answered (Hit payload) = Some cached.Hit
  answered (Mine ticket) = Some cached.Mine
  answered (Busy seat) = Some (cached.Busy seat)
  answered NoRoom = Some cached.NoRoom
  answered NoMemory = None

  module _ {O : Type 0} (code_of : P → List ℕ) (origin_of : P → O) where
    -- a payload has the code and the origin, a ticket the code and the seat
    abbrev pub Hands : O → ℕ → List ℕ → Claimed P → Type 0
    Hands origin seat code (Hit payload) =
        (code_of (arc_value payload) ≡ code) × (origin_of (arc_value payload) ≡ origin)
    Hands origin seat code (Mine ticket) = (arc_value ticket.code ≡ code) × (ticket.seat ≡ seat)
    Hands origin seat code (Busy other) = Unit {0}
    Hands origin seat code NoRoom = Unit {0}
    Hands origin seat code NoMemory = Unit {0}
