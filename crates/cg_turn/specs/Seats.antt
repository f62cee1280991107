-- What a contract says of a lock's seats: which lock they are of, and what they know. chron's own.
use Rattle.std.specs.Prelude.{◌≡◌, ℕ, ◌+◌, ◌<◌, List, [], ◌∷◌, length, slice_index_or, Option, Some, None}
use Rattle.atomic_table.specs.Seated.{TableId}
use Rattle.cg_turn.specs.declared.logged.Logged.{Ghosts}
use Rattle.cg_turn.specs.declared.lock.Turn.{Turn}
use Rattle.cg_turn.specs.declared.lock.TurnSeat.{TurnSeat}
use Rattle.cg_turn.specs.declared.view.Ended.{Ended}
use Rattle.cg_turn.specs.declared.view.Phase.TheVariants.{Idle, Fresh}
use Rattle.cg_turn.specs.Views.{at_end}
use Rattle.cg_turn.specs.Logs.{by, StartsWith}

-- which lock it is
abbrev pub lock_of : {V G E : Type 0} → Turn V G E → TableId
lock_of turn = turn.table.shared.table_id

module _ {V G E : Type 0} {g : Ghosts V G E} where
  -- the seat's number
  abbrev pub number_of : TurnSeat V G E g → ℕ
  number_of s = s.seat.me.0.number

  -- the ground of the log that the seat has seen
  abbrev pub ground_of : TurnSeat V G E g → Option G
  ground_of s = s.seat.me.0.seen_ground

  -- the entries of the log that the seat has seen
  abbrev pub seen_of : TurnSeat V G E g → List E
  seen_of s = s.seat.me.0.seen

  -- the entries that the seat made
  abbrev pub made_of : TurnSeat V G E g → List E
  made_of s = s.seat.me.0.mine

  -- the seat is one of the lock
  abbrev pub IsOf : TableId → TurnSeat V G E g → Type 0
  IsOf lock s = s.seat.table_id ≡ lock

  -- the seat doesn't have the turn
  abbrev pub IsIdle : TurnSeat V G E g → Type 0
  IsIdle s = (s.seat.me.0.phase ≡ Idle) × (s.seat.me.1 ≡ [])

  -- the seat has the turn, and the value is out
  abbrev pub HasTurn : TurnSeat V G E g → Type 0
  HasTurn s = (s.seat.me.0.phase ≡ Fresh) × (s.seat.me.1 ≡ (0, None) ∷ [])

  -- the seat is one of the lock's, and may take its turn
  abbrev pub IsReady : TableId → TurnSeat V G E g → Type 0
  IsReady lock s = IsOf lock s × IsIdle s

  -- a seat of the lock with this number, which doesn't have the turn
  abbrev pub IsSeat : TableId → ℕ → TurnSeat V G E g → Type 0
  IsSeat lock number s = IsOf lock s × IsIdle s × (number_of s ≡ number)

  -- the first seat, which knows how many were made, and that none has ended
  abbrev pub IsFirst : TableId → ℕ → TurnSeat V G E g → Type 0
  IsFirst lock count s = IsSeat lock 1 s × (s.seat.me.0.count ≡ count) × (s.seat.me.0.gone ≡ [])

  -- seats of the lock with the numbers from this one on
  abbrev pub AreFrom : TableId → ℕ → List (TurnSeat V G E g) → Type 0
  AreFrom lock number [] = Unit {0}
  AreFrom lock number (s ∷ ss) = IsSeat lock number s × AreFrom lock (number + 1) ss

  -- all seats of the lock, one at least, none of which has the turn: the k-th has the number k, from 1
  abbrev pub AreSeats : TableId → List (TurnSeat V G E g) → Type 0
  AreSeats lock [] = ⊥
  AreSeats lock (s ∷ ss) = IsFirst lock (length ss + 1) s × AreFrom lock 2 ss

  -- the seat has seen a log with this ground and no entry, and has made none
  abbrev pub IsNew : Option G → TurnSeat V G E g → Type 0
  IsNew log_ground s = (ground_of s ≡ log_ground) × (seen_of s ≡ []) × (made_of s ≡ [])

  -- each is so
  abbrev pub AreNew : Option G → List (TurnSeat V G E g) → Type 0
  AreNew log_ground [] = Unit {0}
  AreNew log_ground (s ∷ ss) = IsNew log_ground s × AreNew log_ground ss

  -- the seat stays what it was to the lock, but for what it has seen and made
  abbrev pub StaysAt : TurnSeat V G E g → TurnSeat V G E g → Type 0
  StaysAt old new =
      IsOf old.seat.table_id new × (number_of new ≡ number_of old) × (ground_of new ≡ ground_of old)
      × (new.seat.me.0.count ≡ old.seat.me.0.count) × (new.seat.me.0.gone ≡ old.seat.me.0.gone)

  -- the same, and it doesn't have the turn
  abbrev pub StaysIdle : TurnSeat V G E g → TurnSeat V G E g → Type 0
  StaysIdle old new = StaysAt old new × IsIdle new

  -- that of each seat
  abbrev pub AllStayIdle : List (TurnSeat V G E g) → List (TurnSeat V G E g) → Type 0
  AllStayIdle old new =
      (k : ℕ) (other : TurnSeat V G E g) → k < length old
      → StaysIdle (slice_index_or old k other) (slice_index_or new k other)

  -- the log has the ground that the seat knows, it begins with all that the seat has seen, and the seat's entries in it
  -- are those that it made, each once and in their order
  abbrev pub Has : (E → ℕ) → G → List E → TurnSeat V G E g → Type 0
  Has seat_of log_ground log s =
      (ground_of s ≡ Some log_ground) × StartsWith log (seen_of s) × (by seat_of (number_of s) log ≡ made_of s)

  -- that of each seat
  abbrev pub HasEach : (E → ℕ) → G → List E → List (TurnSeat V G E g) → Type 0
  HasEach seat_of log_ground log [] = Unit {0}
  HasEach seat_of log_ground log (s ∷ ss) = Has seat_of log_ground log s × HasEach seat_of log_ground log ss

  -- what the seat knows when it ends
  abbrev pub end_of : TurnSeat V G E g → Ended G E
  end_of s = at_end s.seat.me.0
