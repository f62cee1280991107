-- The rule of the lock, which holds between any two steps: its words, its slot, what its seats know. chron's own.
use Rattle.std.specs.Prelude.{◌≡◌, ◌≢◌, ℕ, ◌+◌, ◌%◌, ◌^◌, ◌<◌, ◌≤◌, ◌⊎◌, List, [], ◌∷◌, length, Option, Some}
use mathlib.Core.Option.{some, none}
use mathlib.Core.Option as maybe
use lib.ListN.{get_elem?}
use Rattle.atomic_table.specs.Table.{State}
use Rattle.cg_turn.specs.declared.view.View.{View}
use Rattle.cg_turn.specs.declared.view.Ended.{Ended}
use Rattle.cg_turn.specs.declared.view.Phase.{Phase}
use Rattle.cg_turn.specs.declared.view.Phase.TheVariants.{Idle, Waiting, Due, Fresh, Noted, Spent}
use Rattle.cg_turn.specs.Phases.{live, ticketed, holding, total}
use Rattle.cg_turn.specs.Logs.{by, StartsWith, HasNoOther}
use Rattle.cg_turn.specs.Views.{has_ticket, is_live}

module _ {G E : Type 0} where
  -- a ticket that waits is one of those drawn and not passed, and one that is due is the one served
  abbrev pub InPhase : ℕ → ℕ → View G E → Phase → Type 0
  InPhase drawn served v Idle = Unit {0}
  InPhase drawn served v Waiting = (served ≤ v.ticket) × (v.ticket < drawn)
  InPhase drawn served v Due = (v.ticket ≡ served) × (v.ticket < drawn)
  InPhase drawn served v Fresh = (v.ticket ≡ served) × (v.ticket < drawn)
  InPhase drawn served v Noted = (v.ticket ≡ served) × (v.ticket < drawn)
  InPhase drawn served v Spent = Unit {0}

  -- what a seat knows is true of the log
  pub record Sits
      (seat_of : E → ℕ)
      (drawn served count : ℕ)
      (gone : List (Ended G E))
      (log_ground : G)
      (log : List E)
      (v : View G E)
      : Type 0 where
    pub at : InPhase drawn served v v.phase
    -- its number is one of those made, and the first seat knows how many they are, and which have ended
    pub low : 1 ≤ live v.phase → 1 ≤ v.number
    pub high : 1 ≤ live v.phase → v.number ≤ count
    pub counts : 1 ≤ live v.phase → v.number ≡ 1 → (v.count ≡ count) × (v.gone ≡ gone)
    -- it has seen a beginning of the log, and all of it while it has the slot
    pub same_ground : 1 ≤ live v.phase → v.seen_ground ≡ Some log_ground
    pub seen : 1 ≤ live v.phase → StartsWith log v.seen
    pub whole : 1 ≤ holding v.phase → v.seen ≡ log
    -- its entries in the log, and in what it has seen, are those that it made
    pub own : 1 ≤ live v.phase → by seat_of v.number log ≡ v.mine
    pub own_seen : 1 ≤ live v.phase → by seat_of v.number v.seen ≡ v.mine
    pub not_gone : 1 ≤ live v.phase → (k : ℕ) (x : Ended G E) → get_elem? gone k ≡ some x → v.number ≢ x.number

  -- two seats have different numbers, and different tickets
  pub record Apart (v w : View G E) : Type 0 where
    pub numbers : 1 ≤ live v.phase → 1 ≤ live w.phase → v.number ≢ w.number
    pub tickets : 1 ≤ ticketed v.phase → 1 ≤ ticketed w.phase → v.ticket ≢ w.ticket

  -- what a seat that has ended knew is true of the log
  pub record IsEnded (seat_of : E → ℕ) (count : ℕ) (log_ground : G) (log : List E) (x : Ended G E) : Type 0 where
    pub high : x.number ≤ count
    pub same_ground : x.seen_ground ≡ Some log_ground
    pub seen : StartsWith log x.seen
    pub own : by seat_of x.number log ≡ x.mine

  -- the log has what the first seat knows, of itself and of those that have ended, and no other entry
  pub record HasAll (seat_of : E → ℕ) (log_ground : G) (log : List E) (first : View G E) : Type 0 where
    pub same_ground : first.seen_ground ≡ Some log_ground
    pub seen : StartsWith log first.seen
    pub own : by seat_of 1 log ≡ first.mine
    pub ends : (k : ℕ) (x : Ended G E) → get_elem? first.gone k ≡ some x → IsEnded seat_of first.count log_ground log x
    pub no_other : HasNoOther seat_of first.count log

module _ {V G E : Type 0} where
  -- the value is in the slot, with the log, and no seat has the slot
  abbrev pub IsHome :
      (V → G) → (V → List E) → G → List E → List (maybe.Option (Option V)) → List (View G E) → Type 0
  IsHome ground_of entries log_ground log homes views =
      (x : V) × (homes ≡ some (Some x) ∷ []) × (ground_of x ≡ log_ground) × (entries x ≡ log)
      × ((j : ℕ) (v : View G E) → get_elem? views j ≡ some v → holding v.phase ≡ 0)

  -- a seat has the slot
  abbrev pub IsOut : List (maybe.Option (Option V)) → List (View G E) → Type 0
  IsOut homes views =
      (j : ℕ) × (v : View G E) × (get_elem? views j ≡ some v) × (holding v.phase ≡ 1) × (homes ≡ none ∷ [])

  -- the rule: how many tickets were drawn and served, how many seats were made, which have ended, and the log
  pub record Turned
      (ground_of : V → G)
      (entries : V → List E)
      (seat_of : E → ℕ)
      (s : State (Option V) (View G E))
      : Type 0 where
    pub drawn : ℕ
    pub served : ℕ
    pub count : ℕ
    pub gone : List (Ended G E)
    pub log_ground : G
    pub log : List E
    -- tickets are counted modulo 2^64
    pub words : s.words ≡ (drawn % 2 ^ 64) ∷ (served % 2 ^ 64) ∷ length log ∷ []
    -- as many are held as were drawn and not served, by seats of which there are at most eight
    pub tickets : total has_ticket s.views + served ≡ drawn
    pub seats : total is_live s.views + length gone ≡ count
    pub few : count ≤ 8
    pub slot : IsHome ground_of entries log_ground log s.homes s.views ⊎ IsOut s.homes s.views
    -- what each seat knows is true, and no two are the same
    pub each : (j : ℕ) (v : View G E) → get_elem? s.views j ≡ some v
        → Sits seat_of drawn served count gone log_ground log v
    pub apart : (i j : ℕ) (v w : View G E) → i ≢ j
        → get_elem? s.views i ≡ some v → get_elem? s.views j ≡ some w → Apart v w
    -- what those knew that have ended is true, and no entry is of a number that no seat has
    pub ends : (k : ℕ) (x : Ended G E) → get_elem? gone k ≡ some x → IsEnded seat_of count log_ground log x
    pub no_other : HasNoOther seat_of count log

  -- wherever the rule holds, a seat that has the turn is the only one
  abbrev pub IsExclusive : (V → G) → (V → List E) → (E → ℕ) → Type 0
  IsExclusive ground_of entries seat_of =
      (s : State (Option V) (View G E)) → Turned ground_of entries seat_of s → (i j : ℕ) (v w : View G E) → i ≢ j
      → get_elem? s.views i ≡ some v → get_elem? s.views j ≡ some w → holding v.phase ≡ 1 → holding w.phase ≡ 0
