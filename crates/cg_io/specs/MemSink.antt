-- A sink in memory. chron's own.
use Rattle.std.specs.Prelude.{◌≡◌, ◌⊎◌, ℕ, ◌+◌, ◌-◌, ◌≤◌, ◌<◌, ◌^◌, List, [], ◌++◌, length, take, Result, Ok, Err}
use Rattle.cg_io.specs.Causes.{one_more}
use Rattle.cg_io.specs.Calls.{Counted, no_calls, after_call, IsToFail}
use Rattle.cg_io.specs.declared.sink.SinkFault.{SinkFault}

-- the bytes taken, the writes, the most bytes that a write takes, the room left, and how many writes failed
pub record SinkState : Type 0 where
  pub taken : List ℕ
  pub calls : Counted
  pub most : ℕ
  pub room : ℕ
  pub faults : ℕ

-- the room left is reserved, a sink holds no more than its whole room, and a write takes something
pub record IsHeld (whole len room most capacity : ℕ) : Type 0 where
  pub reserved : len + room ≤ capacity
  pub bounded : len + room ≤ whole
  pub some : 0 < most

-- nothing taken and no room yet, with no bound on a write
abbrev pub empty_sink : SinkState
empty_sink = record { taken = []; calls = no_calls; most = 2 ^ 64 - 1; room = 0; faults = 0 }

-- the bytes of a piece that one write is for
abbrev pub cut : SinkState → List ℕ → List ℕ
cut sink piece = take sink.most piece

-- the cut piece is past the room, or the next write is one that is to fail
abbrev pub Refuses : SinkState → List ℕ → Type 0
Refuses sink piece = (sink.room < length (cut sink piece)) ⊎ IsToFail sink.calls

-- the sink after a write that took these bytes
abbrev pub after_taking : SinkState → List ℕ → SinkState
after_taking sink bytes = record sink { taken = sink.taken ++ bytes; calls = after_call sink.calls; room = sink.room - length bytes }

-- the sink after a write that failed
abbrev pub after_fault : SinkState → SinkState
after_fault sink = record sink { calls = after_call sink.calls; faults = one_more sink.faults }

-- a write takes the whole cut piece or fails, by what the sink holds
abbrev pub Writes : SinkState → SinkState → List ℕ → Result ℕ SinkFault → Type 0
Writes old new piece (Ok n) = (Refuses old piece → ⊥) × (n ≡ length (cut old piece)) × (new ≡ after_taking old (cut old piece))
Writes old new piece (Err fault) = Refuses old piece × (new ≡ after_fault old)
