use Rattle.cg_turn.specs.Seats.{lock_of, AreSeats}
use Rattle.tests_turn.proofs.writing.write_in_turns.Given as goal

abbrev pub invariant-loop-place : goal.invariant-loop-place
invariant-loop-place g l = record { seats : AreSeats (lock_of l.turn) l.seats.items }
