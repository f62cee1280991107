use Rattle.cg_turn.specs.Seats.{lock_of, IsReady, StaysIdle}
use Rattle.tests_turn.proofs.writing.write_lines.Given as goal

abbrev pub invariant-loop-before : goal.invariant-loop-before
invariant-loop-before g l = record {
  ready : IsReady (lock_of l.turn) l.seat;
  stays : StaysIdle l.fn.seat l.seat;
}
