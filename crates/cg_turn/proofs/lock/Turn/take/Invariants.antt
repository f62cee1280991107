use Rattle.std.proofs.Common.{◌≡◌, ◌%◌, ◌^◌, []}
use Rattle.cg_turn.specs.declared.view.Phase.TheVariants.{Waiting}
use Rattle.cg_turn.specs.Seats.{StaysAt, seen_of, made_of}
use Rattle.cg_turn.proofs.lock.Turn.take.Given as goal

abbrev pub invariant-loop : goal.invariant-loop
invariant-loop g l = record {
  lock : l.shared.table_id ≡ l.self.table.shared.table_id;
  own : l.seat.seat.table_id ≡ l.self.table.shared.table_id;
  waiting : l.seat.seat.me.0.phase ≡ Waiting;
  empty : l.seat.seat.me.1 ≡ [];
  ticket : l.ticket ≡ l.seat.seat.me.0.ticket % 2 ^ 64;
  stays : StaysAt l.fn.seat l.seat;
  seen : seen_of l.seat ≡ seen_of l.fn.seat;
  made : made_of l.seat ≡ made_of l.fn.seat;
}
