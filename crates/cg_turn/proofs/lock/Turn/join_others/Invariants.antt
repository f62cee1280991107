use Rattle.std.proofs.Common.{◌≡◌, ◌+◌, ◌++◌, length, map, vec_len}
use Rattle.cg_turn.specs.Seats.{number_of, ground_of, seen_of, made_of, IsIdle, AreFrom, end_of}
use Rattle.cg_turn.proofs.lock.Turn.join_others.Given as goal

abbrev pub invariant-loop-other : goal.invariant-loop-other
invariant-loop-other g l = record {
  own : l.first.seat.table_id ≡ l.self.table.shared.table_id;
  idle : IsIdle l.first;
  number : number_of l.first ≡ 1;
  same_ground : ground_of l.first ≡ ground_of l.fn.first;
  seen : seen_of l.first ≡ seen_of l.fn.first;
  made : made_of l.first ≡ made_of l.fn.first;
  seats : l.first.seat.me.0.count ≡ length l.fn.others.items + 1;
  others : AreFrom l.self.table.shared.table_id 2 l.others.items;
  gone : map end_of l.others.items ++ l.first.seat.me.0.gone ≡ map end_of l.fn.others.items;
}

abbrev pub decreases-loop-other : goal.decreases-loop-other
decreases-loop-other g l = vec_len l.others
