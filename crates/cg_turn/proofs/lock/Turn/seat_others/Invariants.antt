use Rattle.std.proofs.Common.{◌≡◌, ◌+◌, ◌≤◌, length, vec_capacity, []}
use Rattle.cg_turn.specs.declared.view.Phase.TheVariants.{Idle}
use Rattle.cg_turn.specs.Seats.{AreFrom, AreNew}
use Rattle.cg_turn.proofs.lock.Turn.seat_others.Given as goal

abbrev pub invariant-loop-count : goal.invariant-loop-count
invariant-loop-count g l = record {
  own : l.first.table_id ≡ l.self.table.shared.table_id;
  idle : (l.first.me.0.phase ≡ Idle) × (l.first.me.1 ≡ []);
  number : l.first.me.0.number ≡ 1;
  count : l.first.me.0.count ≡ l.count;
  seen : l.first.me.0.seen ≡ [];
  mine : l.first.me.0.mine ≡ [];
  gone : l.first.me.0.gone ≡ [];
  same_ground : l.first.me.0.seen_ground ≡ l.fn.first.me.0.seen_ground;
  others : AreFrom l.self.table.shared.table_id 2 l.list.items;
  fresh : AreNew l.fn.first.me.0.seen_ground l.list.items;
  long : length l.list.items + 1 ≡ l.count;
  room : l.seats ≤ vec_capacity l.list;
}
