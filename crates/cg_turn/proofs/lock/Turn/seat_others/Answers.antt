use Rattle.std.proofs.Common.{arith, ◌∙◌, ap, ◌+◌, ◌∷◌, [], ℕ, length-append, subst, Option}
use Rattle.atomic_table.specs.Table.{Me}
use Rattle.cg_turn.specs.declared.view.View.{View}
use Rattle.cg_turn.specs.Seats.{IsSeat}
use Rattle.cg_turn.proofs.SeatListLemmas.{from_more, new_more}
use Rattle.cg_turn.proofs.lock.Turn.seat_others.Goals as goal

pub loop-count-preserved : goal.loop-count-preserved
loop-count-preserved g c =
    let V = g.row.V.Denot in
    let Sight = View g.row.V-Ground.Denot g.row.V-Entry.Denot in
    let i = c.loop-count.invariant in
    let lock = c.args.self.now.table.shared.table_id in
    let e = c.seat_next-next.ensures in
    let view = ap (λ (m : Me (Option V) Sight). m.0) e.first in
    let next = c.seat_next-next.result in
    let here = subst (λ l. IsSeat l (c.loop-count.count + 1) next) i.own e.next in
    record {
      own = e.own ∙ i.own;
      idle = (ap (λ (v : Sight). v.phase) view ∙ i.idle.0, ap (λ (m : Me (Option V) Sight). m.1) e.first ∙ i.idle.1);
      number = ap (λ (v : Sight). v.number) view ∙ i.number;
      count = ap (λ (v : Sight). v.count) view ∙ ap (λ n. n + 1) i.count;
      seen = ap (λ (v : Sight). v.seen) view ∙ i.seen;
      mine = ap (λ (v : Sight). v.mine) view ∙ i.mine;
      gone = ap (λ (v : Sight). v.gone) view ∙ i.gone;
      same_ground = ap (λ (v : Sight). v.seen_ground) view ∙ i.same_ground;
      others = rw c.push_reserved.ensures.items (from_more lock 2 _ next i.others (subst (λ (n : ℕ). IsSeat lock n next) (let k = i.long in omega arith) here));
      fresh = rw c.push_reserved.ensures.items (new_more c.args.first.me.0.seen_ground _ next i.fresh (e.new.0 ∙ i.same_ground, e.new.1, e.new.2));
      long = rw c.push_reserved.ensures.items (omega (arith, i.long, length-append c.loop-count.list.items (c.seat_next-next.result ∷ [])));
      room = rw c.push_reserved.ensures.capacity i.room;
    }
