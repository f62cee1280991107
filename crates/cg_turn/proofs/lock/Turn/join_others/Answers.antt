use Rattle.std.proofs.Common.{rules, ◌∙◌, ap, sym, ◌++◌, ◌∷◌, [], List, map, Option, append_assoc}
use Rattle.std.proofs.lemmas.List.{map-append}
use Rattle.atomic_table.specs.Table.{Me}
use Rattle.cg_turn.specs.declared.view.View.{View}
use Rattle.cg_turn.specs.declared.view.Ended.{Ended}
use Rattle.cg_turn.specs.Seats.{end_of}
use Rattle.cg_turn.proofs.JoinLemmas.{joins}
use Rattle.cg_turn.proofs.SeatListLemmas.{from_less}
use Rattle.cg_turn.proofs.lock.Turn.join_others.Goals as goal

pub join_seat-requires : goal.join_seat-requires
join_seat-requires g c =
    let i = c.loop-other.invariant in
    let lock = c.args.self.now.table.shared.table_id in
    let all = rw c.in-Some.ensures.items at i.others in
    let last = from_less lock 2 _ c.in-Some.other all in
    let one = c.loop-other.first.seat.me.0 in
    let two = c.in-Some.other.seat.me.0 in
    (i.own, last.1.0, last.1.1.1, search rules, joins _ _ _ _ _ _ _ one _ two i.idle.0 i.number last.1.1.0)

pub loop-other-preserved : goal.loop-other-preserved
loop-other-preserved g c =
    let G = g.row.V-Ground.Denot in
    let E = g.row.V-Entry.Denot in
    let V = g.row.V.Denot in
    let Sight = View G E in
    let i = c.loop-other.invariant in
    let lock = c.args.self.now.table.shared.table_id in
    let all = rw c.in-Some.ensures.items at i.others in
    let last = from_less lock 2 _ c.in-Some.other all in
    let me = c.join_seat.ensures.2 in
    let view = ap (λ (m : Me (Option V) Sight). m.0) me in
    let left = map end_of c.pop.new.self.items in
    let old = rw (c.in-Some.ensures.items, map-append) at i.gone in
    record {
      own = c.join_seat.ensures.0 ∙ i.own;
      idle = (ap (λ (v : Sight). v.phase) view ∙ i.idle.0, ap (λ (m : Me (Option V) Sight). m.1) me ∙ i.idle.1);
      number = ap (λ (v : Sight). v.number) view ∙ i.number;
      same_ground = ap (λ (v : Sight). v.seen_ground) view ∙ i.same_ground;
      seen = ap (λ (v : Sight). v.seen) view ∙ i.seen;
      made = ap (λ (v : Sight). v.mine) view ∙ i.made;
      seats = ap (λ (v : Sight). v.count) view ∙ i.seats;
      others = last.0;
      gone = ap (λ (gs : List (Ended G E)). left ++ gs) (ap (λ (v : Sight). v.gone) view)
          ∙ (sym (append_assoc left (end_of c.in-Some.other ∷ []) c.loop-other.first.seat.me.0.gone) ∙ old);
    }
