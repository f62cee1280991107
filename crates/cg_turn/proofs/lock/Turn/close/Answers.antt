use Rattle.std.proofs.Common.{◌∙◌, ap, sym, subst, List, ℕ, ◌+◌, length}
use lib.ListN.{get_elem?}
use Rattle.cg_turn.specs.declared.view.Ended.{Ended}
use Rattle.cg_turn.specs.Logs.{by, StartsWith, HasNoOther}
use Rattle.cg_turn.specs.Seats.{Has, lock_of}
use Rattle.cg_turn.proofs.SeatListLemmas.{has_each, each_of, first_of, one_less, all_gone}
use Rattle.cg_turn.proofs.lock.Turn.close.Goals as goal

pub close_with-requires-clause-all : goal.close_with-requires-clause-all
close_with-requires-clause-all g c =
    let last = c.join_others.new.first.seat.me.0 in
    let j = c.join_others.ensures in
    all_gone c.remove-first.new.self.items last.gone last.count j.gone j.seats

pub returns-clause-each : goal.returns-clause-each
returns-clause-each g c =
    let E = Ended g.row.V-Ground.Denot g.row.V-Entry.Denot in
    let seat_of = g.V.Logged.seat_of in
    let base = g.V.Logged.ground_of c.close_with.result in
    let log = g.V.Logged.entries c.close_with.result in
    let lock = lock_of c.args.self in
    let seats = c.args.seats.items in
    let one = c.remove-first in
    let j = c.join_others.ensures in
    let all = c.close_with.ensures in
    let others = has_each seat_of c.join_others.new.first.seat.me.0.count base log one.new.self.items (λ k x e. all.ends k x (ap (λ (l : List E). get_elem? l k) j.gone ∙ e)) in
    let own = ap (λ n. by seat_of n log) (first_of lock seats one.result one.ensures.value c.requires) ∙ (all.own ∙ j.made) in
    let first : Has seat_of base log one.result = (sym j.same_ground ∙ all.same_ground, subst (StartsWith log) j.seen all.seen, own) in
    each_of lock seat_of base log seats one.new.self.items one.result c.requires one.ensures.value one.ensures.items first others

pub returns-clause-no_other : goal.returns-clause-no_other
returns-clause-no_other g c =
    let seats = c.args.seats.items in
    let count = c.join_others.ensures.seats ∙ (ap (λ (l : List _). length l + 1) c.remove-first.ensures.items ∙ one_less (lock_of c.args.self) seats c.requires) in
    subst (λ (n : ℕ). HasNoOther g.V.Logged.seat_of n (g.V.Logged.entries c.close_with.result)) count c.close_with.ensures.no_other
