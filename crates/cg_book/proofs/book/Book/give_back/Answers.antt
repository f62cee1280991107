use Rattle.std.proofs.Common.{◌+◌, ◌≤◌, arith, vec_len, vec_capacity}
use Rattle.std.specs.Arc.{arc_value}
use Rattle.std.proofs.lemmas.List.{map-append}
use Rattle.cg_cache.specs.Deeds.{GiveBack}
use Rattle.cg_cache.specs.Slots.{cached_of}
use Rattle.cg_sharing.specs.Journal.{Do}
use Rattle.cg_book.proofs.ReplayLemmas.{may-now}
use Rattle.cg_book.proofs.ClaimLemmas.{give_back-noted}
use Rattle.cg_book.proofs.book.Book.give_back.Goals as goal

pub invariant_of-self : goal.invariant_of-self
invariant_of-self g c =
    let may = may-now _ _ c.args.seat (Do (GiveBack (arc_value c.args.ticket.code))) c.self.view_is c.self.invariant.0 c.requires.may in
    let before = c.self.invariant.1.room in
    let room : vec_len c.push_reserved.new.self + c.self.inside.claims ≤ vec_capacity c.push_reserved.new.self + 1 =
    omega (arith, c.push_reserved.ensures.len, c.push_reserved.ensures.capacity) in
    rw (c.push_reserved.ensures.items, map-append, c.give_back-code.ensures.code)
    (give_back-noted {before = cached_of c.self.inside.cache} {after = cached_of c.give_back-code.new.self} c.args.seat (arc_value c.args.ticket.code) c.self.inside.claims
    (vec_len c.push_reserved.new.self) (vec_capacity c.push_reserved.new.self) may c.give_back-code.ensures.freed c.self.invariant.0 c.self.invariant.1.counted room)
