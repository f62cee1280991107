use Rattle.std.proofs.Common.{◌∙◌, sym}
use Rattle.cg_turn.specs.Seats.{lock_of}
use Rattle.cg_turn.proofs.StayLemmas.{ready, seats_stay}
use Rattle.tests_turn.proofs.SliceLemmas.{written}
use Rattle.tests_turn.proofs.writing.write_side_by_side.Goals as goal

pub write_each-requires-after_bounds : goal.write_each-requires-after_bounds
write_each-requires-after_bounds g c κs within =
    rw c.as_mut_slice.ensures.value (ready (lock_of c.args.turn.now) c.args.seats.now.items c.requires)

pub returns : goal.returns
returns g c =
    let new = c.write_each.new.seats in
    let long = c.write_each.auto.seats in
    rw (written new c.args.seats.now.items c.args.seats.now.len (sym c.as_mut_slice.ensures.len ∙ sym long))
    (seats_stay (lock_of c.args.turn.now) c.as_mut_slice.result.now new long c.write_each.ensures (rw c.as_mut_slice.ensures.value c.requires))
