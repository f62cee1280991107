use Rattle.std.proofs.Common.{sym, subst}
use Rattle.cg_turn.specs.Seats.{lock_of, IsReady}
use Rattle.cg_turn.proofs.StayLemmas.{ready, one_stays}
use Rattle.tests_turn.proofs.writing.write_at.Goals as goal

pub write_line-requires : goal.write_line-requires
write_line-requires g c =
    let lock = lock_of c.args.turn.now in
    subst (IsReady lock) (sym c.index_mut.ensures.value)
    (ready lock c.args.seats.now.items c.requires.seats c.args.place c.index_mut.result.now c.requires.place)

pub returns : goal.returns
returns g c =
    one_stays (lock_of c.args.turn.now) c.args.seats.now.items c.args.place c.index_mut.result.now c.write_line.new.seat c.requires.place c.index_mut.ensures.value c.write_line.ensures.stays c.requires.seats
