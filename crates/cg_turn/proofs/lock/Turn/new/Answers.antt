use Rattle.cg_turn.proofs.EndLemmas.{opens}
use Rattle.cg_turn.proofs.lock.Turn.new.Goals as goal

pub new-requires : goal.new-requires
new-requires g c =
    rw (c.push_reserved.ensures.items, (c.in_ok-slots.ensures {u = tt}).items, c.of-key.ensures)
    (opens _ _ _ g.V.Logged.ground_of g.V.Logged.entries g.V.Logged.seat_of c.args.value c.requires.log)
