use Rattle.std.proofs.Common.{rules, arith}
use Rattle.cg_turn.proofs.SplitLemmas.{splits}
use Rattle.cg_turn.proofs.lock.Turn.seat_next.Goals as goal

pub split_seat-seat-requires : goal.split_seat-seat-requires
split_seat-seat-requires g c =
    let counts = c.requires.counts in
    let made = counts.1 in
    let high = counts.2 in
    (search rules, search rules, splits _ _ _ _ _ _ _ c.args.first.now.me.0 c.requires.idle.0 counts.0 (omega arith))
