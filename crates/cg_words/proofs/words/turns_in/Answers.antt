use Rattle.std.proofs.Common.{arith}
use Rattle.cg_words.proofs.TurnLemmas.{are-turns, no-turn, many-turns}
use Rattle.cg_words.proofs.words.turns_in.Goals as goal

pub returns-in_default-clause-none : goal.returns-in_default-clause-none
returns-in_default-clause-none c = λ turns are. no-turn c.args.sessions c.args.list.now turns (rw c.in_default.is at c.in_ok-turns.ensures.none) are

pub returns-then-len-le-MAX_TURNS-clause-some : goal.returns-then-len-le-MAX_TURNS-clause-some
returns-then-len-le-MAX_TURNS-clause-some c =
    let read = rw c.in-Some.is at c.in_ok-turns.ensures.some in
    are-turns c.args.sessions c.args.list.now c.in-Some.turns.items read (omega (arith, c.in-Some.turns.ok.0))

pub returns-else-len-le-MAX_TURNS-clause-none : goal.returns-else-len-le-MAX_TURNS-clause-none
returns-else-len-le-MAX_TURNS-clause-none c = λ turns are.
    let read = rw c.in-Some.is at c.in_ok-turns.ensures.some in
    many-turns c.args.sessions c.args.list.now c.in-Some.turns.items turns read (omega (arith, c.in-Some.turns.ok.0)) are
