use Rattle.std.proofs.Common.{false, sym, subst, arith}
use Rattle.std.specs.Arc.{arc_value}
use Rattle.cg_session.specs.Port.{Seen}
use Rattle.cg_interleaving.specs.Taking.{AreAt}
use Rattle.cg_interleaving.proofs.EndLemmas.{begin_world, script_count}
use Rattle.cg_interleaving.proofs.sessions.Sessions.new.Goals as goal

pub returns-clause-can : goal.returns-clause-can
returns-clause-can c = λ calibration.
    let list = c.in_ok-list.list.items in
    let count = script_count list c.args.scripts.items c.in_ok-list.ensures.read in
    let B : Seen → Type 0 = λ book. AreAt calibration book 1 list in
    record {
      few = omega (arith, count, c.requires.few);
      at = subst B (sym c.in_ok-book.ensures) (c.in_ok-list.ensures.at calibration c.args.models c.args.capacity (arc_value c.in_ok-origin.origin));
      stopped = sym c.in_ok-list.ensures.going;
    }

pub returns-clause-here : goal.returns-clause-here
returns-clause-here c = λ calibration.
    begin_world calibration c.args.models c.args.capacity (arc_value c.in_ok-origin.origin) c.args.scripts.items record { book = c.in_ok-book.book; list = c.in_ok-list.list; stopped = false } c.in_ok-book.ensures c.in_ok-list.ensures.read
    c.in_ok-list.ensures.going
