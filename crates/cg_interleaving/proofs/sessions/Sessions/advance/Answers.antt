use Rattle.std.proofs.Common.{List, refl, sym, subst, arith}
use Rattle.cg_curve.specs.Curves.{NamedCurve}
use Rattle.cg_session.specs.Session.{IsAt}
use Rattle.cg_session.specs.declared.session.Progress.TheVariants.{Moved, Ended, Stopped}
use Rattle.std.specs.Arc.{arc_value}
use Rattle.cg_session.specs.Calibration.{calibration_of}
use Rattle.cg_interleaving.proofs.StepLemmas.{at_get, seen_at, or_false, or_true, advanced_by}
use Rattle.cg_interleaving.proofs.sessions.Sessions.advance.Goals as goal

pub advance-requires-clause-seat : goal.advance-requires-clause-seat
advance-requires-clause-seat g c =
    let all = c.args.self.now in
    let s = c.index_mut.result.now in
    let at = at_get (calibration_of (arc_value c.args.curves.now)) all.book 1 all.list.items c.args.place s (seen_at all.list.items c.args.place s c.requires.within c.index_mut.ensures.value) c.requires.can.at in
    omega (arith, at.0)

pub advance-requires-clause-at : goal.advance-requires-clause-at
advance-requires-clause-at g c =
    let all = c.args.self.now in
    let s = c.index_mut.result.now in
    let A : List NamedCurve → Type 0 = λ curves. IsAt (calibration_of curves) all.book s in
    subst A (sym c.deref.ensures) (at_get (calibration_of (arc_value c.args.curves.now)) all.book 1 all.list.items c.args.place s (seen_at all.list.items c.args.place s c.requires.within c.index_mut.ensures.value) c.requires.can.at).1

pub returns-in-Moved : goal.returns-in-Moved
returns-in-Moved g c =
    let all = c.args.self.now in
    let s = c.index_mut.result.now in
    advanced_by c.deref.result.now (arc_value c.args.curves.now) c.args.place Moved all _ s c.advance.new.self c.deref.ensures c.requires.can (record {
      here = seen_at all.list.items c.args.place s c.requires.within c.index_mut.ensures.value;
      list = refl;
      came = c.in-Moved.ensures.came;
      at = c.advance.ensures.at;
      number = c.advance.ensures.same.0;
      script = c.advance.ensures.same.1;
      repeats = c.in-Moved.ensures.repeats;
      flag = sym (or_false all.stopped);
    })

pub returns-in-Ended : goal.returns-in-Ended
returns-in-Ended g c =
    let all = c.args.self.now in
    let s = c.index_mut.result.now in
    advanced_by c.deref.result.now (arc_value c.args.curves.now) c.args.place Ended all _ s c.advance.new.self c.deref.ensures c.requires.can (record {
      here = seen_at all.list.items c.args.place s c.requires.within c.index_mut.ensures.value;
      list = refl;
      came = c.in-Ended.ensures.came;
      at = c.advance.ensures.at;
      number = c.advance.ensures.same.0;
      script = c.advance.ensures.same.1;
      repeats = c.in-Ended.ensures.repeats;
      flag = sym (or_false all.stopped);
    })

pub returns-in-Stopped : goal.returns-in-Stopped
returns-in-Stopped g c =
    let all = c.args.self.now in
    let s = c.index_mut.result.now in
    advanced_by c.deref.result.now (arc_value c.args.curves.now) c.args.place Stopped all _ s c.advance.new.self c.deref.ensures c.requires.can (record {
      here = seen_at all.list.items c.args.place s c.requires.within c.index_mut.ensures.value;
      list = refl;
      came = c.in-Stopped.ensures.came;
      at = c.advance.ensures.at;
      number = c.advance.ensures.same.0;
      script = c.advance.ensures.same.1;
      repeats = c.in-Stopped.ensures.repeats;
      flag = sym (or_true all.stopped);
    })
