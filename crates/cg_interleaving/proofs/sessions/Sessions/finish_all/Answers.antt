use Rattle.std.proofs.Common.{◌∙◌, ℕ, suc, ◌+◌, ◌≡◌, subst, sym, arith}
use Rattle.std.specs.Arc.{arc_value}
use Rattle.cg_session.specs.Calibration.{calibration_of}
use Rattle.cg_interleaving.specs.Taking.{HaveRunOut}
use Rattle.cg_interleaving.proofs.EndLemmas.{same_length}
use Rattle.cg_interleaving.proofs.FinishLemmas.{out_more, all_out, over_next}
use Rattle.cg_interleaving.proofs.sessions.Sessions.finish_all.Goals as goal

pub loop-place-preserved : goal.loop-place-preserved
loop-place-preserved g c =
    let was = c.loop-place.invariant in
    let step = c.finish.ensures in
    let calibration = calibration_of (arc_value c.args.curves.now) in
    let place = c.loop-place.place in
    record {
      can = step.can;
      same = step.same ∙ was.same;
      start = step.start ∙ was.start;
      taken = λ world here.
          let out = was.taken world here in
          let next : place + 1 ≡ suc place = omega arith in
          let R : ℕ → Type 0 = λ n. HaveRunOut calibration n world c.finish.new.self in
          subst R (sym next) (out_more calibration place world c.loop-place.self c.finish.new.self out (omega (arith, same_length c.loop-place.self.list.items c.args.self.now.list.items was.same, c.loop-place-test.true, c.len-place-end.ensures, c.args.self.now.list.ok.0)) (step.taken out.now out.here));
      over = over_next calibration place c.loop-place.self c.finish.new.self was.over step.others step.over;
    }

pub returns-clause-taken : goal.returns-clause-taken
returns-clause-taken g c =
    let was = c.loop-place.invariant in
    let count = same_length c.loop-place.self.list.items c.args.self.now.list.items was.same in
    λ world here.
    all_out (calibration_of (arc_value c.args.curves.now)) c.loop-place.place world c.loop-place.self (was.taken world here) (omega (arith, count, c.loop-place-test.false, c.len-place-end.ensures, c.args.self.now.list.ok.0))
