use Rattle.std.proofs.Common.{◌∙◌, Bool, subst, arith}
use Rattle.std.specs.Arc.{arc_value}
use Rattle.cg_session.specs.Calibration.{calibration_of}
use Rattle.cg_interleaving.specs.Taking.{HasTurned}
use Rattle.cg_interleaving.proofs.EndLemmas.{same_length}
use Rattle.cg_interleaving.proofs.FinishLemmas.{one_more_often, finished}
use Rattle.cg_interleaving.proofs.sessions.Sessions.finish.Goals as goal

pub loop-alloc-preserved : goal.loop-alloc-preserved
loop-alloc-preserved g c =
    let was = c.loop-alloc.invariant in
    let step = c.advance.ensures in
    let calibration = calibration_of (arc_value c.args.curves.now) in
    record {
      can = step.can;
      same = step.same ∙ was.same;
      start = step.start ∙ was.start;
      taken = λ world here.
          let has = was.taken world here in
          let T : Bool → Type 0 = λ b. HasTurned calibration c.args.place b has.now c.advance.new.self in
          one_more_often calibration c.args.place world _ _ has (subst T c.loop-alloc-test.true (step.taken has.now has.here));
      others = λ other ne over. step.others other ne (was.others other ne over);
    }

pub returns-clause-taken : goal.returns-clause-taken
returns-clause-taken g c =
    let was = c.loop-alloc.invariant in
    let step = c.advance.ensures in
    let calibration = calibration_of (arc_value c.args.curves.now) in
    let count = same_length c.advance.new.self.list.items c.args.self.now.list.items (step.same ∙ was.same) in
    λ world here.
    let has = was.taken world here in
    let T : Bool → Type 0 = λ b. HasTurned calibration c.args.place b has.now c.advance.new.self in
    finished calibration c.args.place world _ c.advance.new.self has (subst T c.loop-alloc-test.false (step.taken has.now has.here)) (omega (arith, count, c.requires.within)) (step.over c.loop-alloc-test.false)
