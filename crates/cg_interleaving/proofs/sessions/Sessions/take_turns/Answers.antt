use Rattle.std.proofs.Common.{◌∙◌, ◌<◌, List, ℕ, length, take, subst, sym, arith}
use Rattle.std.proofs.lemmas.List.{take_more}
use Rattle.std.specs.Arc.{arc_value}
use Rattle.cg_session.specs.Calibration.{calibration_of}
use Rattle.cg_interleaving.specs.Taking.{HaveTaken}
use Rattle.cg_interleaving.proofs.FinishLemmas.{more_taken}
use Rattle.cg_interleaving.proofs.sessions.Sessions.take_turns.Goals as goal

pub loop-number-preserved : goal.loop-number-preserved
loop-number-preserved g c =
    let was = c.loop-number.invariant in
    let step = c.turn.ensures in
    let calibration = calibration_of (arc_value c.args.curves.now) in
    let turns = c.args.turns.now in
    let within : c.loop-number.number-index < length turns = omega arith in
    record {
      can = step.can;
      same = step.same ∙ was.same;
      start = step.start ∙ was.start;
      taken = λ world here.
          let has = was.taken world here in
          let T : List ℕ → Type 0 = λ ns. HaveTaken calibration ns world c.turn.new.self in
          subst T (sym (take_more turns c.loop-number.number-index 0 within)) (more_taken calibration (take c.loop-number.number-index turns) _ world _ _ has (step.taken has.now has.here));
    }
