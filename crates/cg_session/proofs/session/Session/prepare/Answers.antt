use Rattle.std.proofs.Common.{rules, ◌≡◌, ◌∙◌, option_map, refl, sym, ap, arith, Some}
use Rattle.cg_sharing.specs.Command.{Line}
use Rattle.cg_script.specs.Command.{command_in}
use Rattle.cg_sharing.specs.Course.{Place, act_of}
use Rattle.cg_book.specs.Plain.{state_of}
use Rattle.cg_book.specs.Replies.{question_in}
use Rattle.cg_session.specs.declared.session.Session.{Session}
use Rattle.cg_session.specs.declared.session.Progress.TheVariants.{Stopped}
use Rattle.cg_session.specs.Calibration.{calibration_of}
use Rattle.cg_session.specs.Standing.{Shows}
use Rattle.cg_session.proofs.StandingLemmas.{same_shown, was_shown}
use Rattle.cg_session.proofs.SessionLemmas.{same_stands, done_next}
use Rattle.cg_session.proofs.StepLemmas.{on_err, counts_on, counts_done, counts_cut}
use Rattle.cg_session.proofs.session.Session.prepare.Goals as goal

pub loop-self-preserved : goal.loop-self-preserved
loop-self-preserved g c =
    let before = c.loop-self.invariant.same in
    let line : Line = record { number = c.get-line.result.0; command = command_in c.get-line.result.1.now } in
    record {
      same = record { number = before.number; script = before.script; stopped = before.stopped; version = c.in_ok-run.ensures.version ∙ before.version };
      within = omega (arith, c.loop-self-test.true, c.len.ensures.len);
      forward = omega (arith, c.loop-self.invariant.forward);
      at = λ seen run start.
          let at = c.loop-self.invariant.at seen run start in
          done_next (calibration_of c.args.curves.now) seen c.loop-self.self _ line (record { number = refl; script = refl; stopped = refl; version = c.in_ok-run.ensures.version }) (before.stopped ∙ run) c.get-line.ensures.line
          (λ place shows. sym (c.in_ok-question.ensures place shows) ∙ ap (λ e. option_map question_in e) c.in_default.is)
          (λ place shows. c.in_ok-run.ensures.ok (state_of seen) place at.text shows) refl at;
      counts = λ seen start run was stands.
          let at = c.loop-self.invariant.at seen run was in
          counts_done (calibration_of c.args.curves.now) seen c.args.steps.now c.loop-self.steps _ start c.loop-self.self _ line (record { number = refl; script = refl; stopped = refl; version = c.in_ok-run.ensures.version }) (before.stopped ∙ run)
          c.get-line.ensures.line (λ place shows. sym (c.in_ok-question.ensures place shows) ∙ ap (λ e. option_map question_in e) c.in_default.is) (λ place shows. c.in_ok-run.ensures.ok (state_of seen) place at.text shows) refl
          (λ place shows. c.in_ok-run.ensures.ticks (state_of seen) place at.text shows) (c.loop-self.invariant.counts seen start run was stands);
    }

pub returns-in-Some-clause-next : goal.returns-in-Some-clause-next
returns-in-Some-clause-next g c =
    let room = c.in_ok-make_room.ensures in
    let line : Line = record { number = c.get-line.result.0; command = command_in c.get-line.result.1.now } in
    let old = c.loop-self.self.standing in
    let new = c.make_room.new.self in
    let act : (place : Place) → Shows new place → act_of place line.command ≡ Some (question_in c.in-Some.question) = λ place shows.
    sym (c.in_ok-question.ensures place (was_shown old new place room.text room.version room.grid room.bases shows)) ∙ ap (λ e. option_map question_in e) c.in-Some.is in
    record { line = line; here = c.get-line.ensures.line; act = act; spare = c.in_ok-spare.ensures; room = room.line; base = room.base; few = search rules }

pub returns-in_err-question-clause-cut : goal.returns-in_err-question-clause-cut
returns-in_err-question-clause-cut g c =
    on_err c.from_residual.result (λ seen place run at stands.
    let counts = c.loop-self.invariant.counts seen place run at stands in
    counts_on (calibration_of c.args.curves.now) seen seen Stopped c.args.steps.now c.loop-self.steps place counts.place c.loop-self.self c.loop-self.self counts refl counts.stands)

pub returns-in_err-spare-clause-cut : goal.returns-in_err-spare-clause-cut
returns-in_err-spare-clause-cut g c =
    on_err c.from_residual-in_err-spare.result (λ seen place run at stands.
    let counts = c.loop-self.invariant.counts seen place run at stands in
    counts_on (calibration_of c.args.curves.now) seen seen Stopped c.args.steps.now c.loop-self.steps place counts.place c.loop-self.self c.loop-self.self counts refl counts.stands)

pub returns-in_err-make_room-clause-cut : goal.returns-in_err-make_room-clause-cut
returns-in_err-make_room-clause-cut g c =
    on_err c.from_residual-in_err-make_room.result (λ seen place run at stands.
    let calibration = calibration_of c.args.curves.now in
    let room = c.make_room.ensures in
    let old = c.loop-self.self in
    let new : Session = record old { standing = c.make_room.new.self } in
    let counts = c.loop-self.invariant.counts seen place run at stands in
    counts_on calibration seen seen Stopped c.args.steps.now c.loop-self.steps place counts.place old new counts refl
    (same_stands calibration seen old new counts.place (record { number = refl; script = refl; stopped = refl; version = room.version }) refl
    (same_shown old.standing new.standing counts.place room.text room.version room.grid room.bases counts.stands.0.shows) counts.stands))

pub returns-in_err-run-clause-cut : goal.returns-in_err-run-clause-cut
returns-in_err-run-clause-cut g c =
    on_err c.from_residual-in_err-run.result (λ seen place run at stands.
    let calibration = calibration_of c.args.curves.now in
    let line : Line = record { number = c.get-line.result.0; command = command_in c.get-line.result.1.now } in
    let old = c.loop-self.self in
    let new : Session = record old { standing = c.run.new.self } in
    let text = (c.loop-self.invariant.at seen run at).text in
    counts_cut calibration seen c.args.steps.now c.loop-self.steps c.run.new.steps place old new line c.get-line.ensures.line refl refl
    (λ here shows. c.run.ensures.ticks (state_of seen) here text shows)
    (λ here stood. same_stands calibration seen old new here (record { number = refl; script = refl; stopped = refl; version = c.run.ensures.version }) refl (c.in_err-run.ensures.err here stood.0.shows) stood)
    (c.loop-self.invariant.counts seen place run at stands))
