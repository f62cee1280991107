use Rattle.std.proofs.Common.{rules, arith, ◌≡◌, refl, sym, subst, ◌++◌}
use Rattle.cg_sharing.specs.Cause.{NotOpen}
use Rattle.cg_sharing.specs.Pieces.{Refused}
use Rattle.cg_sharing.specs.Course.{Place, refused, done_at}
use Rattle.cg_script.specs.Command.{command_in}
use Rattle.cg_report.specs.Texts.{refused_line}
use Rattle.cg_session.specs.declared.standing.Standing.{Standing}
use Rattle.cg_session.specs.Calibration.{calibration_of}
use Rattle.cg_session.specs.Standing.{Shows}
use Rattle.cg_session.proofs.StandingLemmas.{same_shown, piece_shown, on_err_by}
use Rattle.cg_session.proofs.standing.Standing.run.Goals as goal

pub returns-in_default : goal.returns-in_default
returns-in_default g c = record {
  ok = λ state place text shows.
      let is : done_at (calibration_of c.args.curves.now) state c.args.line (command_in c.args.command.now) place ≡ refused c.args.line NotOpen place = search rules in
      let more : c.refuse.new.self.bytes.items ≡ c.args.self.now.transcript.bytes.items ++ refused_line c.args.line NotOpen = search rules in
      let new : Standing = record c.args.self.now { transcript = c.refuse.new.self } in
      let P : Place → Type 0 = λ p. Shows new p in
      subst P (sym is) (piece_shown c.args.self.now new place _ (Refused c.args.line NotOpen) shows more refl shows.version shows.grid shows.bases);
  ticks = λ state place text shows. omega arith;
  err = tt;
  version = refl;
}

pub returns-in-Print-clause-err : goal.returns-in-Print-clause-err
returns-in-Print-clause-err g c =
    let old = c.args.self.now in
    let roomy : Standing = record old { transcript = c.make_room.new.self } in
    on_err_by c.print.result (λ kept place shows. kept place (same_shown old roomy place c.in_ok-make_room.ensures.same refl refl refl shows)) c.print.ensures.err

pub returns-in-Ranges-clause-err : goal.returns-in-Ranges-clause-err
returns-in-Ranges-clause-err g c =
    let old = c.args.self.now in
    let roomy : Standing = record old { transcript = c.make_room.new.self } in
    on_err_by c.tell_ranges.result (λ kept place shows. kept place (same_shown old roomy place c.in_ok-make_room.ensures.same refl refl refl shows)) c.tell_ranges.ensures.err
