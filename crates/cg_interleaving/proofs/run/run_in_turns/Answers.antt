use Rattle.std.proofs.Common.{◌∙◌, arith}
use Rattle.std.specs.Arc.{arc_value}
use Rattle.cg_session.specs.Calibration.{calibration_of}
use Rattle.cg_sharing.specs.Interleaving.{begun}
use Rattle.cg_interleaving.proofs.EndLemmas.{is_run, same_length, script_count}
use Rattle.cg_interleaving.proofs.run.run_in_turns.Goals as goal

pub close-requires-clause-room : goal.close-requires-clause-room
close-requires-clause-room g c =
    let all = c.finish_all.new.self in
    let many = script_count all.list.items c.args.scripts.items (c.finish_all.ensures.same ∙ c.take_turns.ensures.same ∙ c.in_ok-all.ensures.read) in
    omega (arith, many, c.in_ok-reserve.ensures.ok, c.len.ensures, c.args.scripts.ok.0, c.new-transcripts.ensures.len)

pub returns : goal.returns
returns g c =
    let calibration = calibration_of (arc_value c.args.curves.now) in
    let all = c.finish_all.new.self in
    let taken = c.take_turns.ensures.taken (begun calibration c.args.models c.args.capacity c.args.scripts.items) (c.in_ok-all.ensures.here calibration) in
    let out = c.finish_all.ensures.taken taken.now taken.here in
    let read = c.finish_all.ensures.same ∙ c.take_turns.ensures.same ∙ c.in_ok-all.ensures.read in
    let starts = c.finish_all.ensures.start ∙ c.take_turns.ensures.start ∙ c.in_ok-all.ensures.start in
    let counted = same_length all.list.items c.take_turns.new.self.list.items c.finish_all.ensures.same in
    is_run calibration c.args.models c.args.capacity c.args.scripts.items c.args.turns.now c.take_turns.new.self all c.close.result c.finish_all.ensures.can starts read taken out (λ place less. c.finish_all.ensures.over place (omega (arith, less, counted)))
    record { journal = c.close.ensures.journal; legal = c.close.ensures.legal; stopped = c.close.ensures.stopped; written = c.close.ensures.written }

pub take_turns-requires : goal.take_turns-requires
take_turns-requires g c = c.in_ok-all.ensures.can (calibration_of (arc_value c.args.curves.now))
