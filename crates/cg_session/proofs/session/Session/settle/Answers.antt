use Rattle.std.proofs.Common.{◌+◌, true, refl, arith}
use Rattle.cg_sharing.specs.Command.{Line}
use Rattle.cg_script.specs.Command.{command_in}
use Rattle.cg_book.specs.Plain.{answered}
use Rattle.cg_session.specs.declared.session.Session.{Session}
use Rattle.cg_session.proofs.AdvanceLemmas.{settled_moved, settled_stopped}
use Rattle.cg_session.proofs.session.Session.settle.Goals as goal

pub overflow_add-self : goal.overflow_add-self
overflow_add-self c = omega (arith, c.requires.within, c.requires.few)

pub returns-then-answer-clause-came : goal.returns-then-answer-clause-came
returns-then-answer-clause-came c =
    let old = c.args.self.now in
    let new : Session = record old { standing = c.answer.new.self; done = old.done + 1 } in
    let line : Line = record { number = c.get-line.result.0; command = command_in c.get-line.result.1.now } in
    settled_moved old new c.args.spare line (answered c.args.reply) c.if-answer.ensures.came refl refl c.get-line.ensures.line c.answer.ensures.place

pub returns-else-answer-clause-came : goal.returns-else-answer-clause-came
returns-else-answer-clause-came c =
    let old = c.args.self.now in
    let new : Session = record old { standing = c.answer.new.self; stopped = true } in
    let line : Line = record { number = c.get-line.result.0; command = command_in c.get-line.result.1.now } in
    settled_stopped old new c.args.spare line (answered c.args.reply) c.if-answer.ensures.came refl refl c.answer.ensures.place
