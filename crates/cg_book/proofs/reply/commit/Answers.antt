use Rattle.std.proofs.Common.{ap, Err}
use Rattle.cg_book.proofs.AnswerLemmas.{moved-answer}
use Rattle.cg_book.proofs.reply.commit.Goals as goal

pub returns-in-Err-Moved-clause-step : goal.returns-in-Err-Moved-clause-step
returns-in-Err-Moved-clause-step g c =
    let known = (c.in-Err-Moved.ensures.moved c.in-Err-Moved.head).0 (ap (λ e. Err e) c.in-Err-Moved.field-0-is) in
    (moved-answer c.args.versions.now c.args.name.now c.args.base c.args.version c.in-Err-Moved.head known.0 known.1, c.in-Err-Moved.ensures.err)
