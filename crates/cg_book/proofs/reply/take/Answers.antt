use Rattle.std.proofs.Common.{ap, refl, Err}
use Rattle.cg_book.proofs.AnswerLemmas.{not-taken}
use Rattle.cg_book.proofs.reply.take.Goals as goal

pub returns-in-Err-NoVersion-clause-step : goal.returns-in-Err-NoVersion-clause-step
returns-in-Err-NoVersion-clause-step g c =
    let count = c.in-Err-NoVersion.count in
    let known = (c.in-Err-NoVersion.ensures.unknown count).0 (ap (λ e. Err e) c.in-Err-NoVersion.field-0-is) in
    (not-taken c.args.versions.now c.args.version count known.0 known.1, refl)
