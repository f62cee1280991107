use Rattle.std.proofs.Common.{rules, ◌≡◌, ◌++◌, [], ◌∷◌, sym, ap, subst, ◌∙◌, Result}
use Rattle.cg_marginal.specs.Marginal.{pairs_of}
use Rattle.cg_sharing.specs.Pieces.{Ranges, Refused}
use Rattle.cg_report.specs.declared.cause.SessionCause.{SessionCause}
use Rattle.cg_report.specs.Cause.{cause_in}
use Rattle.cg_report.specs.Texts.{ranges_lines}
use Rattle.cg_session.specs.declared.standing.Evaluated.{Evaluated}
use Rattle.cg_session.specs.Calibration.{calibration_of}
use Rattle.cg_session.specs.Standing.{print_of, IsEvaluated, IsOutcome}
use Rattle.cg_session.proofs.StandingLemmas.{piece_shown}
use Rattle.cg_session.proofs.standing.Standing.tell_ranges.Goals as goal

pub returns-in_ok-append-in-Ok-clause-ok : goal.returns-in_ok-append-in-Ok-clause-ok
returns-in_ok-append-in-Ok-clause-ok g c = λ state place text shows.
    let calibration = calibration_of c.args.curves.now in
    let name = c.args.name.now in
    let found : Evaluated = c.in-Ok.found in
    let O : Result Evaluated SessionCause → Type 0 = λ outcome. IsOutcome calibration state place name outcome in
    let is : IsEvaluated calibration state place name found = subst O c.in-Ok.is (c.in_ok-found.ensures.ok state place text shows) in
    let told = Ranges (print_of calibration state name found is.event) in
    let lines : c.append.new.self.bytes.items ≡ c.args.self.now.transcript.bytes.items ++ ranges_lines found.grid name found.version (pairs_of found.marginal) = search rules in
    piece_shown c.args.self.now _ place _ told shows (lines ∙ ap (λ pairs. c.args.self.now.transcript.bytes.items ++ ranges_lines found.grid name found.version pairs) (sym is.marginal))
    (ap (λ p. place.written ++ p ∷ []) (is.told (λ print. Ranges print) c.args.line)) shows.version shows.grid shows.bases

pub returns-in-Err-clause-ok : goal.returns-in-Err-clause-ok
returns-in-Err-clause-ok g c = λ state place text shows.
    let calibration = calibration_of c.args.curves.now in
    let O : Result Evaluated SessionCause → Type 0 = λ outcome. IsOutcome calibration state place c.args.name.now outcome in
    let is = subst O c.in-Err.is (c.in_ok-found.ensures.ok state place text shows) (λ print. Ranges print) c.args.line in
    piece_shown c.args.self.now _ place _ (Refused c.args.line (cause_in c.in-Err.cause)) shows c.refuse.ensures (ap (λ p. place.written ++ p ∷ []) is) shows.version shows.grid shows.bases
