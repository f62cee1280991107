use Rattle.std.proofs.Common.{map, refl, sym, ap, ◌∙◌, append-nil}
use Rattle.cg_report.specs.Texts.{session_line}
use Rattle.cg_session.specs.Standing.{base_in}
use Rattle.cg_session.proofs.SessionLemmas.{begun_at}
use Rattle.cg_session.proofs.session.Session.new.Goals as goal

pub returns-clause-at : goal.returns-clause-at
returns-clause-at c =
    λ calibration seen fresh. begun_at calibration seen _ refl refl refl
    (record { text = c.in_ok-begin.ensures ∙ sym (append-nil (session_line c.args.number)); version = refl; grid = refl; bases = ap (λ bs. map base_in bs) c.new.ensures.items })
    c.requires fresh
