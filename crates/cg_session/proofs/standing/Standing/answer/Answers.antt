use Rattle.std.proofs.Common.{refl, sym, ap, ◌∙◌}
use Rattle.std.specs.Prelude.{option_map}
use Rattle.cg_sharing.specs.Cause as cause
use Rattle.cg_sharing.specs.Pieces.{At, Made, Committed, Refused}
use Rattle.cg_sharing.specs.Course.{bases_after}
use Rattle.cg_edit.specs.Plain.{fault_in}
use Rattle.cg_report.specs.Cause.{cause_in}
use Rattle.cg_session.proofs.StandingLemmas.{piece_shown, fault_shown}
use Rattle.cg_session.proofs.standing.Standing.answer.Goals as goal

pub returns-in-At-clause-place : goal.returns-in-At-clause-place
returns-in-At-clause-place c = λ place shows. rw c.in-At.is (λ command spare.
    let number = c.in-At.number in
    piece_shown c.args.self.now _ place _ (At number) shows c.tell.ensures refl refl shows.grid (c.note_base.ensures command spare ∙ ap (λ bases. bases_after command number bases) shows.bases))

pub returns-in-Made-clause-place : goal.returns-in-Made-clause-place
returns-in-Made-clause-place c = λ place shows. rw c.in-Made.is (λ command spare. piece_shown c.args.self.now _ place _ (Made c.in-Made.number) shows c.tell-in-Made.ensures refl refl shows.grid shows.bases)

pub returns-in-Committed-clause-place : goal.returns-in-Committed-clause-place
returns-in-Committed-clause-place c = λ place shows. rw c.in-Committed.is (λ command spare.
    let number = c.in-Committed.number in
    piece_shown c.args.self.now _ place _ (Committed number) shows c.tell-in-Committed.ensures refl shows.version shows.grid (c.note_base-in-Committed.ensures command spare ∙ ap (λ bases. bases_after command number bases) shows.bases))

pub returns-in-NoModel-clause-place : goal.returns-in-NoModel-clause-place
returns-in-NoModel-clause-place c = λ place shows. rw c.in-NoModel.is (λ command spare. piece_shown c.args.self.now _ place _ (Refused c.args.line cause.NoModel) shows c.refuse.ensures refl shows.version shows.grid shows.bases)

pub returns-in-NoVersion-clause-place : goal.returns-in-NoVersion-clause-place
returns-in-NoVersion-clause-place c = λ place shows. rw c.in-NoVersion.is (λ command spare.
    piece_shown c.args.self.now _ place _ (Refused c.args.line (cause.NoVersion c.in-NoVersion.count)) shows c.refuse-in-NoVersion.ensures refl shows.version shows.grid shows.bases)

pub returns-in-NoParent-clause-place : goal.returns-in-NoParent-clause-place
returns-in-NoParent-clause-place c = λ place shows. rw c.in-NoParent.is (λ command spare. piece_shown c.args.self.now _ place _ (Refused c.args.line cause.NoParent) shows c.refuse-in-NoParent.ensures refl shows.version shows.grid shows.bases)

pub returns-in-Some-clause-place : goal.returns-in-Some-clause-place
returns-in-Some-clause-place c = λ place shows. rw c.in-Refused.is (
    fault_shown _ place c.args.line (cause_in c.in-Some.cause) (fault_in c.in-Refused.fault) c.args.spare (ap (λ o. option_map cause_in o) (sym c.in-Some.is) ∙ c.of_fault.ensures)
    (piece_shown c.args.self.now _ place _ (Refused c.args.line (cause_in c.in-Some.cause)) shows c.refuse-in-Refused.ensures refl shows.version shows.grid shows.bases))

pub returns-in-Moved-clause-place : goal.returns-in-Moved-clause-place
returns-in-Moved-clause-place c = λ place shows. rw c.in-Moved.is (λ command spare.
    piece_shown c.args.self.now _ place _ (Refused c.args.line (cause.Moved c.in-Moved.head)) shows c.refuse-in-Moved.ensures refl shows.version shows.grid shows.bases)
