use Rattle.std.proofs.Common.{sym, ap, ◌∙◌, refl, None}
use Rattle.cg_meaning.specs.Tree.{nodes_of_all}
use Rattle.cg_sharing.specs.Edit.{Ambiguous, WrongKind, kind_of}
use Rattle.cg_sharing.specs.Course.{kind_at, event_or, event_found}
use Rattle.cg_model.specs.Event.{number_at}
use Rattle.cg_model.specs.Node.{tree_of}
use Rattle.cg_edit.specs.Plain.{kind_in}
use Rattle.cg_session.proofs.search.event_of.Goals as goal

pub returns-in-Many-clause-err : goal.returns-in-Many-clause-err
returns-in-Many-clause-err c = (Ambiguous c.in-Many.count, ap (λ f. event_found (nodes_of_all c.args.model.now.top) f) (sym c.in-Many.ensures.found), refl)

pub returns-in-None-clause-err : goal.returns-in-None-clause-err
returns-in-None-clause-err c =
    let nodes = nodes_of_all c.args.model.now.top in (
      WrongKind (kind_in c.of.result),
      ap (λ f. event_found nodes f) (sym c.in-One.ensures.found)
          ∙ ap (λ o. event_or (kind_at o) (number_at nodes c.in-One.place)) c.node.ensures.node
          ∙ ap (λ n. event_or (kind_of (tree_of c.node.result.now)) n) (sym c.in-None.ensures.number)
          ∙ ap (λ k. event_or k None) (sym c.of.ensures),
      refl,
    )
