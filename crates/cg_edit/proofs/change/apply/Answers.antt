use Rattle.std.proofs.Common.{◌≡◌, ◌∙◌, [], ◌∷◌, sym, ap, subst, refl, Some, None, Ok, Err}
use Rattle.cg_meaning.specs.Tree.{Phase, nodes_of_all}
use Rattle.cg_model.specs.Found.{found_in}
use Rattle.cg_model.specs.Limits.{AreInPlace, AreInRange}
use Rattle.cg_model.specs.Node.{tree_of, trees_of}
use Rattle.cg_model.proofs.FoundLemmas.{named, found-One}
use Rattle.cg_sharing.specs.Edit.{target_of, wrong_kind, checked, edited}
use Rattle.cg_edit.specs.Plain.{edit_in}
use Rattle.cg_edit.proofs.ChangeLemmas.{result_of-Nobody, result_of-Many, result_of-One, result_of-right, limit_passed-none, limit_passed-is}
use Rattle.cg_edit.proofs.PlacedLemmas.{edited-placed, edited-ranged}
use Rattle.cg_edit.proofs.change.apply.Goals.{In_ok-top}
use Rattle.cg_edit.proofs.change.apply.Goals as goal

pub returns-in-Nobody : goal.returns-in-Nobody
returns-in-Nobody c =
    let edit = edit_in c.args.edit.now in
    let ts = c.args.model.now.top in
    result_of-Nobody edit ts (sym (c.in-Nobody.ensures.found ∙ ap (λ name. found_in name (nodes_of_all ts)) c.target.ensures))

pub returns-in-Many : goal.returns-in-Many
returns-in-Many c =
    let edit = edit_in c.args.edit.now in
    let ts = c.args.model.now.top in
    result_of-Many edit ts c.in-Many.count (sym (c.in-Many.ensures.found ∙ ap (λ name. found_in name (nodes_of_all ts)) c.target.ensures))

pub returns-in-Some : goal.returns-in-Some
returns-in-Some c =
    let edit = edit_in c.args.edit.now in
    let ts = c.args.model.now.top in
    let t = tree_of c.node.result.now in
    let found = sym (c.in-One.ensures.found ∙ ap (λ name. found_in name (nodes_of_all ts)) c.target.ensures) in
    let wrong = c.in-Some.ensures ∙ ap (λ us. wrong_kind edit t us) c.top-before.ensures.top in
    result_of-One edit ts c.in-One.place t found c.node.ensures.node ∙ ap (λ kind. checked kind (edited edit ts)) (sym wrong)

one : (c : In_ok-top) → named (target_of (edit_in c.args.edit.now)) c.args.model.now.top ≡ tree_of c.node.result.now ∷ []
one c =
    found-One (target_of (edit_in c.args.edit.now)) c.args.model.now.top c.in-One.place (tree_of c.node.result.now)
    (sym (c.in-One.ensures.found ∙ ap (λ name. found_in name (nodes_of_all c.args.model.now.top)) c.target.ensures)) c.node.ensures.node

right : (c : In_ok-top) → None ≡ wrong_kind (edit_in c.args.edit.now) (tree_of c.node.result.now) c.args.model.now.top
right c = c.in_default.ensures ∙ ap (λ us. wrong_kind (edit_in c.args.edit.now) (tree_of c.node.result.now) us) c.top-before.ensures.top

top_is : (c : In_ok-top) → trees_of c.in_ok-top.top ≡ edited (edit_in c.args.edit.now) c.args.model.now.top
top_is c = c.in_ok-top.ensures ∙ ap (λ us. edited (edit_in c.args.edit.now) us) c.top-before.ensures.top

pub new-requires-clause-placed : goal.new-requires-clause-placed
new-requires-clause-placed c =
    let edit = edit_in c.args.edit.now in
    let ts = c.args.model.now.top in
    subst (λ us. AreInPlace Phase us) (sym (top_is c)) (edited-placed edit ts (tree_of c.node.result.now) (one c) (sym (right c)) c.top-before.ensures.placed)

pub new-requires-clause-ranged : goal.new-requires-clause-ranged
new-requires-clause-ranged c =
    let edit = edit_in c.args.edit.now in
    let ts = c.args.model.now.top in
    subst (λ us. AreInRange us) (sym (top_is c)) (edited-ranged edit ts c.requires c.top-before.ensures.ranged)

pub returns-in-Ok : goal.returns-in-Ok
returns-in-Ok c =
    let edit = edit_in c.args.edit.now in
    let ts = c.args.model.now.top in
    let t = tree_of c.node.result.now in
    let top = trees_of c.in_ok-top.top in
    let found = sym (c.in-One.ensures.found ∙ ap (λ name. found_in name (nodes_of_all ts)) c.target.ensures) in
    let fit = c.in_default.ensures ∙ ap (λ us. wrong_kind edit t us) c.top-before.ensures.top in
    let same : top ≡ edited edit ts = c.in_ok-top.ensures ∙ ap (λ us. edited edit us) c.top-before.ensures.top in (
      result_of-right edit ts c.in-One.place t top None found c.node.ensures.node fit same (limit_passed-none top (c.in-Ok.ensures.within.0 refl)) ∙ ap (λ us. Ok us) (sym (ap (λ after. after.top) c.in-Ok.ensures.ok)),
      ap (λ after. after.curve) c.in-Ok.ensures.ok ∙ c.in_ok-curve.ensures,
    )

pub returns-in-Err : goal.returns-in-Err
returns-in-Err c =
    let edit = edit_in c.args.edit.now in
    let ts = c.args.model.now.top in
    let t = tree_of c.node.result.now in
    let top = trees_of c.in_ok-top.top in
    let found = sym (c.in-One.ensures.found ∙ ap (λ name. found_in name (nodes_of_all ts)) c.target.ensures) in
    let fit = c.in_default.ensures ∙ ap (λ us. wrong_kind edit t us) c.top-before.ensures.top in
    let same : top ≡ edited edit ts = c.in_ok-top.ensures ∙ ap (λ us. edited edit us) c.top-before.ensures.top in
    result_of-right edit ts c.in-One.place t top (Some c.in-Err.limit) found c.node.ensures.node fit same
    (limit_passed-is top c.in-Err.limit
    (λ e. c.in-Err.ensures.events.0 (ap (λ limit. Err limit) e))
    (λ e. c.in-Err.ensures.groups.0 (ap (λ limit. Err limit) e))
    (λ e. c.in-Err.ensures.depth.0 (ap (λ limit. Err limit) e)))
