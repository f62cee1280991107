use Rattle.std.proofs.Common.{◌≡◌, ℕ, List, ◌++◌, map, sym, ap, ap₂, ◌∙◌, subst, arith}
use Rattle.std.proofs.lemmas.Result.{IfOk-weaker}
use Rattle.cg_meaning.specs.Scene.{scene_of}
use Rattle.cg_meaning.specs.Tree.{datings_of}
use Rattle.cg_model.specs.Dating.{dating_of}
use Rattle.cg_model.specs.declared.dating.Dating as code
use Rattle.cg_model.specs.Node.{tree_of}
use Rattle.cg_part.specs.Elements as part
use Rattle.cg_part.specs.Elements.{element_of}
use Rattle.cg_recipe.specs.Recipe as recipe
use Rattle.cg_recipe.specs.Recipe.{table_of}
use Rattle.cg_code.specs.Content.{IsNode}
use Rattle.cg_message.specs.Curve.{rows_at}
use Rattle.cg_message.specs.Element.{element_in}
use Rattle.cg_message.specs.Parts.{Shelf, MembersAreGot}
use Rattle.cg_message.specs.Pass.{IsSmall, HasMembers, datings_in}
use Rattle.cg_message.specs.Placed.{bare}
use Rattle.cg_message.specs.Ticks.{table_ticks}
use Rattle.cg_message.proofs.HeldLemmas.{bare-of}
use Rattle.cg_message.proofs.MakeLemmas.{begins, pass-is, node-small, node-members}
use Rattle.cg_message.proofs.make.node_table.Goals as goal

pub group_table-requires-clause-small : goal.group_table-requires-clause-small
group_table-requires-clause-small g c =
    let t = tree_of c.args.node.now in
    let element : element_in c.in_ok-e.e ≡ element_of 0 t = ap bare c.in_ok-e.ensures ∙ bare-of 0 c.args.place t in
    let node : IsNode t = record { limits = c.requires.limits; ranged = c.requires.ranged } in
    subst IsSmall (sym element) (node-small t node)

pub group_table-requires-clause-members : goal.group_table-requires-clause-members
group_table-requires-clause-members g c =
    let pass = c.new-pass.result in
    let t = tree_of c.args.node.now in
    let pushed = c.in_ok-push_datings.ensures ∙ ap (λ (front : List code.Dating). map dating_of front ++ datings_of t) c.new-datings.ensures.items in
    let datings : datings_in pass ≡ datings_of t = c.new-pass.ensures.datings ∙ ap (map dating_of) c.deref-2.ensures.value ∙ pushed in
    let node : IsNode t = record { limits = c.requires.limits; ranged = c.requires.ranged } in
    let got = subst (λ (s : Shelf). MembersAreGot s c.args.place t) (sym c.new-pass.ensures.shelf) c.requires.parts in
    subst (HasMembers pass) (sym c.in_ok-e.ensures) (node-members pass c.args.place t c.requires.group (record { node = node; datings = begins pass (datings_of t) datings }) got)

pub returns-clause-value : goal.returns-clause-value
returns-clause-value g c =
    let pass = c.new-pass.result in
    let t = tree_of c.args.node.now in
    let scene = scene_of c.args.g.now (rows_at c.args.curves.now c.args.curve) in
    let element : element_in c.in_ok-e.e ≡ element_of 0 t = ap bare c.in_ok-e.ensures ∙ bare-of 0 c.args.place t in
    let pushed = c.in_ok-push_datings.ensures ∙ ap (λ (front : List code.Dating). map dating_of front ++ datings_of t) c.new-datings.ensures.items in
    let datings : datings_in pass ≡ datings_of t = c.new-pass.ensures.datings ∙ ap (map dating_of) c.deref-2.ensures.value ∙ pushed in
    let is = ap₂ (λ (p : recipe.Pass) (e : part.Element). table_of p e) (pass-is pass scene t c.new-pass.ensures.scene datings) element in
    IfOk-weaker c.group_table.result _ _ (λ table by_members. by_members ∙ is) c.group_table.ensures.value

pub returns-clause-ticks : goal.returns-clause-ticks
returns-clause-ticks g c =
    let t = tree_of c.args.node.now in
    let element : element_in c.in_ok-e.e ≡ element_of 0 t = ap bare c.in_ok-e.ensures ∙ bare-of 0 c.args.place t in
    let cells = ap (λ (s : Shelf). s.grid.cells) c.new-pass.ensures.shelf in
    omega (arith, c.group_table.ensures.ticks, ap₂ (λ (n : ℕ) (e : part.Element). table_ticks n e) cells element)
