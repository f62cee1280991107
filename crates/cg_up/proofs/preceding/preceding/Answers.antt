use Rattle.std.proofs.Common.{◌≡◌, refl, sym, ap, ◌∙◌}
use Rattle.std.proofs.lemmas.Result.{IfOk-weaker}
use Rattle.cg_context.specs.Formulas.{back_of}
use Rattle.cg_recipe.specs.Recipe.{table_of, preceding}
use Rattle.cg_up.specs.Element.{element_in}
use Rattle.cg_up.specs.Pass.{pass_of}
use Rattle.cg_up.proofs.ElementLemmas.{no_event}
use Rattle.cg_up.proofs.RoomLemmas.{ready_pass, own_beside}
use Rattle.cg_up.proofs.preceding.preceding.Goals as goal

pub back-requires-clause-cells : goal.back-requires-clause-cells
back-requires-clause-cells g c =
    (own_beside (pass_of c.args.pass.now) _ (element_in c.args.e.now) c.args.v.now c.in_ok-table-in-Group.table (ready_pass c.args.pass.now c.requires.ready) c.requires.fit c.requires.room c.in_ok-table-in-Group.ensures.value).cells

pub back-requires-clause-reach : goal.back-requires-clause-reach
back-requires-clause-reach g c =
    (own_beside (pass_of c.args.pass.now) _ (element_in c.args.e.now) c.args.v.now c.in_ok-table-in-Group.table (ready_pass c.args.pass.now c.requires.ready) c.requires.fit c.requires.room c.in_ok-table-in-Group.ensures.value).near

pub returns-in_ok-table-in-Group-clause-value : goal.returns-in_ok-table-in-Group-clause-value
returns-in_ok-table-in-Group-clause-value g c =
    let pass = pass_of c.args.pass.now in
    let v = c.args.v.now in
    let is = no_event (λ e. preceding pass v e ≡ back_of v (table_of pass e)) c.args.e.now c.in-Group.is (λ kind es. refl) (λ es closing. refl) in
    IfOk-weaker c.back.result _ _ (λ r by_table. by_table ∙ ap (back_of v) c.in_ok-table-in-Group.ensures.value ∙ sym is) c.back.ensures.value
