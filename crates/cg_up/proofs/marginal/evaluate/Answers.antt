use Rattle.std.proofs.Common.{List, ap, sym, ◌∙◌, length, map, subst, arith}
use Rattle.std.proofs.lemmas.Result.{IfOk-weaker}
use Rattle.cg_enc.specs.Enclosure.{Enclosure}
use Rattle.cg_meaning.specs.Tree.{Trees, count_all, root_of, datings_of}
use Rattle.cg_meaning.specs.Scene.{scene_of}
use Rattle.cg_meaning.specs.Posterior.{IsMarginal}
use Rattle.cg_model.specs.Node.{trees_of}
use Rattle.cg_like.specs.Likelihood.{weights_of}
use Rattle.cg_part.specs.Elements.{element_of}
use Rattle.cg_recipe.specs.Recipe.{Pass, parts_of}
use Rattle.cg_recipe.proofs.RightLemmas.{right-on}
use Rattle.cg_up.specs.Weighable.{AreWeighable}
use Rattle.cg_up.specs.Curve.{rows_at}
use Rattle.cg_up.specs.Pass.{IsFit, pass_of, root, rows_of}
use Rattle.cg_up.proofs.PartLemmas.{parts-finished, recipe-is}
use Rattle.cg_up.proofs.RootLemmas.{root_fit}
use Rattle.cg_up.proofs.WeightLemmas.{rows-count}
use Rattle.cg_up.proofs.marginal.evaluate.Goals as goal

pub parts_of-requires-clause-rows : goal.parts_of-requires-clause-rows
parts_of-requires-clause-rows g c =
    omega (arith, rows-count _ c.args.model.now.top (trees_of c.top.result.now) c.in_ok-rows.rows.items c.new-pass.result.rows.now (c.new-pass.ensures.rows ∙ c.deref.ensures.value) c.top.ensures.top c.in_ok-rows.ensures.value)

pub finish-requires : goal.finish-requires
finish-requires g c =
    let pass = c.new-pass.result in
    let ts = trees_of c.top.result.now in
    let rows = rows-count _ c.args.model.now.top ts c.in_ok-rows.rows.items pass.rows.now (c.new-pass.ensures.rows ∙ c.deref.ensures.value) c.top.ensures.top c.in_ok-rows.ensures.value in
    let fit = subst (λ us. IsFit (length pass.rows.now) (element_of 0 (root us))) (sym c.top.ensures.top)
    (root_fit (length pass.rows.now) c.args.model.now.top c.top.ensures.limits (omega (arith, rows, ap count_all c.top.ensures.top))) in
    let can = parts-finished pass _ c.args.event (element_of 0 (root ts)) c.in_ok-parts.parts c.new-pass.ensures.ready fit c.in_ok-parts.ensures.value in
    record { some = can.some; few = can.few; loss = can.loss; reach = can.reach }

pub returns-clause-recipe : goal.returns-clause-recipe
returns-clause-recipe g c =
    let chronology = c.args.model.now in
    let event = c.args.event in
    let cells = c.cells.result in
    let scene = scene_of c.args.grid.now (rows_at c.args.curves.now c.args.curve) in
    let rows = c.in_ok-rows.ensures.value ∙ ap (λ curve. map (weights_of (scene_of c.args.grid.now curve)) (datings_of (root_of chronology))) c.curve_of.ensures in
    let parts = c.in_ok-parts.ensures.value
    ∙ ap (λ (us : Trees). parts_of (pass_of c.new-pass.result) event (element_of 0 (root us))) c.top.ensures.top
    ∙ ap (λ (pass : Pass). parts_of pass event (element_of 0 (root_of chronology))) c.new-pass.ensures.pass
    ∙ ap (λ (given : List (List Enclosure)). parts_of (record { cells = cells; rows = rows_of cells given }) event (element_of 0 (root_of chronology))) c.deref.ensures.value in
    let is = recipe-is scene (root_of chronology) event cells c.in_ok-rows.rows.items c.in_ok-parts.parts c.cells.ensures.cells rows parts in
    IfOk-weaker c.finish.result _ _ (λ marginal pairs. pairs ∙ is) c.finish.ensures.value

pub returns-clause-holds : goal.returns-clause-holds
returns-clause-holds g c =
    let chronology = c.args.model.now in
    let scene = scene_of c.args.grid.now (rows_at c.args.curves.now c.args.curve) in
    let weighable = subst (λ curve. AreWeighable (scene_of c.args.grid.now curve) (datings_of (root_of chronology))) c.curve_of.ensures c.in_ok-rows.ensures.weighable in
    let right = right-on chronology scene c.args.event (omega (arith, c.cells.ensures.cells, c.cells.ensures.some)) (omega (arith, c.cells.ensures.cells, c.cells.ensures.few))
    (record { limits = c.top.ensures.limits; placed = c.top.ensures.placed; ranged = c.top.ensures.ranged })
    (record { weighable = weighable; ranged = c.top.ensures.ranged; covered = c.requires.covered }) c.requires.event in
    IfOk-weaker c.finish.result _ _ (λ marginal is. subst (IsMarginal (root_of chronology) scene c.args.event) (sym is) right.holds) (returns-clause-recipe g c)
