use Rattle.std.proofs.Common.{option_map, List, sym, ◌∙◌, subst, arith}
use Rattle.std.specs.List.{All}
use Rattle.std.proofs.lemmas.List.Elements.{All-push}
use Rattle.cg_enc.specs.Enclosure.{Enclosure}
use Rattle.cg_meaning.specs.Tree.{datings_of_all}
use Rattle.cg_meaning.specs.Scene.{scene_of}
use Rattle.cg_model.specs.Dating.{dating_of}
use Rattle.cg_model.proofs.TreeLemmas.{length-datings_of_all}
use Rattle.cg_like.specs.Cover as cover
use Rattle.cg_recipe.specs.Bounds.{weight_loss}
use Rattle.cg_recipe.proofs.BoundsTables.{IsBoundedRow}
use Rattle.cg_up.proofs.WeightLemmas.{rows-light, likelihood-bounded, weights-next, weights-all, weighable-next, weighable-all}
use Rattle.cg_up.proofs.rows.rows_of.Goals as goal

pub loop-event-preserved : goal.loop-event-preserved
loop-event-preserved c =
    let scene = scene_of c.args.grid.now (cover.rows_of (option_map (λ c. c.now) c.args.curve)) in
    let dating = dating_of c.dating.result.now in
    record {
      value = c.in_ok-push.ensures.items ∙ weights-next scene (datings_of_all c.args.model.now.top) c.loop-event.event dating c.loop-event.rows.items c.in_ok-weights.field-0 c.dating.ensures.dating c.in_ok-weights.ensures.value c.loop-event.invariant.value;
      weighable = weighable-next scene (datings_of_all c.args.model.now.top) c.loop-event.event dating c.in_ok-weights.field-0 c.dating.ensures.dating c.in_ok-weights.ensures.value c.in_ok-weights.ensures.encloses c.weights.ensures.some
          c.loop-event.invariant.weighable;
      light = subst (λ (rows : List (List Enclosure)). All (IsBoundedRow c.args.grid.now.cells weight_loss 1) rows) (sym c.in_ok-push.ensures.items)
          (All-push (IsBoundedRow c.args.grid.now.cells weight_loss 1) c.loop-event.rows.items c.in_ok-weights.field-0 c.loop-event.invariant.light
          (likelihood-bounded scene dating c.in_ok-weights.field-0 c.in_ok-weights.ensures.encloses));
    }

pub returns-clause-value : goal.returns-clause-value
returns-clause-value c =
    let top = c.args.model.now.top in
    weights-all (scene_of c.args.grid.now (cover.rows_of (option_map (λ c. c.now) c.args.curve))) (datings_of_all top) c.loop-event.event c.loop-event.rows.items
    (omega (arith, length-datings_of_all top, c.events-event-end.ensures.events)) c.loop-event.invariant.value

pub returns-clause-weighable : goal.returns-clause-weighable
returns-clause-weighable c =
    let top = c.args.model.now.top in
    weighable-all (scene_of c.args.grid.now (cover.rows_of (option_map (λ c. c.now) c.args.curve))) (datings_of_all top) c.loop-event.event
    (omega (arith, length-datings_of_all top, c.events-event-end.ensures.events)) c.loop-event.invariant.weighable

pub returns-clause-light : goal.returns-clause-light
returns-clause-light c = rows-light c.args.grid.now.cells c.loop-event.rows.items c.loop-event.invariant.light
