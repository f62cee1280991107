use Rattle.std.proofs.Common.{◌≡◌, map, take, option_map}
use Rattle.std.specs.List.{All}
use Rattle.cg_meaning.specs.Tree.{datings_of_all}
use Rattle.cg_meaning.specs.Scene.{scene_of}
use Rattle.cg_like.specs.Cover as cover
use Rattle.cg_like.specs.Likelihood.{weights_of}
use Rattle.cg_recipe.specs.Bounds.{weight_loss}
use Rattle.cg_recipe.proofs.BoundsTables.{IsBoundedRow}
use Rattle.cg_up.specs.Weighable.{AreWeighable}
use Rattle.cg_up.proofs.rows.rows_of.Given as goal

-- the rows of the events so far, which lose little
abbrev pub invariant-loop-event : goal.invariant-loop-event
invariant-loop-event l = record {
  value : l.rows.items ≡ map (weights_of (scene_of l.grid (cover.rows_of (option_map (λ c. c.now) l.curve)))) (take l.event (datings_of_all l.model.top));
  weighable : AreWeighable (scene_of l.grid (cover.rows_of (option_map (λ c. c.now) l.curve))) (take l.event (datings_of_all l.model.top));
  light : All (IsBoundedRow l.grid.cells weight_loss 1) l.rows.items;
}
