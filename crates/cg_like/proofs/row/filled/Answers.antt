use Rattle.std.proofs.Common.{option_map, ◌∙◌}
use Rattle.cg_meaning.specs.Scene.{scene_of}
use Rattle.cg_model.specs.Dating.{dating_of}
use Rattle.cg_like.specs.Cover.{rows_of}
use Rattle.cg_like.proofs.RowLemmas.{row_more}
use Rattle.cg_like.proofs.row.filled.Goals as goal

pub loop-cell-preserved : goal.loop-cell-preserved
loop-cell-preserved c =
    let scene = scene_of c.args.grid.now (rows_of (option_map (λ c. c.now) c.args.curve)) in
    record {
      weights = c.in_ok-push.ensures.ok ∙ row_more scene (dating_of c.args.dating.now) c.loop-cell.row c.weight_at.result c.loop-cell.cell c.loop-cell.invariant.weights c.weight_at.ensures.value;
      known = λ more. c.weight_at.ensures.known;
    }
