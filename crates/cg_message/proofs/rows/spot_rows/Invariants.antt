use Rattle.std.proofs.Common.{◌≡◌, map, take, option_map}
use Rattle.cg_meaning.specs.Scene.{scene_of}
use Rattle.cg_model.specs.Dating.{dating_of}
use Rattle.cg_like.specs.Cover as cover
use Rattle.cg_message.specs.Pass.{spot_row}
use Rattle.cg_message.proofs.rows.spot_rows.Given as goal

-- those of the datings so far
abbrev pub invariant-loop-dating : goal.invariant-loop-dating
invariant-loop-dating l =
    l.rows.items ≡ map (spot_row (scene_of l.grid (cover.rows_of (option_map (λ c. c.now) l.curve)))) (map dating_of (take l.dating-index l.datings))
