use Rattle.std.proofs.Common.{take, length}
use Rattle.std.specs.List.{All}
use Rattle.cg_meaning.specs.Tree.{datings_of, root_of}
use Rattle.cg_meaning.specs.Scene.{scene_of}
use Rattle.cg_meaning.specs.Cover.{IsCovered}
use Rattle.cg_up.specs.Curve.{rows_at}
use Rattle.tests_numbers.proofs.models.scene.weigh_all.Given as goal

-- the events so far can be weighed
abbrev pub invariant-loop-event : goal.invariant-loop-event
invariant-loop-event l =
    All (λ dating. IsCovered (scene_of l.grid (rows_at l.curves (length l.curves))) dating) (take l.event (datings_of (root_of l.model)))
