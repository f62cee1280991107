use Rattle.std.proofs.Common.{arith, ap}
use Rattle.cg_meaning.specs.Tree.{count_all, datings_of_all}
use Rattle.cg_model.specs.Dating.{dating_of}
use Rattle.cg_model.specs.Limits.{IsInRange}
use Rattle.cg_model.specs.Node.{trees_of}
use Rattle.cg_model.proofs.PlaceLemmas.{All-slice_get}
use Rattle.cg_model.proofs.TreeLemmas.{length-datings_of_all}
use Rattle.cg_model.proofs.model.ModelTree.dating.Goals as goal

pub unreachable-requires : goal.unreachable-requires
unreachable-requires c =
    let top = trees_of c.self.inside.top in
    omega (arith, c.in-Err.ensures.past, length-datings_of_all top, ap (λ model. count_all model.top) c.self.view_is)

pub returns-clause-ranged : goal.returns-clause-ranged
returns-clause-ranged c =
    let top = trees_of c.self.inside.top in
    All-slice_get IsInRange (datings_of_all top) c.args.event (dating_of c.in-Ok.dating.now) c.self.invariant.0.ranged c.in-Ok.ensures.here
