use Rattle.std.proofs.Common.{arith, ap, length}
use Rattle.cg_meaning.specs.Tree.{nodes_of_all}
use Rattle.cg_model.specs.Node.{trees_of}
use Rattle.cg_model.proofs.TreeLemmas.{length-nodes_of_all}
use Rattle.cg_model.proofs.model.ModelTree.size.Goals as goal

pub returns-clause-nodes : goal.returns-clause-nodes
returns-clause-nodes c =
    let top = trees_of c.self.inside.top in
    omega (arith, c.events.ensures, c.groups.ensures, c.self.invariant.0.limits, length-nodes_of_all top, ap (λ model. length (nodes_of_all model.top)) c.self.view_is)
