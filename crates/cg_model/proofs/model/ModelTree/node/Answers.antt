use Rattle.std.proofs.Common.{arith}
use Rattle.cg_model.specs.Node.{tree_of, trees_of}
use Rattle.cg_model.proofs.TreeLemmas.{IsPart, IsPart-nodes}
use Rattle.cg_model.proofs.model.ModelTree.node.Goals.{In-Ok}
use Rattle.cg_model.proofs.model.ModelTree.node.Goals as goal

part : (c : In-Ok) → IsPart (tree_of c.in-Ok.node.now) (trees_of c.self.inside.top)
part c = IsPart-nodes (trees_of c.self.inside.top) c.args.place (tree_of c.in-Ok.node.now) c.in-Ok.ensures.here

pub returns-clause-limits : goal.returns-clause-limits
returns-clause-limits c =
    let limits = c.self.invariant.0.limits in
    record {
      events = omega (arith, (part c).events, limits.events);
      groups = omega (arith, (part c).groups, limits.groups);
      depth = omega (arith, (part c).depth, limits.depth);
    }

pub returns-clause-ranged : goal.returns-clause-ranged
returns-clause-ranged c = (part c).ranged c.self.invariant.0.ranged
