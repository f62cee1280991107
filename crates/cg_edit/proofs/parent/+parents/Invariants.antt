use Rattle.std.proofs.Common.{◌≡◌}
use Rattle.cg_model.specs.Group.{kind_in}
use Rattle.cg_model.proofs.NodeLemmas.{trees_from}
use Rattle.cg_sharing.specs.Edit.{parent_in}
use Rattle.cg_edit.proofs.parent.+parents.Given as goal

-- no member so far has the name, nor a node below it
abbrev pub invariant-parent_in-loop-node : goal.invariant-parent_in-loop-node
invariant-parent_in-loop-node l = parent_in l.name (kind_in l.kind) (trees_from l.node-items 0) ≡ parent_in l.name (kind_in l.kind) (trees_from l.node-items l.node-index)
