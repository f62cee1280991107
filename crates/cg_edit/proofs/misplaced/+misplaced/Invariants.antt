use Rattle.std.proofs.Common.{◌≡◌}
use Rattle.cg_model.specs.Group.{kind_in}
use Rattle.cg_model.proofs.NodeLemmas.{trees_from}
use Rattle.cg_sharing.specs.Edit.{misplaced_in_all}
use Rattle.cg_edit.proofs.misplaced.+misplaced.Given as goal

-- no Boundary of the members so far stands out of place
abbrev pub invariant-misplaced_among-loop-node : goal.invariant-misplaced_among-loop-node
invariant-misplaced_among-loop-node l = misplaced_in_all (kind_in l.parent) (trees_from l.node-items 0) ≡ misplaced_in_all (kind_in l.parent) (trees_from l.node-items l.node-index)
