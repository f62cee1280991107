use Rattle.std.proofs.Common.{◌≡◌}
use Rattle.cg_model.specs.Node.{trees_of}
use Rattle.cg_sharing.specs.Edit.{without_all}
use Rattle.cg_edit.proofs.CopyLemmas.{trees_to}
use Rattle.cg_edit.proofs.moved.+leaves.Given as goal

-- the members so far are copied, with the change
abbrev pub invariant-without_all-loop-node : goal.invariant-without_all-loop-node
invariant-without_all-loop-node l = trees_of l.after ≡ without_all l.name (trees_to l.node-items l.node-index)
