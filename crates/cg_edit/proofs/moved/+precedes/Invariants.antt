use Rattle.std.proofs.Common.{◌≡◌}
use Rattle.cg_model.specs.Node.{tree_of, trees_of}
use Rattle.cg_sharing.specs.Edit.{preceded_all}
use Rattle.cg_edit.proofs.CopyLemmas.{trees_to}
use Rattle.cg_edit.proofs.moved.+precedes.Given as goal

-- the members so far are copied, with the change
abbrev pub invariant-preceded_all-loop-node : goal.invariant-preceded_all-loop-node
invariant-preceded_all-loop-node l = trees_of l.after ≡ preceded_all l.name (tree_of l.added) (trees_to l.node-items l.node-index)
