use Rattle.std.proofs.Common.{◌≡◌}
use Rattle.cg_model.specs.Node.{trees_of}
use Rattle.cg_sharing.specs.Edit.{renamed_all}
use Rattle.cg_edit.proofs.CopyLemmas.{trees_to}
use Rattle.cg_edit.proofs.moved.+renames.Given as goal

-- the members so far are copied, with the change
abbrev pub invariant-renamed_all-loop-node : goal.invariant-renamed_all-loop-node
invariant-renamed_all-loop-node l = trees_of l.after ≡ renamed_all l.name l.new (trees_to l.node-items l.node-index)
