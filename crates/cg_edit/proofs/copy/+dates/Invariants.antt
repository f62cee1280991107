use Rattle.std.proofs.Common.{◌≡◌}
use Rattle.cg_model.specs.Dating.{dating_of}
use Rattle.cg_model.specs.Node.{trees_of}
use Rattle.cg_sharing.specs.Edit.{dated_all}
use Rattle.cg_edit.proofs.CopyLemmas.{trees_to}
use Rattle.cg_edit.proofs.copy.+dates.Given as goal

-- the members so far are copied, with the change
abbrev pub invariant-dated_all-loop-node : goal.invariant-dated_all-loop-node
invariant-dated_all-loop-node l = trees_of l.after ≡ dated_all l.name (dating_of l.dating) (trees_to l.node-items l.node-index)
