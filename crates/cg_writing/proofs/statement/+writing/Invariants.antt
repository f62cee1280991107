use Rattle.std.proofs.Common.{◌≡◌, ◌++◌, ◌+◌, ◌≤◌}
use Rattle.cg_model.specs.Limits.{depth_in}
use Rattle.cg_model.specs.Node.{trees_of}
use Rattle.cg_model.proofs.NodeLemmas.{trees_from}
use Rattle.cg_writing.specs.Text.{statements_text}
use Rattle.cg_writing.proofs.statement.+writing.Given as goal

-- with the members that are left the text is whole, and they are no deeper
abbrev pub invariant-push_members-loop-node : goal.invariant-push_members-loop-node
invariant-push_members-loop-node l =
    (l.text.items ++ statements_text l.depth (trees_from l.node-items l.node-index)
    ≡ l.initial.text.items ++ statements_text l.depth (trees_of l.members))
    × (l.depth + depth_in (trees_from l.node-items l.node-index) ≤ 16)
