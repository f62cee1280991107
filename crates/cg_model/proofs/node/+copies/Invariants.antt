use Rattle.std.proofs.Common.{◌≡◌, take}
use Rattle.cg_model.proofs.node.+copies.Given as goal

-- the nodes so far are copied
abbrev pub invariant-Members::copy-loop-node : goal.invariant-Members::copy-loop-node
invariant-Members::copy-loop-node l = l.items ≡ take l.node-index l.node-items
