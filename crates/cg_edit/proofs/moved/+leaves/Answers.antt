use Rattle.std.proofs.Common.{◌∙◌, map, sym, ap, ap₂}
use Rattle.cg_model.specs.Node.{tree_of, trees_of, trees, trees_with}
use Rattle.cg_model.proofs.NodeLemmas.{trees_of-all}
use Rattle.cg_sharing.specs.Edit.{without_all}
use Rattle.cg_edit.proofs.CopyLemmas.{trees_to, trees_to-next, trees_to-all, without_all-own, without_all-else}
use Rattle.cg_edit.proofs.moved.+leaves.Goals.{without_all-then-not-has_name+in_ok-without+in_ok-push, without_all-else-not-has_name}
use Rattle.cg_edit.proofs.moved.+leaves.Goals as goal

pub without_all-loop-node-preserved : goal.without_all-loop-node-preserved
without_all-loop-node-preserved t c =
    let name = c.args.name.now in
    let items = c.nodes-node-items.result.now in
    let i = c.loop-node.node-index in
    let node = c.node-item.result in
    let next = ap (λ us. without_all name us) (sym (trees_to-next items i node c.loop-node-test.true c.node-item.is)) in
    elim c.if-not-has_name.branch [
      | without_all-then-not-has_name+in_ok-without+in_ok-push w ↦
          ap trees_of w.after-is ∙ w.in_ok-push.ensures.trees
          ∙ ap₂ (λ us u. trees_with us u) c.loop-node.invariant w.in_ok-without.ensures
          ∙ sym (without_all-else name (trees_to items i) (tree_of node) (sym c.has_name.ensures ∙ w.if-not-has_name.true))
          ∙ next
      | without_all-else-not-has_name w ↦
          ap trees_of w.after-is ∙ c.loop-node.invariant
          ∙ sym (without_all-own name (trees_to items i) (tree_of node) (sym c.has_name.ensures ∙ w.if-not-has_name.false))
          ∙ next
    ]

pub without_all-returns : goal.without_all-returns
without_all-returns t c =
    let items = c.nodes-node-items.result.now in
    let all = trees_to-all items c.loop-node.node-index c.loop-node-test.false
    ∙ ap (λ xs. trees (map tree_of xs)) c.nodes-node-items.ensures ∙ sym (trees_of-all c.args.members.now) in
    c.loop-node.invariant ∙ ap (λ us. without_all c.args.name.now us) all
