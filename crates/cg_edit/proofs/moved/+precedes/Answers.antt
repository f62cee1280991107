use Rattle.std.proofs.Common.{◌∙◌, map, sym, ap, ap₂}
use Rattle.cg_model.specs.Node.{tree_of, trees_of, trees, trees_with}
use Rattle.cg_model.proofs.NodeLemmas.{trees_of-all}
use Rattle.cg_sharing.specs.Edit.{preceded_all}
use Rattle.cg_edit.proofs.CopyLemmas.{trees_to, trees_to-next, trees_to-all, preceded_all-own, preceded_all-else}
use Rattle.cg_edit.proofs.moved.+precedes.Goals.{preceded_all-then-has_name+in_ok-push_both, preceded_all-else-has_name+in_ok-push}
use Rattle.cg_edit.proofs.moved.+precedes.Goals as goal

pub preceded_all-loop-node-preserved : goal.preceded_all-loop-node-preserved
preceded_all-loop-node-preserved t c =
    let name = c.args.name.now in
    let added = tree_of c.args.added.now in
    let items = c.nodes-node-items.result.now in
    let i = c.loop-node.node-index in
    let node = c.node-item.result in
    let next = ap (λ us. preceded_all name added us) (sym (trees_to-next items i node c.loop-node-test.true c.node-item.is)) in
    elim c.if-has_name.branch [
      | preceded_all-then-has_name+in_ok-push_both w ↦
          ap trees_of w.after-is ∙ w.in_ok-push_both.ensures
          ∙ ap₂ (λ us u. trees_with (trees_with us added) u) c.loop-node.invariant c.in_ok-same.ensures
          ∙ sym (preceded_all-own name added (trees_to items i) (tree_of node) (sym c.has_name.ensures ∙ w.if-has_name.true))
          ∙ next
      | preceded_all-else-has_name+in_ok-push w ↦
          ap trees_of w.after-is ∙ w.in_ok-push.ensures.trees
          ∙ ap₂ (λ us u. trees_with us u) c.loop-node.invariant c.in_ok-same.ensures
          ∙ sym (preceded_all-else name added (trees_to items i) (tree_of node) (sym c.has_name.ensures ∙ w.if-has_name.false))
          ∙ next
    ]

pub preceded_all-returns : goal.preceded_all-returns
preceded_all-returns t c =
    let items = c.nodes-node-items.result.now in
    let all = trees_to-all items c.loop-node.node-index c.loop-node-test.false
    ∙ ap (λ xs. trees (map tree_of xs)) c.nodes-node-items.ensures ∙ sym (trees_of-all c.args.members.now) in
    c.loop-node.invariant ∙ ap (λ us. preceded_all c.args.name.now (tree_of c.args.added.now) us) all
