use Rattle.std.proofs.Common.{◌∙◌, map, sym, ap, ap₂}
use Rattle.cg_model.specs.Node.{tree_of, trees, trees_with}
use Rattle.cg_model.proofs.NodeLemmas.{trees_of-all}
use Rattle.cg_sharing.specs.Edit.{extended_all}
use Rattle.cg_edit.proofs.CopyLemmas.{trees_to, trees_to-next, trees_to-all, extended_all-trees_with}
use Rattle.cg_edit.proofs.copy.+extends.Goals as goal

pub extended_all-loop-node-preserved : goal.extended_all-loop-node-preserved
extended_all-loop-node-preserved t c =
    let name = c.args.name.now in
    let added = tree_of c.args.added.now in
    let items = c.nodes-node-items.result.now in
    let i = c.loop-node.node-index in
    let node = c.node-item.result in
    c.in_ok-push.ensures.trees
    ∙ ap₂ (λ us u. trees_with us u) c.loop-node.invariant c.in_ok-extended.ensures
    ∙ sym (extended_all-trees_with name added (trees_to items i) (tree_of node))
    ∙ ap (λ us. extended_all name added us) (sym (trees_to-next items i node c.loop-node-test.true c.node-item.is))

pub extended_all-returns : goal.extended_all-returns
extended_all-returns t c =
    let items = c.nodes-node-items.result.now in
    let all = trees_to-all items c.loop-node.node-index c.loop-node-test.false
    ∙ ap (λ xs. trees (map tree_of xs)) c.nodes-node-items.ensures ∙ sym (trees_of-all c.args.members.now) in
    c.loop-node.invariant ∙ ap (λ us. extended_all c.args.name.now (tree_of c.args.added.now) us) all
