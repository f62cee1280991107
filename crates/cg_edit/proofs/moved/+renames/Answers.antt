use Rattle.std.proofs.Common.{◌∙◌, map, sym, ap, ap₂}
use Rattle.cg_model.specs.Node.{tree_of, trees, trees_with}
use Rattle.cg_model.proofs.NodeLemmas.{trees_of-all}
use Rattle.cg_sharing.specs.Edit.{renamed_all}
use Rattle.cg_edit.proofs.CopyLemmas.{trees_to, trees_to-next, trees_to-all, renamed_all-trees_with}
use Rattle.cg_edit.proofs.moved.+renames.Goals as goal

pub renamed_all-loop-node-preserved : goal.renamed_all-loop-node-preserved
renamed_all-loop-node-preserved t c =
    let name = c.args.name.now in
    let new = c.args.new.now in
    let items = c.nodes-node-items.result.now in
    let i = c.loop-node.node-index in
    let node = c.node-item.result in
    c.in_ok-push.ensures.trees
    ∙ ap₂ (λ us u. trees_with us u) c.loop-node.invariant c.in_ok-renamed.ensures
    ∙ sym (renamed_all-trees_with name new (trees_to items i) (tree_of node))
    ∙ ap (λ us. renamed_all name new us) (sym (trees_to-next items i node c.loop-node-test.true c.node-item.is))

pub renamed_all-returns : goal.renamed_all-returns
renamed_all-returns t c =
    let items = c.nodes-node-items.result.now in
    let all = trees_to-all items c.loop-node.node-index c.loop-node-test.false
    ∙ ap (λ xs. trees (map tree_of xs)) c.nodes-node-items.ensures ∙ sym (trees_of-all c.args.members.now) in
    c.loop-node.invariant ∙ ap (λ us. renamed_all c.args.name.now c.args.new.now us) all
