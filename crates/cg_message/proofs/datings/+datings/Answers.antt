use Rattle.std.proofs.Common.{◌≡◌, ◌+◌, ◌++◌, map, sym, ap, ◌∙◌, append_assoc, append-nil}
use Rattle.cg_meaning.specs.Tree.{more, datings_of, datings_of_all}
use Rattle.cg_model.specs.Dating.{dating_of}
use Rattle.cg_model.specs.Node.{tree_of}
use Rattle.cg_model.proofs.NodeLemmas.{trees_of-all, trees_from, trees_from-next, trees_from-past}
use Rattle.cg_message.proofs.datings.+datings.Goals as goal

pub push_all-loop-node-init : goal.push_all-loop-node-init
push_all-loop-node-init t c =
    ap (λ ts. map dating_of c.args.datings.now.items ++ datings_of_all ts) (ap (λ items. trees_from items 0) c.nodes-node-items.ensures ∙ sym (trees_of-all c.args.members.now))

pub push_all-loop-node-preserved : goal.push_all-loop-node-preserved
push_all-loop-node-preserved t c =
    let items = c.nodes-node-items.result.now in
    let place = c.loop-node.node-index in
    let node = tree_of c.node-item.result in
    let later = trees_from items (place + 1) in
    let here : trees_from items place ≡ more node later = trees_from-next items place c.node-item.result c.loop-node-test.true c.node-item.is in
    ap (λ front. front ++ datings_of_all later) c.in_ok-push_datings.ensures
    ∙ append_assoc (map dating_of c.loop-node.datings.items) (datings_of node) (datings_of_all later)
    ∙ ap (λ ts. map dating_of c.loop-node.datings.items ++ datings_of_all ts) (sym here)
    ∙ c.loop-node.invariant

pub push_all-returns : goal.push_all-returns
push_all-returns t c =
    let items = c.nodes-node-items.result.now in
    sym (append-nil (map dating_of c.loop-node.datings.items))
    ∙ ap (λ ts. map dating_of c.loop-node.datings.items ++ datings_of_all ts) (sym (trees_from-past items c.loop-node.node-index c.loop-node-test.false))
    ∙ c.loop-node.invariant
