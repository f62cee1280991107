use Rattle.std.proofs.Common.{◌+◌, ◌∙◌, map, sym, ap}
use Rattle.cg_model.specs.Group.{kind_in}
use Rattle.cg_model.specs.Node.{tree_of, trees}
use Rattle.cg_model.proofs.NodeLemmas.{trees_from, trees_from-next, trees_from-past, trees_of-all}
use Rattle.cg_sharing.specs.Edit.{misplaced_in, misplaced_in_all}
use Rattle.cg_edit.proofs.KindLemmas.{first_found}
use Rattle.cg_edit.proofs.misplaced.+misplaced.Goals as goal

pub misplaced_among-returns-then-is_some : goal.misplaced_among-returns-then-is_some
misplaced_among-returns-then-is_some t c =
    let kind = kind_in c.args.parent in
    let items = c.nodes-node-items.result.now in
    let i = c.loop-node.node-index in
    let node = c.node-item.result in
    let rest = misplaced_in_all kind (trees_from items (i + 1)) in
    let all = ap (λ ts. misplaced_in_all kind ts) (trees_of-all c.args.members.now ∙ ap (λ xs. trees (map tree_of xs)) (sym c.nodes-node-items.ensures))
    ∙ c.loop-node.invariant
    ∙ ap (λ ts. misplaced_in_all kind ts) (trees_from-next items i node c.loop-node-test.true c.node-item.is) in
    first_found c.misplaced-found.result (misplaced_in kind (tree_of node)) rest (sym c.is_some.ensures ∙ c.if-is_some.true) c.misplaced-found.ensures
    ∙ sym all

pub misplaced_among-returns : goal.misplaced_among-returns
misplaced_among-returns t c =
    let kind = kind_in c.args.parent in
    let items = c.nodes-node-items.result.now in
    let all = ap (λ ts. misplaced_in_all kind ts) (trees_of-all c.args.members.now ∙ ap (λ xs. trees (map tree_of xs)) (sym c.nodes-node-items.ensures))
    ∙ c.loop-node.invariant
    ∙ ap (λ ts. misplaced_in_all kind ts) (trees_from-past items c.loop-node.node-index c.loop-node-test.false) in
    sym all
