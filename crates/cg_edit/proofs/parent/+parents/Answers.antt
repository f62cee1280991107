use Rattle.std.proofs.Common.{◌≡◌, ◌+◌, ◌∙◌, cond, map, sym, ap, Some}
use Rattle.cg_model.specs.Group.{kind_in}
use Rattle.cg_model.specs.Node.{tree_of, trees, trees_of}
use Rattle.cg_model.proofs.NodeLemmas.{trees_from, trees_from-next, trees_from-past, trees_of-all}
use Rattle.cg_sharing.specs.Edit.{or_else, parent_below, parent_in}
use Rattle.cg_edit.proofs.KindLemmas.{first_found}
use Rattle.cg_edit.proofs.parent.+parents.Goals as goal

pub parent_in-returns-then-has_name : goal.parent_in-returns-then-has_name
parent_in-returns-then-has_name t c =
    let name = c.args.name.now in
    let kind = kind_in c.args.kind in
    let items = c.nodes-node-items.result.now in
    let i = c.loop-node.node-index in
    let node = c.node-item.result in
    let other = or_else (parent_below name (tree_of node)) (parent_in name kind (trees_from items (i + 1))) in
    let all = ap (λ ts. parent_in name kind ts) (trees_of-all c.args.members.now ∙ ap (λ xs. trees (map tree_of xs)) (sym c.nodes-node-items.ensures))
    ∙ c.loop-node.invariant
    ∙ ap (λ ts. parent_in name kind ts) (trees_from-next items i node c.loop-node-test.true c.node-item.is)
    ∙ ap (λ b. cond b (Some kind) other) (sym c.has_name.ensures ∙ c.if-has_name.true) in
    sym all

pub parent_in-returns-then-is_some : goal.parent_in-returns-then-is_some
parent_in-returns-then-is_some t c =
    let name = c.args.name.now in
    let kind = kind_in c.args.kind in
    let items = c.nodes-node-items.result.now in
    let i = c.loop-node.node-index in
    let node = c.node-item.result in
    let rest = parent_in name kind (trees_from items (i + 1)) in
    let all = ap (λ ts. parent_in name kind ts) (trees_of-all c.args.members.now ∙ ap (λ xs. trees (map tree_of xs)) (sym c.nodes-node-items.ensures))
    ∙ c.loop-node.invariant
    ∙ ap (λ ts. parent_in name kind ts) (trees_from-next items i node c.loop-node-test.true c.node-item.is)
    ∙ ap (λ b. cond b (Some kind) (or_else (parent_below name (tree_of node)) rest)) (sym c.has_name.ensures ∙ c.if-has_name.false) in
    first_found c.parent_below-found.result (parent_below name (tree_of node)) rest (sym c.is_some.ensures ∙ c.if-is_some.true) c.parent_below-found.ensures
    ∙ sym all

pub parent_in-returns : goal.parent_in-returns
parent_in-returns t c =
    let name = c.args.name.now in
    let kind = kind_in c.args.kind in
    let items = c.nodes-node-items.result.now in
    let all = ap (λ ts. parent_in name kind ts) (trees_of-all c.args.members.now ∙ ap (λ xs. trees (map tree_of xs)) (sym c.nodes-node-items.ensures))
    ∙ c.loop-node.invariant
    ∙ ap (λ ts. parent_in name kind ts) (trees_from-past items c.loop-node.node-index c.loop-node-test.false) in
    sym all
