use Rattle.std.proofs.Common.{◌+◌, length, arith, ap, ◌∙◌, length-append}
use Rattle.std.specs.Prelude.{slice_get}
use Rattle.cg_meaning.specs.Tree.{datings_of, datings_of_all}
use Rattle.cg_model.specs.Node.{tree_of}
use Rattle.cg_model.proofs.NodeLemmas.{trees_from, trees_from-next, trees_from-past, trees_of-all}
use Rattle.cg_model.proofs.PlaceLemmas.{slice_get-front, slice_get-behind}
use Rattle.cg_model.proofs.node.+datings.Goals as goal

pub Members::dating_at-returns-in-Ok-clause-here : goal.Members::dating_at-returns-in-Ok-clause-here
Members::dating_at-returns-in-Ok-clause-here t c =
    let i = c.loop-node.node-index in
    let items = c.nodes-node-items.result.now in
    let next = ap datings_of_all (trees_from-next items i c.node-item.result c.loop-node-test.true c.node-item.is) in
    rw (trees_of-all, ← c.nodes-node-items.ensures)
    (c.loop-node.invariant.here ∙ ap (λ ds. slice_get ds c.loop-node.left) next
    ∙ slice_get-front (datings_of (tree_of c.node-item.result)) (datings_of_all (trees_from items (i + 1))) c.loop-node.left _ c.in-Ok.ensures.here)

pub Members::dating_at-loop-node-preserved : goal.Members::dating_at-loop-node-preserved
Members::dating_at-loop-node-preserved t c =
    let i = c.loop-node.node-index in
    let items = c.nodes-node-items.result.now in
    let own = datings_of (tree_of c.node-item.result) in
    let later = datings_of_all (trees_from items (i + 1)) in
    let next = ap datings_of_all (trees_from-next items i c.node-item.result c.loop-node-test.true c.node-item.is) in
    record {
      here = c.loop-node.invariant.here ∙ ap (λ ds. slice_get ds c.loop-node.left) next
          ∙ slice_get-behind own later c.loop-node.left c.in-Err.rest c.in-Err.ensures.past;
      past = omega (arith, c.loop-node.invariant.past, ap length next, length-append own later, c.in-Err.ensures.past);
    }

pub Members::dating_at-returns-clause-past : goal.Members::dating_at-returns-clause-past
Members::dating_at-returns-clause-past t c =
    let none = ap (λ ts. length (datings_of_all ts)) (trees_from-past c.nodes-node-items.result.now c.loop-node.node-index c.loop-node-test.false) in
    rw (trees_of-all, ← c.nodes-node-items.ensures) (omega (arith, c.loop-node.invariant.past, none))
