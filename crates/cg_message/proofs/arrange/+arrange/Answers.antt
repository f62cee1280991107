use Rattle.std.proofs.Common.{◌≡◌, ◌+◌, arith, sym, ap, ◌∙◌}
use Rattle.std.proofs.lemmas.Result.{IfOk-weaker}
use Rattle.cg_meaning.specs.Tree.{more, count, count_all}
use Rattle.cg_model.specs.Node.{tree_of}
use Rattle.cg_model.proofs.NodeLemmas.{trees_from, trees_from-next, trees_from-past}
use Rattle.cg_message.specs.Arranged.{arranged_in, items_with}
use Rattle.cg_model.specs.Limits.{groups_in}
use Rattle.cg_model.proofs.TreeLemmas.{length-nodes_of}
use Rattle.cg_message.specs.Element.{placed_in, places_in}
use Rattle.cg_message.specs.Parts.{size_of}
use Rattle.cg_message.specs.Placed.{elements_with, joined, members_of, placed_of}
use Rattle.cg_message.proofs.ArrangedLemmas.{IsNext, is_next-boundary, is_next-element, items_with-end, joined-with, joined-none}
use Rattle.cg_message.proofs.arrange.+arrange.Goals.{items_of-then-is_boundary+in_ok-push_boundary, items_of-else-is_boundary+in_ok-element_of+in_ok-push}
use Rattle.cg_message.proofs.arrange.+arrange.Goals as goal

pub members_of-loop-node-preserved : goal.members_of-loop-node-preserved
members_of-loop-node-preserved t c =
    let items = c.nodes-node-items.result.now in
    let place = c.loop-node.node-index in
    let node = tree_of c.node-item.result in
    let later = trees_from items (place + 1) in
    let next = c.loop-node.next in
    let at = c.loop-node.at in
    let here : trees_from items place ≡ more node later = trees_from-next items place c.node-item.result c.loop-node-test.true c.node-item.is in
    let events = ap count_all here in
    let groups = ap groups_in here in
    let own : c.events.result ≡ count node = omega (arith, c.events.ensures, events, c.loop-node.invariant.events) in
    let size : c.events-in-loop-node.result + c.groups.result ≡ size_of node =
    omega (arith, c.events-in-loop-node.ensures, c.groups.ensures, events, groups, c.loop-node.invariant.events, c.loop-node.invariant.nodes, length-nodes_of node) in
    record {
      value = rw (own, size)
          (ap (λ es. joined es (members_of (next + count node) (at + size_of node) later)) (c.in_ok-push.ensures ∙ ap (elements_with (places_in c.loop-node.elements)) c.in_ok-element_of.ensures)
          ∙ joined-with (places_in c.loop-node.elements) (members_of (next + count node) (at + size_of node) later) (placed_of next at node)
          ∙ ap (λ ts. joined (places_in c.loop-node.elements) (members_of next at ts)) (sym here)
          ∙ c.loop-node.invariant.value);
      events = omega (arith, c.loop-node.invariant.events, own, events);
      nodes = omega (arith, c.loop-node.invariant.nodes, size, events, groups, length-nodes_of node);
    }

pub members_of-returns : goal.members_of-returns
members_of-returns t c =
    let past = trees_from-past c.nodes-node-items.result.now c.loop-node.node-index c.loop-node-test.false in
    sym (joined-none (places_in c.loop-node.elements)) ∙ ap (λ ts. joined (places_in c.loop-node.elements) (members_of c.loop-node.next c.loop-node.at ts)) (sym past) ∙ c.loop-node.invariant.value

pub items_of-loop-node-preserved : goal.items_of-loop-node-preserved
items_of-loop-node-preserved t c =
    let items = c.nodes-node-items.result.now in
    let place = c.loop-node.node-index in
    let node = tree_of c.node-item.result in
    let later = trees_from items (place + 1) in
    let next = c.loop-node.next in
    let at = c.loop-node.at in
    let so_far = arranged_in c.loop-node.items in
    let here : trees_from items place ≡ more node later = trees_from-next items place c.node-item.result c.loop-node-test.true c.node-item.is in
    let events = ap count_all here in
    let groups = ap groups_in here in
    let own : c.events.result ≡ count node = omega (arith, c.events.ensures, events, c.loop-node.invariant.events) in
    let size : c.events-in-loop-node.result + c.groups.result ≡ size_of node =
    omega (arith, c.events-in-loop-node.ensures, c.groups.ensures, events, groups, c.loop-node.invariant.events, c.loop-node.invariant.nodes, length-nodes_of node) in
    let step : IsNext so_far (arranged_in c.if-is_boundary.items) next at node = elim c.if-is_boundary.branch [
      | items_of-then-is_boundary+in_ok-push_boundary w ↦
          is_next-boundary so_far _ next at node (sym c.is_boundary.ensures ∙ w.if-is_boundary.true) (ap arranged_in w.items-is ∙ w.in_ok-push_boundary.ensures)
      | items_of-else-is_boundary+in_ok-element_of+in_ok-push w ↦
          is_next-element so_far _ next at node (placed_in w.in_ok-element_of.field-0) (sym c.is_boundary.ensures ∙ w.if-is_boundary.false) w.in_ok-element_of.ensures (ap arranged_in w.items-is ∙ w.in_ok-push.ensures)
    ] in
    record {
      value = rw (own, size) (step.items later ∙ ap (items_with so_far next at) (sym here) ∙ c.loop-node.invariant.value);
      plain = step.plain c.loop-node.invariant.plain;
      events = omega (arith, c.loop-node.invariant.events, own, events);
      nodes = omega (arith, c.loop-node.invariant.nodes, size, events, groups, length-nodes_of node);
    }

pub items_of-returns : goal.items_of-returns
items_of-returns t c =
    let so_far = arranged_in c.loop-node.items in
    let past = trees_from-past c.nodes-node-items.result.now c.loop-node.node-index c.loop-node-test.false in
    let all = sym (items_with-end so_far c.loop-node.next c.loop-node.at c.loop-node.invariant.plain) ∙ ap (items_with so_far c.loop-node.next c.loop-node.at) (sym past) ∙ c.loop-node.invariant.value in
    IfOk-weaker c.items.result _ _ (λ es is. is ∙ all) c.items.ensures
