use Rattle.std.proofs.Common.{◌≡◌, take, ◌∙◌, sym, ap, arith}
use Rattle.std.specs.Prelude.{count_by}
use Rattle.cg_meaning.specs.Tree.{nodes_of_all}
use Rattle.cg_model.specs.Event.{is_event}
use Rattle.cg_model.specs.Node.{tree_of}
use Rattle.cg_model.proofs.PlaceLemmas.{count_by-yes, count_by-no, count_by-before}
use Rattle.cg_model.proofs.TreeLemmas.{count_by-nodes_of_all}
use Rattle.cg_model.proofs.model.ModelTree.event_number.Goals.{then-is_event, else-is_event}
use Rattle.cg_model.proofs.model.ModelTree.event_number.Goals as goal

pub loop-earlier-preserved : goal.loop-earlier-preserved
loop-earlier-preserved c =
    let nodes = nodes_of_all c.args.self.now.top in
    let earlier = c.loop-earlier.earlier in
    let t = tree_of c.node-in-loop-earlier.result.now in
    elim c.if-is_event.branch [
      | then-is_event w ↦ record {
        counted = omega (arith, c.loop-earlier.invariant.counted, w.number-is, count_by-yes is_event nodes earlier t c.node-in-loop-earlier.ensures.node (sym c.is_event-in-loop-earlier.ensures ∙ w.if-is_event.true));
        few = omega (arith, c.loop-earlier.invariant.few, w.number-is);
      }
      | else-is_event w ↦ record {
        counted = omega (arith, c.loop-earlier.invariant.counted, w.number-is, count_by-no is_event nodes earlier t c.node-in-loop-earlier.ensures.node (sym c.is_event-in-loop-earlier.ensures ∙ w.if-is_event.false));
        few = omega (arith, c.loop-earlier.invariant.few, w.number-is);
      }
    ]

pub returns-clause-within : goal.returns-clause-within
returns-clause-within c =
    let nodes = nodes_of_all c.args.self.now.top in
    let t = tree_of c.node.result.now in
    let last : c.loop-earlier.earlier ≡ c.args.place = omega arith in
    omega (arith, c.loop-earlier.invariant.counted ∙ ap (λ n. count_by is_event (take n nodes)) last, count_by-before is_event nodes c.args.place t c.node.ensures.node (sym c.is_event.ensures ∙ c.if-not-is_event.false), count_by-nodes_of_all c.args.self.now.top)
