use Rattle.std.proofs.Common.{◌≡◌, ◌+◌, ◌++◌, length, sym, ap, ap₂, ◌∙◌, arith}
use Rattle.cg_meaning.specs.Tree.{count, count_all}
use Rattle.cg_meaning.specs.Pairs.{boundary_after, pairs_of_all, pairs_in_sequence}
use Rattle.cg_model.specs.Node.{tree_of}
use Rattle.cg_model.proofs.NodeLemmas.{trees_from, trees_from-next}
use Rattle.cg_listing.specs.Member.{boundary_before}
use Rattle.cg_listing.proofs.PairLemmas.{next-number, pairs_of_all-next, pairs_in_sequence-next}
use Rattle.cg_listing.proofs.pairs.+pairs.Goals as goal

pub put_all-loop-node-preserved : goal.put_all-loop-node-preserved
put_all-loop-node-preserved t c =
    let items = c.nodes-node-items.result.now in
    let index = c.loop-node.node-index in
    let node = tree_of c.node-item.result in
    let done = c.loop-node.pairs.items in
    let here = trees_from-next items index c.node-item.result c.loop-node-test.true c.node-item.is in
    let next = next-number done c.put.new.pairs.items c.args.outer node c.in_ok-put.ensures in
    record {
      fits = omega (arith, c.loop-node.invariant.fits, ap count_all here, next);
      all = pairs_of_all-next done c.put.new.pairs.items c.args.outer node (trees_from items (index + 1)) c.in_ok-put.ensures
          ∙ ap (λ ts. done ++ pairs_of_all c.args.outer (length done) ts) (sym here) ∙ c.loop-node.invariant.all;
    }

pub put_in_sequence-overflow_add-number : goal.put_in_sequence-overflow_add-number
put_in_sequence-overflow_add-number t c =
    let here = trees_from-next c.nodes-node-items.result.now c.loop-place.place c.node-item.result c.loop-place-test.true c.node-item.is in
    omega (arith, c.loop-place.invariant.fits, ap count_all here, c.len-number.ensures, c.events.ensures)

pub put_in_sequence-boundary_after-after-requires : goal.put_in_sequence-boundary_after-after-requires
put_in_sequence-boundary_after-after-requires t c =
    let place = c.loop-place.place in
    let here = trees_from-next c.nodes-node-items.result.now place c.node-item.result c.loop-place-test.true c.node-item.is in
    let later = ap (λ xs. count_all (trees_from xs (place + 1))) c.nodes-node-items.ensures in
    omega (arith, c.loop-place.invariant.fits, ap count_all here, later, c.len-number.ensures, c.events.ensures)

pub put_in_sequence-loop-place-preserved : goal.put_in_sequence-loop-place-preserved
put_in_sequence-loop-place-preserved t c =
    let items = c.nodes-node-items.result.now in
    let place = c.loop-place.place in
    let node = tree_of c.node-item.result in
    let done = c.loop-place.pairs.items in
    let later = trees_from items (place + 1) in
    let here = trees_from-next items place c.node-item.result c.loop-place-test.true c.node-item.is in
    let next = next-number done c.put.new.pairs.items c.pair_for.result node c.in_ok-put.ensures in
    let number : c.len-number.result ≡ length done = c.len-number.ensures ∙ c.loop-place.pairs.ok.0 in
    let own : c.events.result ≡ count node = omega (arith, c.events.ensures, ap count_all here, c.loop-place.invariant.fits) in
    record {
      fits = omega (arith, c.loop-place.invariant.fits, ap count_all here, next);
      all = pairs_in_sequence-next done c.put.new.pairs.items c.args.outer c.pair_for.result c.loop-place.before
          c.boundary_after-after.result c.boundary_before-before.result node later
          (c.boundary_after-after.ensures ∙ ap (λ xs. boundary_after (c.len-number.result + c.events.result) (trees_from xs (place + 1))) (sym c.nodes-node-items.ensures)
          ∙ ap₂ (λ m n. boundary_after (m + n) later) number own)
          c.pair_for.ensures
          (c.boundary_before-before.ensures ∙ ap (λ n. boundary_before node c.loop-place.before n) number) c.in_ok-put.ensures
          ∙ ap (λ ts. done ++ pairs_in_sequence c.args.outer c.loop-place.before (length done) ts) (sym here) ∙ c.loop-place.invariant.all;
    }
