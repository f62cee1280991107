use Rattle.std.proofs.Common.{◌≡◌, ◌+◌, sym, ap, ◌∙◌, arith}
use Rattle.cg_meaning.specs.Tree.{count}
use Rattle.cg_meaning.specs.Pairs.{boundary_after}
use Rattle.cg_model.specs.Member.{trees_from}
use Rattle.cg_model.specs.Node.{items_of, tree_of}
use Rattle.cg_listing.proofs.MemberLemmas.{trees_from-get, events_next}
use Rattle.cg_listing.proofs.PairLemmas.{boundary_after-first, boundary_after-later}
use Rattle.cg_listing.proofs.pairs.boundary_after.Goals as goal

pub returns-then-is_boundary : goal.returns-then-is_boundary
returns-then-is_boundary c =
    let place = c.loop-place.place in
    let node = c.get-node.result.now in
    let here = trees_from-get (items_of c.args.members.now) place node c.get-node.ensures in
    sym (c.loop-place.invariant.same ∙ ap (λ ts. boundary_after c.loop-place.next ts) here
    ∙ boundary_after-first c.loop-place.next (tree_of node) (trees_from c.args.members.now (place + 1)) (sym c.is_boundary.ensures ∙ c.if-is_boundary.true))

pub overflow_add-next : goal.overflow_add-next
overflow_add-next c =
    let events = events_next (items_of c.args.members.now) c.loop-place.place c.get-node.result.now c.get-node.ensures in
    omega (arith, c.events-next.ensures, events, c.loop-place.invariant.fits)

pub loop-place-preserved : goal.loop-place-preserved
loop-place-preserved c =
    let place = c.loop-place.place in
    let node = c.get-node.result.now in
    let later = trees_from c.args.members.now (place + 1) in
    let here = trees_from-get (items_of c.args.members.now) place node c.get-node.ensures in
    let events = events_next (items_of c.args.members.now) place node c.get-node.ensures in
    let own : c.events-next.result ≡ count (tree_of node) = omega (arith, c.events-next.ensures, events, c.loop-place.invariant.fits) in
    record {
      fits = omega (arith, own, events, c.loop-place.invariant.fits);
      same = c.loop-place.invariant.same ∙ ap (λ ts. boundary_after c.loop-place.next ts) here
          ∙ boundary_after-later c.loop-place.next (tree_of node) later (sym c.is_boundary.ensures ∙ c.if-is_boundary.false)
          ∙ ap (λ n. boundary_after (c.loop-place.next + n) later) (sym own);
    }
