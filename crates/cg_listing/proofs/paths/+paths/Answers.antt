use Rattle.std.proofs.Common.{◌+◌, ◌++◌, map, sym, ap, ◌∙◌}
use Rattle.cg_meaning.specs.Tree.{paths_of_all}
use Rattle.cg_model.specs.Node.{items_of, tree_of}
use Rattle.cg_model.proofs.NodeLemmas.{trees_from}
use Rattle.cg_model.specs.Group.{kind_in}
use Rattle.cg_listing.proofs.MemberLemmas.{trees_from-get}
use Rattle.cg_listing.proofs.PathLemmas.{paths-next}
use Rattle.cg_listing.proofs.paths.+paths.Goals as goal

pub put_all-loop-place-preserved : goal.put_all-loop-place-preserved
put_all-loop-place-preserved t c =
    let items = items_of c.args.members.now in
    let place = c.loop-place.place in
    let kind = kind_in c.args.kind in
    let next = trees_from-get items place c.get.result.now c.get.ensures in
    paths-next c.loop-place.paths.items c.put.new.paths.items c.args.to.now c.in_ok-inner.inner kind place (tree_of c.get.result.now)
    (trees_from items (place + 1)) c.in_ok-inner.ensures c.in_ok-put.ensures
    ∙ ap (λ ts. c.loop-place.paths.items ++ map (λ path. c.args.to.now ++ path) (paths_of_all kind place ts)) (sym next) ∙ c.loop-place.invariant
