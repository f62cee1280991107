use Rattle.std.proofs.Common.{◌≡◌, ◌++◌, map}
use Rattle.cg_meaning.specs.Tree.{paths_of_all}
use Rattle.cg_model.specs.Node.{items_of, trees_of}
use Rattle.cg_model.proofs.NodeLemmas.{trees_from}
use Rattle.cg_model.specs.Group.{kind_in}
use Rattle.cg_listing.proofs.paths.+paths.Given as goal

-- the paths so far and those of the members that are left are all
abbrev pub invariant-put_all-loop-place : goal.invariant-put_all-loop-place
invariant-put_all-loop-place l =
    l.paths.items ++ map (λ path. l.to ++ path) (paths_of_all (kind_in l.kind) l.place (trees_from (items_of l.members) l.place))
    ≡ l.initial.paths.items ++ map (λ path. l.to ++ path) (paths_of_all (kind_in l.kind) 0 (trees_of l.members))
