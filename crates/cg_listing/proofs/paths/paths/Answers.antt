use Rattle.cg_meaning.specs.Tree.{Phase}
use Rattle.cg_listing.proofs.PathLemmas.{paths-all}
use Rattle.cg_listing.proofs.paths.paths.Goals as goal

pub returns : goal.returns
returns c = paths-all _ _ c.new.result Phase _ _ c.new-paths.ensures.items c.new.ensures c.top.ensures.top c.in_ok-put_all.ensures
