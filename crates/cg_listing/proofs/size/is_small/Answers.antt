use Rattle.std.proofs.Common.{◌*◌}
use Rattle.cg_meaning.specs.Pairs.{factorial}
use Rattle.cg_listing.proofs.SizeLemmas.{power-fits}
use Rattle.cg_listing.proofs.size.is_small.Goals as goal

pub returns-in-None : goal.returns-in-None
returns-in-None c = power-fits (c.args.cells * factorial c.args.cells) c.args.events c.in-None.ensures
