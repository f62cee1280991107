use Rattle.cg_ranges.proofs.CoverLemmas.{ranges-cover}
use Rattle.cg_ranges.proofs.laws.ranges_cover.Goals as goal

pub returns : goal.returns
returns c = ranges-cover
