use Rattle.std.proofs.Common.{length}
use Rattle.cg_listing.proofs.path.+precedes.Given as goal

abbrev pub decreases-precedes : goal.decreases-precedes
decreases-precedes l = length l.p.now
