use Rattle.std.proofs.Common.{sym}
use Rattle.cg_enc.proofs.Powers.{floor_none}
use Rattle.cg_enc.proofs.sum.floor_shift.Goals as goal

pub returns-else-places-lt64 : goal.returns-else-places-lt64
returns-else-places-lt64 c = sym (floor_none c.args.n 64 c.args.places c.ranges.n.fits c.if-places-lt64.false)
