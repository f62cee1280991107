use Rattle.std.proofs.Common.{sym}
use Rattle.cg_enc.proofs.Powers.{floor_none}
use Rattle.cg_enc.proofs.share.floor_shift.Goals as goal

pub returns-else-places-lt128 : goal.returns-else-places-lt128
returns-else-places-lt128 c = sym (floor_none c.args.n 128 c.args.places c.ranges.n.fits c.if-places-lt128.false)
