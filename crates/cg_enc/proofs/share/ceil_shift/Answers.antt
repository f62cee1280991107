use Rattle.std.proofs.Common.{arith, sym}
use Rattle.cg_enc.proofs.Powers.{ceil_one}
use Rattle.cg_enc.proofs.share.ceil_shift.Goals as goal

pub returns-else-places-lt128 : goal.returns-else-places-lt128
returns-else-places-lt128 c = sym (ceil_one c.args.n 128 c.args.places c.requires (omega (arith, c.ranges.n.fits)) c.if-places-lt128.false)
