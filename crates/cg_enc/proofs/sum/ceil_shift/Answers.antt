use Rattle.std.proofs.Common.{arith, sym}
use Rattle.cg_enc.proofs.Powers.{ceil_one}
use Rattle.cg_enc.proofs.sum.ceil_shift.Goals as goal

pub returns-else-places-lt63 : goal.returns-else-places-lt63
returns-else-places-lt63 c = sym (ceil_one c.args.n 63 c.args.places c.requires.some (omega (arith, c.requires.fits)) c.if-places-lt63.false)
