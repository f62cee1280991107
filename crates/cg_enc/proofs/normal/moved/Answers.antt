use Rattle.std.proofs.Common.{arith}
use Rattle.std.proofs.lemmas.Nat.{shl_whole}
use Rattle.cg_enc.proofs.normal.moved.Goals as goal

pub returns-clause-value : goal.returns-clause-value
returns-clause-value c = shl_whole c.args.n 64 c.args.places 128 c.ranges.n.fits (omega (arith, c.requires))
