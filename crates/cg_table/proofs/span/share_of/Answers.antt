use Rattle.std.proofs.Common.{arith}
use Rattle.cg_table.proofs.WithinLemmas.{whole-IsFirm}
use Rattle.cg_table.proofs.span.share_of.Goals as goal

pub over-requires-clause-firm : goal.over-requires-clause-firm
over-requires-clause-firm c = rw (c.of_whole-whole.ensures.value) (whole-IsFirm c.args.span c.requires.some (omega (arith, c.requires.few)))

pub returns-clause-near : goal.returns-clause-near
returns-clause-near c = let near = c.over.ensures.exponent 66 66 c.of_whole-one.ensures.exponent c.of_whole-whole.ensures.exponent in (omega (arith, near.0), omega (arith, near.1))
