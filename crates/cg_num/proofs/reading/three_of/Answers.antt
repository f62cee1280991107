use Rattle.cg_num.proofs.DigitLemmas.{three_of_copied}
use Rattle.cg_num.proofs.reading.three_of.Goals as goal

pub returns : goal.returns
returns c = rw (c.copy_from_slice.ensures.after, c.min-len.ensures) (three_of_copied c.args.decimals.now)
