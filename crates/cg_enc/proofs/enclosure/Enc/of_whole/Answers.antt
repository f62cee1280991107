use Rattle.cg_enc.proofs.WholeNumbers.{of_whole_encloses, of_whole_loss, of_whole_exact, of_whole-is_zero, of_whole-exponent}
use Rattle.cg_enc.proofs.enclosure.Enc.of_whole.Goals as goal

pub returns-clause-encloses : goal.returns-clause-encloses
returns-clause-encloses c = rw c.whole.ensures (of_whole_encloses c.args.n c.ranges.n.fits)

pub returns-clause-loss : goal.returns-clause-loss
returns-clause-loss c = rw c.whole.ensures (of_whole_loss c.args.n c.ranges.n.fits)

pub returns-clause-exact : goal.returns-clause-exact
returns-clause-exact c = λ small. rw c.whole.ensures (of_whole_exact c.args.n small)

pub returns-clause-zero : goal.returns-clause-zero
returns-clause-zero c = rw c.whole.ensures (of_whole-is_zero c.args.n c.ranges.n.fits)

pub returns-clause-exponent : goal.returns-clause-exponent
returns-clause-exponent c = rw c.whole.ensures (of_whole-exponent c.args.n c.ranges.n.fits)
