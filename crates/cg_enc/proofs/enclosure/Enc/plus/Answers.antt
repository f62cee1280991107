use Rattle.cg_enc.proofs.Sums.{plus-IsSum}
use Rattle.cg_enc.proofs.enclosure.Enc.plus.Goals as goal

pub returns-clause-encloses : goal.returns-clause-encloses
returns-clause-encloses c = rw c.sum.ensures.value (plus-IsSum _ _ c.sum.ensures.valid.0 c.sum.ensures.valid.1).encloses

pub returns-clause-loss : goal.returns-clause-loss
returns-clause-loss c = rw c.sum.ensures.value (plus-IsSum _ _ c.sum.ensures.valid.0 c.sum.ensures.valid.1).loss

pub returns-clause-zero : goal.returns-clause-zero
returns-clause-zero c = rw c.sum.ensures.value (plus-IsSum _ _ c.sum.ensures.valid.0 c.sum.ensures.valid.1).zero

pub returns-clause-exponent : goal.returns-clause-exponent
returns-clause-exponent c = rw c.sum.ensures.value (plus-IsSum _ _ c.sum.ensures.valid.0 c.sum.ensures.valid.1).exponent
