use Rattle.cg_enc.proofs.Margins.{margin-IsMargin}
use Rattle.cg_enc.proofs.enclosure.Enc.margin.Goals as goal

pub returns-clause-encloses : goal.returns-clause-encloses
returns-clause-encloses c = rw c.widened.ensures.value (margin-IsMargin _ c.widened.ensures.valid).encloses

pub returns-clause-loss : goal.returns-clause-loss
returns-clause-loss c = rw c.widened.ensures.value (margin-IsMargin _ c.widened.ensures.valid).loss

pub returns-clause-zero : goal.returns-clause-zero
returns-clause-zero c = rw c.widened.ensures.value (margin-IsMargin _ c.widened.ensures.valid).zero

pub returns-clause-exponent : goal.returns-clause-exponent
returns-clause-exponent c = rw c.widened.ensures.value (margin-IsMargin _ c.widened.ensures.valid).exponent
