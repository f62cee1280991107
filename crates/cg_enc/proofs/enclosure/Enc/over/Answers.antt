use Rattle.cg_enc.proofs.Quotients.{over-IsQuotient}
use Rattle.cg_enc.proofs.enclosure.Enc.over.Goals as goal

pub returns-clause-encloses : goal.returns-clause-encloses
returns-clause-encloses c = rw c.quotient.ensures.value (over-IsQuotient _ _ c.quotient.ensures.valid.0 c.quotient.ensures.valid.1 c.requires.firm).encloses

pub returns-clause-loss : goal.returns-clause-loss
returns-clause-loss c = rw c.quotient.ensures.value (over-IsQuotient _ _ c.quotient.ensures.valid.0 c.quotient.ensures.valid.1 c.requires.firm).loss

pub returns-clause-zero : goal.returns-clause-zero
returns-clause-zero c = rw c.quotient.ensures.value (over-IsQuotient _ _ c.quotient.ensures.valid.0 c.quotient.ensures.valid.1 c.requires.firm).zero

pub returns-clause-exponent : goal.returns-clause-exponent
returns-clause-exponent c = rw c.quotient.ensures.value (over-IsQuotient _ _ c.quotient.ensures.valid.0 c.quotient.ensures.valid.1 c.requires.firm).exponent
