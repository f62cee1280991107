use Rattle.cg_enc.proofs.Roots.{root-IsRoot}
use Rattle.cg_enc.proofs.enclosure.Enc.root.Goals as goal

pub returns-clause-encloses : goal.returns-clause-encloses
returns-clause-encloses c = rw c.rooted.ensures.value (root-IsRoot _ c.rooted.ensures.valid).encloses

pub returns-clause-loss : goal.returns-clause-loss
returns-clause-loss c = rw c.rooted.ensures.value (root-IsRoot _ c.rooted.ensures.valid).loss

pub returns-clause-zero : goal.returns-clause-zero
returns-clause-zero c = rw c.rooted.ensures.value (root-IsRoot _ c.rooted.ensures.valid).zero

pub returns-clause-exponent : goal.returns-clause-exponent
returns-clause-exponent c = rw c.rooted.ensures.value (root-IsRoot _ c.rooted.ensures.valid).exponent
