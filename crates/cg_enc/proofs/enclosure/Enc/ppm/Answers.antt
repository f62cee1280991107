use Rattle.cg_enc.proofs.Shares.{Shared, ppm-ordered, ppm_above-is_zero, ppm-encloses}
use Rattle.cg_enc.proofs.enclosure.Enc.ppm.Goals as goal

shared : (c : goal.After-share) → Shared c.args.num.now c.args.den.now
shared c = record { part = c.share.ensures.valid.0; whole = c.share.ensures.valid.1; firm = c.requires.firm }

pub returns-clause-within : goal.returns-clause-within
returns-clause-within c = rw (c.share.ensures.lower, c.share.ensures.upper) (ppm-ordered c.args.num.now c.args.den.now (shared c))

pub returns-clause-encloses : goal.returns-clause-encloses
returns-clause-encloses c = λ n d n' d' part whole le. rw (c.share.ensures.lower, c.share.ensures.upper) (ppm-encloses c.args.num.now c.args.den.now (shared c) n d n' d' part whole le)

pub returns-clause-zero : goal.returns-clause-zero
returns-clause-zero c = rw c.share.ensures.upper (ppm_above-is_zero c.args.num.now c.args.den.now (shared c))
