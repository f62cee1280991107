use Rattle.std.proofs.Common.{◌≡◌, arith, ◌∙◌, ap}
use Rattle.std.proofs.lemmas.Int.{ints}
use Rattle.cg_enc.specs.Rounding.{norm}
use Rattle.cg_enc.proofs.Widening.{norm_encloses, norm-positive}
use Rattle.cg_enc.proofs.WholeNumbers.{norm_loss_same, norm-exponent_small}
use Rattle.cg_enc.proofs.enclosure.Enc.of_bounds.Goals as goal

value : (c : goal.After-raised) → c.raised.result ≡ norm c.args.lo c.args.hi c.args.exp
value c = c.raised.ensures ∙ ap (norm c.args.lo c.args.hi) (omega (arith, ints))

pub returns-clause-encloses : goal.returns-clause-encloses
returns-clause-encloses c = λ n d h. rw (value c) (norm_encloses c.args.lo c.args.hi c.args.exp n d c.requires.ordered c.requires.some (omega (arith, c.requires.fits)) h)

pub returns-clause-loss : goal.returns-clause-loss
returns-clause-loss c = λ k h. rw (value c) (norm_loss_same c.args.lo c.args.hi c.args.exp k c.requires.ordered c.requires.some c.requires.fits h)

pub returns-clause-positive : goal.returns-clause-positive
returns-clause-positive c = rw (value c) (norm-positive c.args.lo c.args.hi c.args.exp c.requires.ordered c.requires.some (omega (arith, c.requires.fits)))

pub returns-clause-exponent : goal.returns-clause-exponent
returns-clause-exponent c = λ m r. rw (value c) (norm-exponent_small c.args.lo c.args.hi c.args.exp m c.requires.some c.requires.fits r)
