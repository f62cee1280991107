use Rattle.std.proofs.Common.{ℕ, ap, sym, ◌∙◌, arith}
use Rattle.cg_exp.specs.Exponential.{step}
use Rattle.cg_exp.proofs.Rounded.{horner_after-first, horner_after-next}
use Rattle.cg_exp.proofs.series.series.Goals as goal

pub loop-done-init : goal.loop-done-init
loop-done-init c = record { value = sym (horner_after-first c.args.y.below c.args.y.above c.args.last); most = omega arith }

pub loop-done-preserved : goal.loop-done-preserved
loop-done-preserved c = record {
  value = c.stepped-value.ensures.value ∙ ap (λ (v : ℕ). step c.args.y.below c.args.y.above c.args.last c.loop-done.done v) c.loop-done.invariant.value ∙ sym (horner_after-next c.args.y.below c.args.y.above c.args.last c.loop-done.done);
  most = c.stepped-value.ensures.most;
}
