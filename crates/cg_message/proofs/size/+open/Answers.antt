use Rattle.std.proofs.Common.{arith}
use Rattle.cg_message.specs.Element.{element_in}
use Rattle.cg_recipe.proofs.BoundsElements.{open-few}
use Rattle.cg_message.proofs.SizeLemmas.{open-next, events-next}
use Rattle.cg_message.proofs.size.+open.Goals as goal

pub open_in-overflow_add-sum : goal.open_in-overflow_add-sum
open_in-overflow_add-sum t c =
    let e = c.e-item.result in
    omega (arith, c.open_events-sum.ensures, open-few (element_in e), events-next c.args.items.now c.loop-e.e-index e c.loop-e-test.true c.e-item.is, c.loop-e.invariant.few)

pub open_in-loop-e-preserved : goal.open_in-loop-e-preserved
open_in-loop-e-preserved t c =
    let e = c.e-item.result in
    record {
      sum = omega (arith, c.loop-e.invariant.sum, open-next c.args.items.now c.loop-e.e-index e c.loop-e-test.true c.e-item.is, c.open_events-sum.ensures);
      few = omega (arith, c.loop-e.invariant.few, events-next c.args.items.now c.loop-e.e-index e c.loop-e-test.true c.e-item.is, c.open_events-sum.ensures, open-few (element_in e));
    }
