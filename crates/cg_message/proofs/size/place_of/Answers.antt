use Rattle.std.proofs.Common.{◌||◌, sym, ap, ◌∙◌}
use Rattle.cg_part.specs.Elements.{has}
use Rattle.cg_message.specs.Element.{element_in}
use Rattle.cg_message.proofs.SizeLemmas.{before-next, has-next, later_has}
use Rattle.cg_message.proofs.size.place_of.Goals as goal

pub loop-place-preserved : goal.loop-place-preserved
loop-place-preserved c =
    let e = c.index-items-place.result in
    let place = c.loop-place.place in
    let not_here = sym c.has.ensures ∙ c.if-has.false in
    record {
      before = before-next c.args.event c.args.items.now place e c.loop-place-test.true c.index-items-place.is
          ∙ ap (λ b. b || has c.args.event (element_in e)) c.loop-place.invariant.before ∙ not_here;
      later = later_has (has c.args.event (element_in e)) _ not_here
          (sym (has-next c.args.event c.args.items.now place e c.loop-place-test.true c.index-items-place.is) ∙ c.loop-place.invariant.later);
    }
