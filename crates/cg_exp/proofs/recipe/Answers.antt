use Rattle.std.proofs.Common.{negsuc, ap, arith, ◌∙◌}
use Rattle.cg_enc.specs.Enclosure.{Enclosure, IsExponent}
use Rattle.cg_exp.specs.Exponential.{squared, halved}
use Rattle.cg_exp.proofs.Starting.{IsStart}
use Rattle.cg_exp.proofs.Recipes.{halved-is, reduced-IsStart}
use Rattle.cg_exp.proofs.recipe.Goals as goal

ends : (c : goal.After-series-above) → IsStart c.series-below.result c.series-above.result
ends c = reduced-IsStart c.args.p c.args.q c.halvings-h.result c.reduce-y.result.below c.reduce-y.result.above c.series-below.result c.series-above.result c.requires.some c.halvings-h.ensures.small c.reduce-y.ensures.below c.reduce-y.ensures.above c.series-below.ensures.value c.series-above.ensures.value

pub of_bounds-requires-clause-ordered : goal.of_bounds-requires-clause-ordered
of_bounds-requires-clause-ordered c = (ends c).ordered

pub of_bounds-requires-clause-some : goal.of_bounds-requires-clause-some
of_bounds-requires-clause-some c = omega (arith, (ends c).least)

pub squared-requires-clause-reach : goal.squared-requires-clause-reach
squared-requires-clause-reach c =
    let far : IsExponent 62 (negsuc 61) = (omega arith, omega arith) in
    let near : IsExponent 124 c.of_bounds.result.exp = c.of_bounds.ensures.exponent 62 far in
    (omega (arith, near), omega (arith, near))

pub returns : goal.returns
returns c =
    c.squared.ensures ∙ ap (λ (a : Enclosure). squared a c.halvings-h.result) c.of_bounds.ensures.value ∙
    halved-is c.args.p c.args.q c.halvings-h.result c.reduce-y.result.below c.reduce-y.result.above c.series-below.result c.series-above.result c.reduce-y.ensures.below c.reduce-y.ensures.above c.series-below.ensures.value c.series-above.ensures.value ∙
    ap (halved c.args.p c.args.q) c.halvings-h.ensures.value
