use Rattle.std.proofs.Common.{ℕ, ◌*◌, ◌^◌, ap, ◌∙◌}
use Rattle.std.proofs.Math.Nat.{div-add-mod'}
use Rattle.cg_exp.proofs.Reductions.{Divided, IsReduced, is_reduced, divided_twice, divided-below, divided-rounded, divided-fits, places_fit}
use Rattle.cg_exp.proofs.reduction.reduce.Goals as goal

pub with_places-end-requires-clause-room : goal.with_places-end-requires-clause-room
with_places-end-requires-clause-room c =
    places_fit c.with_places.result.quotient c.args.q c.with_places.result.rest c.args.p c.args.h c.requires.some c.requires.few
    (c.with_places.ensures.value ∙ ap (λ (x : ℕ). x * 2 ^ 32) (div-add-mod' c.args.p c.args.q)) c.requires.small

pub rounded_up-requires : goal.rounded_up-requires
rounded_up-requires c =
    divided-fits c.args.p c.args.q c.args.h c.with_places-end.result.quotient c.with_places-end.result.rest
    (divided_twice c.args.p c.args.q c.args.h c.with_places.result.quotient c.with_places.result.rest c.with_places-end.result.quotient c.with_places-end.result.rest c.requires.few c.with_places-end.ensures.rest c.with_places.ensures.value c.with_places-end.ensures.value)
    c.requires.small

ends : (c : goal.After-rounded_up) → Divided c.args.p c.args.q c.args.h c.with_places-end.result.quotient c.with_places-end.result.rest
ends c = divided_twice c.args.p c.args.q c.args.h c.with_places.result.quotient c.with_places.result.rest _ _ c.requires.few c.with_places-end.ensures.rest c.with_places.ensures.value c.with_places-end.ensures.value

reduced : (c : goal.After-rounded_up) → IsReduced c.args.p (c.args.q * 2 ^ c.args.h) c.with_places-end.result.quotient c.rounded_up.result
reduced c = is_reduced c.args.p c.args.q c.args.h _ _ c.requires.some c.requires.small (divided-below _ _ _ _ _ (ends c)) (c.rounded_up.ensures ∙ divided-rounded _ _ _ _ _ (ends c))

pub returns-clause-below : goal.returns-clause-below
returns-clause-below c = divided-below _ _ _ _ _ (ends c)

pub returns-clause-above : goal.returns-clause-above
returns-clause-above c = c.rounded_up.ensures ∙ divided-rounded _ _ _ _ _ (ends c)

pub returns-clause-ordered : goal.returns-clause-ordered
returns-clause-ordered c = (reduced c).ordered

pub returns-clause-quarter : goal.returns-clause-quarter
returns-clause-quarter c = (reduced c).quarter
