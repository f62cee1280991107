use Rattle.std.proofs.Common.{◌∙◌, ap, sym, Some, ◌∷◌, List, ℕ}
use Rattle.std.specs.Arc.{arc_value}
use Rattle.cg_cache.specs.Cached.{owner}
use Rattle.cg_cache.specs.Slots.{cached_of}
use Rattle.cg_cache.proofs.OwnerLemmas.{owner_new}
use Rattle.tests_cache.proofs.tests.work.print.Goals as goal

pub publish-requires-clause-claimed : goal.publish-requires-clause-claimed
publish-requires-clause-claimed c =
    let code : List ℕ = arc_value c.args.marginal.code in
    let claims : List (List ℕ × ℕ) = (code, 1) ∷ (cached_of c.args.cache.now).claimed in
    let made = ap (λ v. owner (arc_value c.in-Mine.ticket.code) v.claimed) c.in-Mine.ensures.lists ∙ (ap (λ k. owner k claims) c.in-Mine.ensures.handed.0 ∙ (owner_new code 1 (cached_of c.args.cache.now).claimed ∙ ap (λ s. Some s) (sym c.in-Mine.ensures.handed.1))) in
    c.get_part.ensures (arc_value c.in-Mine.ticket.code) c.in-Mine.ticket.seat made
