use Rattle.std.proofs.Common.{◌≢◌, ◌∙◌, ap, sym}
use Rattle.std.specs.Arc.{arc_value}
use Rattle.cg_cache.specs.Cached.{owner, Mine}
use Rattle.cg_cache.specs.Slots.{cached_of}
use Rattle.cg_cache.proofs.OwnerLemmas.{mine_not_owned, owned_apart, kept_by_claim, kept_by_end}
use Rattle.tests_cache.proofs.tests.work.get_part.Goals as goal

pub returns-in-Mine : goal.returns-in-Mine
returns-in-Mine c =
    let answer = c.in-Mine.ensures.answer in
    let none = mine_not_owned (cached_of c.args.cache.now) (arc_value c.args.part.code) (sym answer) in
    λ code seat owned.
    let apart : code ≢ arc_value c.in-Mine.ticket.code = λ e. owned_apart code (arc_value c.args.part.code) seat (cached_of c.args.cache.now).claimed owned none (e ∙ c.in-Mine.ensures.handed.0) in
    let made = ap (λ v. owner code v.claimed) c.in-Mine.ensures.lists ∙ kept_by_claim (cached_of c.args.cache.now) 1 (arc_value c.args.part.code) code seat Mine answer owned in
    kept_by_end code (arc_value c.in-Mine.ticket.code) seat _ _ (ap (λ v. v.claimed) c.publish.ensures.kept) apart made
