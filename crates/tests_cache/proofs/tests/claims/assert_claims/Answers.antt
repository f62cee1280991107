use Rattle.std.proofs.Common.{◌≢◌, ◌∙◌, ap, sym, List, ℕ}
use Rattle.std.specs.Arc.{arc_value}
use Rattle.cg_cache.specs.Cached.{owner}
use Rattle.cg_cache.proofs.OwnerLemmas.{kept_by_end}
use Rattle.tests_cache.proofs.tests.claims.assert_claims.Goals as goal

pub publish-requires-clause-claimed : goal.publish-requires-clause-claimed
publish-requires-clause-claimed g c =
    let first : List ℕ = arc_value c.ticket-first.result.code in
    let others = c.ticket-second.ensures.others first c.ticket-first.result.seat (ap (owner first) c.answer.ensures ∙ c.ticket-first.ensures.owned) in
    ap (owner first) c.answer-2.ensures ∙ others.1

pub give_back-requires : goal.give_back-requires
give_back-requires g c =
    let first : List ℕ = arc_value c.ticket-first.result.code in
    let second : List ℕ = arc_value c.ticket-second.result.code in
    let others = c.ticket-second.ensures.others first c.ticket-first.result.seat (ap (owner first) c.answer.ensures ∙ c.ticket-first.ensures.owned) in
    let apart : second ≢ first = λ e. others.0 (sym e) in
    let kept = kept_by_end second first c.ticket-second.result.seat _ _ (ap (λ v. v.claimed) c.publish.ensures.kept) apart (ap (owner second) c.answer-2.ensures ∙ c.ticket-second.ensures.owned) in
    ap (owner second) c.answer-3.ensures ∙ (c.ticket-third.ensures.others second c.ticket-second.result.seat kept).1

pub publish-requires-2-clause-claimed : goal.publish-requires-2-clause-claimed
publish-requires-2-clause-claimed g c =
    let first : List ℕ = arc_value c.ticket-first.result.code in
    let second : List ℕ = arc_value c.ticket-second.result.code in
    let third : List ℕ = arc_value c.ticket-third.result.code in
    let others = c.ticket-second.ensures.others first c.ticket-first.result.seat (ap (owner first) c.answer.ensures ∙ c.ticket-first.ensures.owned) in
    let kept = kept_by_end second first c.ticket-second.result.seat _ _ (ap (λ v. v.claimed) c.publish.ensures.kept) (λ e. others.0 (sym e)) (ap (owner second) c.answer-2.ensures ∙ c.ticket-second.ensures.owned) in
    let apart : third ≢ second = λ e. (c.ticket-third.ensures.others second c.ticket-second.result.seat kept).0 (sym e) in
    let freed = kept_by_end third second c.ticket-third.result.seat _ _ (ap (λ v. v.claimed) c.give_back.ensures.freed) apart (ap (owner third) c.answer-3.ensures ∙ c.ticket-third.ensures.owned) in
    (c.ticket-fourth.ensures.others third c.ticket-third.result.seat freed).1

pub give_back-requires-2 : goal.give_back-requires-2
give_back-requires-2 g c =
    let first : List ℕ = arc_value c.ticket-first.result.code in
    let second : List ℕ = arc_value c.ticket-second.result.code in
    let third : List ℕ = arc_value c.ticket-third.result.code in
    let fourth : List ℕ = arc_value c.ticket-fourth.result.code in
    let others = c.ticket-second.ensures.others first c.ticket-first.result.seat (ap (owner first) c.answer.ensures ∙ c.ticket-first.ensures.owned) in
    let kept = kept_by_end second first c.ticket-second.result.seat _ _ (ap (λ v. v.claimed) c.publish.ensures.kept) (λ e. others.0 (sym e)) (ap (owner second) c.answer-2.ensures ∙ c.ticket-second.ensures.owned) in
    let seconds = c.ticket-third.ensures.others second c.ticket-second.result.seat kept in
    let freed = kept_by_end third second c.ticket-third.result.seat _ _ (ap (λ v. v.claimed) c.give_back.ensures.freed) (λ e. seconds.0 (sym e)) (ap (owner third) c.answer-3.ensures ∙ c.ticket-third.ensures.owned) in
    let apart : fourth ≢ third = λ e. (c.ticket-fourth.ensures.others third c.ticket-third.result.seat freed).0 (sym e) in
    let last = kept_by_end fourth third c.ticket-fourth.result.seat _ _ (ap (λ v. v.claimed) c.publish-2.ensures.kept) apart c.ticket-fourth.ensures.owned in
    ap (owner fourth) c.answer-4.ensures ∙ last
