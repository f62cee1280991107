use Rattle.std.proofs.Common.{◌+◌, ◌≤◌, arith, map, vec_len, vec_capacity}
use Rattle.std.specs.Arc.{arc_value}
use Rattle.std.proofs.lemmas.List.{map-append}
use Rattle.cg_cache.specs.Claims.{answered as claim_answered}
use Rattle.cg_cache.specs.Deeds.{empty_of}
use Rattle.cg_cache.specs.Slots.{cached_of}
use Rattle.cg_book.specs.Plain.{answer_in, answered, entry_in}
use Rattle.cg_book.proofs.ClaimLemmas.{claim-told, claim-noted}
use Rattle.cg_book.proofs.book.Book.claim.Goals as goal

pub invariant_of-self-2 : goal.invariant_of-self-2
invariant_of-self-2 g c =
    let room : vec_len c.push_reserved.new.self + (1 + c.self.inside.claims) ≤ vec_capacity c.push_reserved.new.self =
    omega (arith, c.in-Ok.ensures.ok, c.push_reserved.ensures.len, c.push_reserved.ensures.capacity) in
    rw (c.push_reserved.ensures.items, map-append, c.in-Ok.ensures.items, c.in-Ok-try_clone.ensures, c.open_after-self-inside.ensures)
    (claim-noted {before = cached_of c.self.inside.cache} {after = cached_of c.claim.new.self} c.args.seat (arc_value c.args.code) (claim_answered c.claim.result) (answered c.reply_to_claim-reply.result)
    (answer_in c.in-Some.answer) c.self.inside.claims (vec_len c.push_reserved.new.self) (vec_capacity c.push_reserved.new.self)
    c.in-Some.ensures c.reply_to_claim-reply.ensures.answer c.claim.ensures.answer c.claim.ensures.lists c.self.invariant.0 c.self.invariant.1.counted room)

pub returns-clause-step : goal.returns-clause-step
returns-clause-step g c =
    let told = claim-told {before = cached_of c.self.inside.cache} (arc_value c.args.code) (claim_answered c.claim.result) (answered c.reply_to_claim-reply.result) (answer_in c.in-Some.answer)
    c.in-Some.ensures c.reply_to_claim-reply.ensures.answer c.claim.ensures.answer c.self.invariant.0 in
    rw (← c.self.view_is, ← c.in-Some.ensures)
    (told, simp (c.push_reserved.ensures.items, map-append, c.in-Ok.ensures.items, c.in-Ok-try_clone.ensures, c.claim.ensures.origin))

pub returns-clause-carries : goal.returns-clause-carries
returns-clause-carries g c =
    c.reply_to_claim-reply.ensures.carries record {
      start = record { state = c.self.inside.start.value; cached = empty_of c.self.inside.capacity.value };
      journal = map entry_in c.push_reserved.new.self.items;
      origin = c.claim.new.self.origin;
    }
    c.args.seat (arc_value c.args.code) (rw c.claim.ensures.origin c.claim.ensures.handed)
