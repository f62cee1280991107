use Rattle.std.proofs.Common.{◌+◌, ◌≤◌, arith, map, vec_len, vec_capacity}
use Rattle.std.proofs.lemmas.List.{map-append}
use Rattle.cg_cache.specs.Deeds.{empty_of}
use Rattle.cg_book.specs.Plain.{act_in, answer_in, answered, entry_in}
use Rattle.cg_book.specs.Replies.{question_in}
use Rattle.cg_book.proofs.QuestionLemmas.{carries-tree}
use Rattle.cg_book.proofs.ReplayLemmas.{may-now, versions-now, noted}
use Rattle.cg_book.proofs.book.Book.ask.Goals as goal

pub invariant_of-self-2 : goal.invariant_of-self-2
invariant_of-self-2 g c =
    let may = may-now _ _ c.args.seat (question_in c.args.question) c.self.view_is c.self.invariant.0 c.requires in
    let counted = c.self.invariant.1.counted in
    let room : vec_len c.push_reserved.new.self + c.self.inside.claims ≤ vec_capacity c.push_reserved.new.self =
    omega (arith, c.in-Ok.ensures.ok, c.push_reserved.ensures.len, c.push_reserved.ensures.capacity) in (
      rw (c.push_reserved.ensures.items, map-append, c.in-Ok.ensures.items) (noted c.args.seat c.args.question (act_in c.of-act.result) (answer_in c.in-Some.answer)
          (answered c.reply-reply.result) c.of-act.ensures c.in-Some.ensures c.self.invariant.0 may c.reply-reply.ensures.step),
      record { counted = counted; room = room },
    )

pub returns-clause-carries : goal.returns-clause-carries
returns-clause-carries g c =
    carries-tree g.P.Payload.code_of g.P.Payload.origin_of record {
      start = record { state = c.self.inside.start.value; cached = empty_of c.self.inside.capacity.value };
      journal = map entry_in c.push_reserved.new.self.items;
      origin = c.self.inside.cache.origin;
    }
    c.args.seat (question_in c.args.question) _ c.reply-reply.result (versions-now (invariant_of-self-2 g c).0) c.reply-reply.ensures.carries
