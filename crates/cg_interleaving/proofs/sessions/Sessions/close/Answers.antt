use Rattle.std.proofs.Common.{◌∙◌, ◌++◌, ◌∷◌, [], List, ℕ, map, length, ap, sym, subst, arith, append_assoc, length-append}
use Rattle.std.proofs.lemmas.List.{map-append, length-map}
use Rattle.cg_interleaving.specs.Taking.{AreTexts}
use Rattle.cg_interleaving.proofs.EndLemmas.{count_texts, AreTexts-more}
use Rattle.cg_interleaving.proofs.sessions.Sessions.close.Goals as goal

pub push_reserved-requires : goal.push_reserved-requires
push_reserved-requires c =
    let was = c.loop-session.invariant in
    let count = count_texts c.loop-session.yielded _ was.written in
    omega (
      arith,
      count,
      length-map c.loop-session.transcripts.items (λ transcript. transcript.items),
      c.loop-session.transcripts.ok.0,
      ap length was.whole,
      length-append c.loop-session.yielded c.loop-session.session-iterator.rest.items,
      ap length c.in-Some.ensures.steps.0,
      was.room,
      c.requires.room,
    )

pub loop-session-preserved : goal.loop-session-preserved
loop-session-preserved c =
    let was = c.loop-session.invariant in
    let yielded = c.loop-session.yielded in
    let session = c.in-Some.session in
    let T : List (List ℕ) → Type 0 = λ texts. AreTexts (yielded ++ session ∷ []) texts in
    record {
      whole = append_assoc yielded (session ∷ []) c.next.new.self.rest.items ∙ ap (λ rest. yielded ++ rest) (sym c.in-Some.ensures.steps.0) ∙ was.whole;
      written = subst T (sym (ap (λ ts. map (λ transcript. transcript.items) ts) c.push_reserved.ensures.items ∙ map-append (λ transcript. transcript.items) c.loop-session.transcripts.items (c.into_transcript.result ∷ []))) (AreTexts-more yielded _ session c.into_transcript.result.items was.written c.into_transcript.ensures);
      room = c.push_reserved.ensures.capacity ∙ was.room;
    }
