use Rattle.std.proofs.Common.{◌≡◌, bytes_eq, sym, ap, ◌∙◌, arith}
use Rattle.std.proofs.lemmas.Slice.Eq.{bytes_eq-Decides}
use Rattle.cg_words.specs.Reading.{are_distinct}
use Rattle.cg_words.proofs.FilesLemmas.{are-named, names-nothing, too-many, name-twice, distinct-are}
use Rattle.cg_words.proofs.words.models_in.Goals as goal
use Rattle.cg_words.proofs.words.models_in.Goals.{else-len-le-MAX_MODELS-via-then-len-le-MAX_MODELS+else-are_names_distinct, else-len-le-MAX_MODELS-via-else-len-le-MAX_MODELS}

pub returns-in_default-clause-none : goal.returns-in_default-clause-none
returns-in_default-clause-none c = λ named are.
    names-nothing 8 ◌≡◌ c.args.list.now named (rw c.in_default.is at c.in_ok-models.ensures.none) are

pub returns-then-are_names_distinct-clause-some : goal.returns-then-are_names_distinct-clause-some
returns-then-are_names_distinct-clause-some c =
    let read = rw c.in-Some.is at c.in_ok-models.ensures.some in
    let test = sym (c.are_names_distinct.ensures ∙ ap (are_distinct bytes_eq) c.as_slice.ensures.value) ∙ c.if-are_names_distinct.true in
    are-named 8 ◌≡◌ c.args.list.now c.in-Some.models.items read (omega (arith, c.in-Some.models.ok.0))
    ((distinct-are bytes_eq ◌≡◌ bytes_eq-Decides c.in-Some.models.items).0 test)

pub returns-clause-none : goal.returns-clause-none
returns-clause-none c = λ named are.
    let read = rw c.in-Some.is at c.in_ok-models.ensures.some in
    elim c.else-len-le-MAX_MODELS.branch [
      | else-len-le-MAX_MODELS-via-then-len-le-MAX_MODELS+else-are_names_distinct w ↦
          name-twice bytes_eq 8 ◌≡◌ bytes_eq-Decides c.args.list.now c.in-Some.models.items named read
          (sym (w.are_names_distinct.ensures ∙ ap (are_distinct bytes_eq) w.as_slice.ensures.value) ∙ w.if-are_names_distinct.false) are
      | else-len-le-MAX_MODELS-via-else-len-le-MAX_MODELS w ↦
          too-many 8 ◌≡◌ c.args.list.now c.in-Some.models.items named read (omega (arith, c.in-Some.models.ok.0, w.if-len-le-MAX_MODELS.false)) are
    ]
