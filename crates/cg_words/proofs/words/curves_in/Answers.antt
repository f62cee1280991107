use Rattle.std.proofs.Common.{sym, ap, ◌∙◌, arith}
use Rattle.cg_curve.specs.Curves.{IsSameCurveName}
use Rattle.cg_words.specs.Reading.{is_same_name, are_distinct}
use Rattle.cg_words.proofs.FilesLemmas.{are-named, names-nothing, too-many, name-twice, distinct-are, Decides-is_same_name}
use Rattle.cg_words.proofs.words.curves_in.Goals as goal
use Rattle.cg_words.proofs.words.curves_in.Goals.{else-len-le-MAX_CURVES-via-then-len-le-MAX_CURVES+else-are_curve_names_distinct, else-len-le-MAX_CURVES-via-else-len-le-MAX_CURVES}

pub returns-in_default-clause-none : goal.returns-in_default-clause-none
returns-in_default-clause-none c = λ named are.
    names-nothing 4 IsSameCurveName c.args.list.now named (rw c.in_default.is at c.in_ok-curves.ensures.none) are

pub returns-then-are_curve_names_distinct-clause-some : goal.returns-then-are_curve_names_distinct-clause-some
returns-then-are_curve_names_distinct-clause-some c =
    let read = rw c.in-Some.is at c.in_ok-curves.ensures.some in
    let test = sym (c.are_curve_names_distinct.ensures ∙ ap (are_distinct is_same_name) c.as_slice.ensures.value) ∙ c.if-are_curve_names_distinct.true in
    are-named 4 IsSameCurveName c.args.list.now c.in-Some.curves.items read (omega (arith, c.in-Some.curves.ok.0))
    ((distinct-are is_same_name IsSameCurveName Decides-is_same_name c.in-Some.curves.items).0 test)

pub returns-clause-none : goal.returns-clause-none
returns-clause-none c = λ named are.
    let read = rw c.in-Some.is at c.in_ok-curves.ensures.some in
    elim c.else-len-le-MAX_CURVES.branch [
      | else-len-le-MAX_CURVES-via-then-len-le-MAX_CURVES+else-are_curve_names_distinct w ↦
          name-twice is_same_name 4 IsSameCurveName Decides-is_same_name c.args.list.now c.in-Some.curves.items named read
          (sym (w.are_curve_names_distinct.ensures ∙ ap (are_distinct is_same_name) w.as_slice.ensures.value) ∙ w.if-are_curve_names_distinct.false) are
      | else-len-le-MAX_CURVES-via-else-len-le-MAX_CURVES w ↦
          too-many 4 IsSameCurveName c.args.list.now c.in-Some.curves.items named read (omega (arith, c.in-Some.curves.ok.0, w.if-len-le-MAX_CURVES.false)) are
    ]
