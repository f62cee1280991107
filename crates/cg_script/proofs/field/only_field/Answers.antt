use Rattle.std.proofs.Common.{◌≡◌, ◌<◌, length, sym, ◌∙◌, arith}
use Rattle.std.proofs.lemmas.Bool.Decides.{nat_tests}
use Rattle.cg_script.proofs.FieldLemmas.{only_none, only_is, only_more}
use Rattle.cg_script.proofs.field.only_field.Goals as goal
use Rattle.cg_script.proofs.field.only_field.Goals.{then-is_empty-via-then-is_empty, then-is_empty-via-else-is_empty+then-not-are_blanks}

pub returns-then-is_empty : goal.returns-then-is_empty
returns-then-is_empty c =
    let bytes = c.args.bytes.now in
    let word = c.next_word.result.0.now in
    let ensures = c.next_word.ensures in
    elim c.then-is_empty.branch [
      | then-is_empty-via-then-is_empty w ↦ let none : length word ≡ 0 = grind (arith, nat_tests) in only_none bytes word ensures.word none
      | then-is_empty-via-else-is_empty+then-not-are_blanks w ↦
          let some : 0 < length word = grind (arith, nat_tests) in
          only_more bytes word c.next_word.result.1.now ensures.word ensures.rest some (sym w.are_blanks.ensures ∙ w.if-not-are_blanks.true)
    ]

pub returns : goal.returns
returns c =
    let word = c.next_word.result.0.now in
    let some : 0 < length word = grind (arith, nat_tests) in
    only_is c.args.bytes.now word c.next_word.result.1.now c.next_word.ensures.word c.next_word.ensures.rest some (sym c.are_blanks.ensures ∙ c.if-not-are_blanks.false)
