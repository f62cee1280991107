use Rattle.std.proofs.Common.{◌≡◌, ◌<◌, length, arith}
use Rattle.std.proofs.lemmas.Bool.Decides.{nat_tests}
use Rattle.cg_script.proofs.FieldLemmas.{both_none, both_are, both_more}
use Rattle.cg_script.proofs.field.both_fields.Goals as goal

pub returns-then-is_empty : goal.returns-then-is_empty
returns-then-is_empty c =
    let word = c.next_word.result.0.now in
    let none : length word ≡ 0 = grind (arith, nat_tests) in
    both_none c.args.bytes.now word c.next_word.ensures.word none

pub returns-in_err-second : goal.returns-in_err-second
returns-in_err-second c =
    let word = c.next_word.result.0.now in
    let some : 0 < length word = grind (arith, nat_tests) in
    rw c.from_residual.ensures
    (both_more c.args.bytes.now word c.next_word.result.1.now c.next_word.ensures.word c.next_word.ensures.rest some c.in_err-second.ensures)

pub returns : goal.returns
returns c =
    let word = c.next_word.result.0.now in
    let some : 0 < length word = grind (arith, nat_tests) in
    both_are c.args.bytes.now word c.next_word.result.1.now c.in_ok-second.second.now c.next_word.ensures.word c.next_word.ensures.rest some c.in_ok-second.ensures
