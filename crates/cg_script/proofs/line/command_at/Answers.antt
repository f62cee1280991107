use Rattle.std.proofs.Common.{map, ap, ◌∙◌}
use Rattle.cg_script.specs.Command.{line_in}
use Rattle.cg_script.specs.Words.{behind_blanks}
use Rattle.cg_script.proofs.AnswerLemmas.{answers_at}
use Rattle.cg_script.proofs.line.command_at.Goals as goal

pub returns-in-Some : goal.returns-in-Some
returns-in-Some c =
    answers_at (map line_in c.args.lines.now) c.args.line.now c.next_word.result.0.now c.behind_blanks.result.now c.word_of-word.result c.in-Some.word c.command_of.result
    c.next_word.ensures.word (c.behind_blanks.ensures.value ∙ ap behind_blanks c.next_word.ensures.rest) c.word_of-word.ensures c.in-Some.is
    c.in_ok-check_word.ensures c.in_ok-check_room.ensures c.command_of.ensures
