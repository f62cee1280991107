-- What is answered for a line whose word is known.
use Rattle.std.proofs.Common.{◌≡◌, ℕ, ◌<◌, true, false, ◌&&◌, List, length, Option, Some, Result, Ok, Err, sym, ap, subst, ◌∙◌}
use Rattle.std.specs.Prelude.{is_some, not}
use Rattle.std.specs.Str.{is_utf8}
use Rattle.cg_sharing.specs.Command.{Line}
use Rattle.cg_text.specs.Pieces.{◌>>=◌}
use Rattle.cg_script.specs.Words.{behind_blanks, first_word, after_word, word_of, prints}
use Rattle.cg_script.specs.Written.{Written, shown, written_of}
use Rattle.cg_script.specs.Script.{prints_in, HasRoom, is_unknown}
use Rattle.cg_script.specs.View.{Answers, AnswersAt}
use Rattle.cg_script.specs.declared.word.Word.{Word}
use Rattle.cg_script.specs.declared.command.Command.{Command}
use Rattle.cg_script.specs.declared.fault.ScriptLimit.TheVariants.{Commands, Prints, Years}
use Rattle.cg_script.specs.declared.fault.ScriptCause.{ScriptCause}
use Rattle.cg_script.specs.declared.fault.ScriptCause.TheVariants.{Unknown, Syntax, Statement, Limit, NoMemory}

answers_in_room : (lines : List Line) (line : List ℕ) (result : Result Command ScriptCause) → HasRoom lines line → Answers (written_of line) result → AnswersAt lines line result
answers_in_room lines line (Ok command) room h = (room, h)
answers_in_room lines line (Err Syntax) room h = (room, h)
answers_in_room lines line (Err (Statement cause)) room h = (room, h)
answers_in_room lines line (Err (Limit Years)) room h = (room, h)
answers_in_room lines line (Err (Limit Commands)) room h = absurd h
answers_in_room lines line (Err (Limit Prints)) room h = absurd h
answers_in_room lines line (Err (Unknown name)) room h = absurd h
answers_in_room lines line (Err NoMemory) room h = tt

-- the word of a line was found, and nothing bars it
pub answers_at : (lines : List Line) (line first rest : List ℕ) (found : Option Word) (word : Word) (result : Result Command ScriptCause)
    → first ≡ first_word line → rest ≡ behind_blanks (after_word line) → found ≡ word_of first → found ≡ Some word
    → (is_utf8 first && not (is_some found)) ≡ false → (length lines < 1000) × (prints found ≡ true → prints_in lines < 200)
    → Answers (shown word rest) result → AnswersAt lines line result
answers_at lines line first rest found word result is_first is_rest is_found some known room answers =
    let here : found ≡ word_of (first_word line) = is_found ∙ ap word_of is_first in
    let written : written_of line ≡ shown word rest =
    ap (λ (o : Option Word). o >>= λ w. shown w (behind_blanks (after_word line))) (sym here ∙ some) ∙ ap (λ (r : List ℕ). shown word r) (sym is_rest) in
    let unknown : is_unknown line ≡ false = ap (λ (w : List ℕ). is_utf8 w && not (is_some (word_of w))) (sym is_first) ∙ ap (λ (o : Option Word). is_utf8 first && not (is_some o)) (sym is_found) ∙ known in
    answers_in_room lines line result
    (record { known = unknown; few = room.0; prints = λ h. room.1 (ap prints here ∙ h) })
    (subst (λ (o : Option Written). Answers o result) (sym written) answers)
