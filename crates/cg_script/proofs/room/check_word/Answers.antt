use Rattle.std.proofs.Common.{◌≡◌, ℕ, Bool, true, false, List, refl, sym, ap, ◌∙◌}
use Rattle.std.specs.Option.{is_some}
use Rattle.std.specs.Str.{IsUtf8, is_utf8}
use Rattle.std.proofs.lemmas.Str.{is_utf8-from_IsUtf8, IsUtf8-from_is_utf8}
use Rattle.cg_script.specs.Words.{cut_word}
use Rattle.cg_script.proofs.room.check_word.Goals as goal

not_text : (bytes : List ℕ) (b : Bool) → is_utf8 bytes ≡ b → (IsUtf8 bytes → ⊥) → b ≡ false
not_text bytes true e un = absurd (un (IsUtf8-from_is_utf8 bytes e))
not_text bytes false e un = refl

pub returns-in_ok-name_of-in-Ok : goal.returns-in_ok-name_of-in-Ok
returns-in_ok-name_of-in-Ok c =
    let text = is_utf8-from_IsUtf8 _ c.in-Ok.ensures.cases.1 in
    let none : is_some c.args.command ≡ false = sym c.is_some.ensures ∙ c.if-is_some.false in
    (rw (text, none) refl, c.in_ok-name_of-in-Ok.ensures ∙ c.cut_word.ensures.value ∙ ap cut_word c.in-Ok.ensures.cases.0)

pub returns-in-Err : goal.returns-in-Err
returns-in-Err c = rw (not_text _ (is_utf8 _) refl c.in-Err.ensures.cases.0) refl
