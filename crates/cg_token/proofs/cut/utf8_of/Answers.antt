use Rattle.std.proofs.Common.{◌≡◌, Bool, true, false, refl, List, ℕ}
use Rattle.std.specs.Str.{IsUtf8, is_utf8}
use Rattle.std.proofs.lemmas.Str.{is_utf8-from_IsUtf8, IsUtf8-from_is_utf8}
use Rattle.cg_token.proofs.cut.utf8_of.Goals as goal

not_text : (bytes : List ℕ) (b : Bool) → is_utf8 bytes ≡ b → (IsUtf8 bytes → ⊥) → b ≡ false
not_text bytes true e un = absurd (un (IsUtf8-from_is_utf8 bytes e))
not_text bytes false e un = refl

pub returns-in-Ok : goal.returns-in-Ok
returns-in-Ok c = rw (c.in-Ok.ensures.cases.0, is_utf8-from_IsUtf8 _ c.in-Ok.ensures.cases.1) refl

pub returns-in-Err : goal.returns-in-Err
returns-in-Err c = rw (not_text _ (is_utf8 _) refl c.in-Err.ensures.cases.0) refl
