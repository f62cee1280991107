-- What a shelf in memory answers.
use Rattle.std.proofs.Common.{◌≡◌, ◌+◌, ℕ, List, Some, inl, inr, false}
use Rattle.std.specs.Prelude.{Contains, IsTrue}
use Rattle.cg_io.specs.Shelf.{Files, Gives}

-- a file that is there, at a read that is not to fail
pub Gives-found : (told : Files) (name bytes : List ℕ) → told.content name ≡ Some bytes → (Contains told.failing (told.reads + 1) → IsTrue false) → Gives told name bytes
Gives-found told name bytes found unlisted = record { file = found; sound = λ fails. elim fails [ inl listed ↦ (let never = unlisted listed in cc) | inr missing ↦ (cc) ] }
