-- Where a few statements name their curve.
use Rattle.std.proofs.Common.{◌≡◌, List, [], ◌∷◌, Some, None, codes, refl}
use Rattle.cg_token.specs.Kind.{Kind, word, text, mark}
use Rattle.cg_token.specs.declared.token.Mark.TheVariants.{ParenOpen, ParenClose, Comma, Semicolon, Equals}
use Rattle.cg_grammar.specs.CurveLine.{name_place}

-- Curve("a");
statement : List Kind
statement = word (codes "Curve") ∷ mark ParenOpen ∷ text (codes "a") ∷ mark ParenClose ∷ mark Semicolon ∷ []

-- the third token
statement-place : name_place statement ≡ Some 2
unfolding statement
statement-place = refl

-- Curve("a","b");
two_texts : List Kind
two_texts = word (codes "Curve") ∷ mark ParenOpen ∷ text (codes "a") ∷ mark Comma ∷ text (codes "b") ∷ mark ParenClose ∷ mark Semicolon ∷ []

-- the fifth
two_texts-place : name_place two_texts ≡ Some 4
unfolding two_texts
two_texts-place = refl

-- BCAD=Curve;
value : List Kind
value = word (codes "BCAD") ∷ mark Equals ∷ word (codes "Curve") ∷ mark Semicolon ∷ []

-- none
value-place : name_place value ≡ None
unfolding value
value-place = refl

-- BCAD=Curve;Curve="a";
option : List Kind
option = word (codes "BCAD") ∷ mark Equals ∷ word (codes "Curve") ∷ mark Semicolon ∷ word (codes "Curve") ∷ mark Equals ∷ text (codes "a") ∷ mark Semicolon ∷ []

-- the seventh
option-place : name_place option ≡ Some 6
unfolding option
option-place = refl
