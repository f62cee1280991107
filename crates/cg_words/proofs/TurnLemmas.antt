-- The turns of a list.
use Rattle.std.proofs.Common.{◌≡◌, ℕ, ◌<◌, ◌≤◌, List, [], ◌∷◌, length, map, get_or, All, refl, sym, ap, ap₂, ◌∙◌, subst, arith}
use Rattle.std.specs.List.{AllZip}
use Rattle.std.proofs.lemmas.List.{length-map, get_or-map}
use Rattle.std.proofs.lemmas.List.Elements.{All-nil, All-cons, All-weaker}
use Rattle.cg_num.specs.Decimal.{number_of}
use Rattle.cg_words.specs.Words.{IsNumeral, IsTurn, AreTurns}
use Rattle.cg_words.specs.Reading.{parts_of, HasPart, SaysTurn, SaysNoTurn}
use Rattle.cg_words.proofs.CutLemmas.{HasNoComma, parts-of-list, list-of-parts, some-part, numeral-comma}

-- Parts that say turns.
record ArePartsTurns (sessions : ℕ) (parts : List (List ℕ)) (turns : List ℕ) : Type 0 where
  digits : All IsNumeral parts
  numbers : turns ≡ map number_of parts
  known : All (IsTurn sessions) turns

-- what was read part by part
parts-turns : (sessions : ℕ) (parts : List (List ℕ)) (turns : List ℕ) → AllZip (SaysTurn sessions) parts turns → ArePartsTurns sessions parts turns
parts-turns sessions [] [] h = record { digits = All-nil IsNumeral; numbers = refl; known = All-nil (IsTurn sessions) }
parts-turns sessions [] (turn ∷ turns) h = absurd h
parts-turns sessions (part ∷ parts) [] h = absurd h
parts-turns sessions (part ∷ parts) (turn ∷ turns) h =
    let more = parts-turns sessions parts turns h.1 in
    let one = h.0 in
    record {
      digits = All-cons IsNumeral part parts one.numeral more.digits;
      numbers = ap₂ (λ n ns. n ∷ ns) one.number more.numbers;
      known = All-cons (IsTurn sessions) turn turns one.known more.known;
    }

-- the parts of turns are their numerals
turn-parts : (sessions : ℕ) (list turns : List ℕ) (h : AreTurns sessions list turns) → parts_of list ≡ h.numerals
turn-parts sessions list turns h =
    parts-of-list list h.numerals h.form (omega (arith, h.some, ap length h.numbers, length-map h.numerals number_of)) (All-weaker IsNumeral HasNoComma numeral-comma h.numerals h.digits)

-- so a list has one set of turns
pub one-turns : (sessions : ℕ) (list x y : List ℕ) → AreTurns sessions list x → AreTurns sessions list y → x ≡ y
one-turns sessions list x y first second =
    first.numbers ∙ ap (map number_of) (sym (turn-parts sessions list x first) ∙ turn-parts sessions list y second) ∙ sym second.numbers

-- what was read is the turns
pub read-turns : (sessions : ℕ) (list read turns : List ℕ) → AllZip (SaysTurn sessions) (parts_of list) read → AreTurns sessions list turns → turns ≡ read
read-turns sessions list read turns h are =
    are.numbers ∙ ap (map number_of) (sym (turn-parts sessions list turns are)) ∙ sym (parts-turns sessions (parts_of list) read h).numbers

-- what was read is turns where it is few
pub are-turns : (sessions : ℕ) (list read : List ℕ) → AllZip (SaysTurn sessions) (parts_of list) read → length read ≤ 10000 → AreTurns sessions list read
are-turns sessions list read h few =
    let parts = parts-turns sessions (parts_of list) read h in
    record {
      numerals = parts_of list;
      form = list-of-parts list (parts_of list) refl;
      some = omega (arith, ap length parts.numbers, length-map (parts_of list) number_of, some-part list);
      few = few;
      digits = parts.digits;
      numbers = parts.numbers;
      known = parts.known;
    }

-- a part that says no turn
pub no-turn : (sessions : ℕ) (list turns : List ℕ) → HasPart (SaysNoTurn sessions) list → AreTurns sessions list turns → ⊥
no-turn sessions list turns (part, (k, below, here), faulty) are =
    let parts = turn-parts sessions list turns are in
    let within : k < length are.numerals = omega (arith, ap length parts) in
    let inside : k < length turns = omega (arith, within, ap length are.numbers, length-map are.numerals number_of) in
    let text : get_or are.numerals k part ≡ part = sym (ap (λ ps. get_or ps k part) parts) ∙ here in
    let number : get_or turns k 0 ≡ number_of part = ap (λ ns. get_or ns k 0) are.numbers ∙ get_or-map number_of are.numerals k part 0 within ∙ ap number_of text in
    faulty (get_or turns k 0) (record {
      numeral = subst IsNumeral text (are.digits k part within);
      number = number;
      known = are.known k 0 inside;
    })

-- too many were read
pub many-turns : (sessions : ℕ) (list read turns : List ℕ) → AllZip (SaysTurn sessions) (parts_of list) read → 10000 < length read → AreTurns sessions list turns → ⊥
many-turns sessions list read turns h many are = omega (arith, many, are.few, ap length (read-turns sessions list read turns h are))
