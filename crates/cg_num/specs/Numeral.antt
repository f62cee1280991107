-- The form of a decimal number as text: an optional sign, digits, and optionally a point with digits. chron's own.
use Rattle.std.specs.Prelude.{◌≡◌, ℕ, ◌≤◌, Bool, true, false, ◌==◌, ◌&&◌, ◌||◌, ◌⊎◌, ◌↔◌, List, [], ◌∷◌, ◌++◌, length, take, drop, slice_index, codes, Option, Some, None, IsTrue, nat_lt, if◌then◌else◌}
use Rattle.std.specs.Char.{is_ascii_digit}
use Rattle.std.specs.List.{prefix_len, list_all}

-- the parts that a text is made of: whether its sign is a minus, the digits before its point, and those behind it
pub record Numeral : Type 0 where
  pub negative : Bool
  pub whole : List ℕ
  pub decimals : List ℕ

-- one digit or more, and nothing else
pub record AreDigits (text : List ℕ) : Type 0 where
  pub some : 1 ≤ length text
  pub digits : IsTrue (list_all is_ascii_digit text)

-- a minus, or nothing or a plus
abbrev pub IsSign : Bool → List ℕ → Type 0
IsSign true sign = sign ≡ codes "-"
IsSign false sign = (sign ≡ []) ⊎ (sign ≡ codes "+")

-- a point with digits, or nothing at all
abbrev pub IsFraction : List ℕ → List ℕ → Type 0
IsFraction decimals text = ((decimals ≡ []) × (text ≡ [])) ⊎ (AreDigits decimals × (text ≡ codes "." ++ decimals))

-- the text is made of these parts
pub record Spells (text : List ℕ) (numeral : Numeral) : Type 0 where
  pub sign : List ℕ
  pub fraction : List ℕ
  pub signed : IsSign numeral.negative sign
  pub whole : AreDigits numeral.whole
  pub decimals : IsFraction numeral.decimals fraction
  pub joined : text ≡ sign ++ (numeral.whole ++ fraction)

-- the sign is a minus
abbrev pub is_negative : List ℕ → Bool
is_negative text = slice_index text 0 == 45

-- the text behind its sign
abbrev pub without_sign : List ℕ → List ℕ
without_sign [] = []
without_sign (c ∷ cs) = if c == 43 || c == 45 then cs else c ∷ cs

-- the digits of a fraction, if it is one
abbrev pub decimals_of : List ℕ → Option (List ℕ)
decimals_of [] = Some []
decimals_of (c ∷ cs) = if c == 46 && (nat_lt 0 (length cs) && list_all is_ascii_digit cs) then Some cs else None

-- the numeral of a sign, the whole digits and the decimals, if there are whole digits
abbrev pub joined : Bool → List ℕ → Option (List ℕ) → Option Numeral
joined negative whole None = None
joined negative whole (Some decimals) =
    if length whole == 0 then None else Some (record { negative = negative; whole = whole; decimals = decimals })

-- the parts that the text is made of, if it has the form
abbrev pub numeral_of : List ℕ → Option Numeral
numeral_of text =
    let body = without_sign text in
    let digits = prefix_len is_ascii_digit body in
    joined (is_negative text) (take digits body) (decimals_of (drop digits body))

-- the parts are found in just those texts that are made of them
abbrev pub PartsAreFound : Type 0
PartsAreFound = (text : List ℕ) (numeral : Numeral) → (numeral_of text ≡ Some numeral) ↔ Spells text numeral
