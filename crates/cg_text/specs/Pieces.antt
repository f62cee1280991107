-- How pieces are cut off the front of bytes: each with what comes after it, or none.
use Rattle.std.specs.Prelude.{ℕ, Bool, not, ◌==◌, ◌&&◌, ◌||◌, List, [], ◌∷◌, length, take, drop, codes, Option, Some, None, nat_le, if◌then◌else◌, slice_index}
use Rattle.std.specs.List.{prefix_len}
use Rattle.std.specs.Char.{is_ascii_digit, is_ascii_alphanumeric}
use Rattle.cg_num.specs.Decimal.{number_of}
use Rattle.cg_meaning.specs.Tree.{Name}

-- one piece after another, until one is missing
infixl 10 ◌>>=◌
abbrev pub ◌>>=◌ : {A B : Type 0} → Option A → (A → Option B) → Option B
None >>= f = None
(Some x) >>= f = f x

-- what comes after this word
abbrev pub after : List ℕ → List ℕ → Option (List ℕ)
after [] bytes = Some bytes
after (c ∷ word) [] = None
after (c ∷ word) (b ∷ bytes) = if b == c then after word bytes else None

-- what stands behind a word is read so, and where the word does not stand in front, the other is taken
abbrev pub behind_or : {A : Type 0} → Option (List ℕ) → (List ℕ → Option A) → Option A → Option A
behind_or (Some behind) read other = read behind
behind_or None read other = other

-- the bytes that pass a test, up to the first that does not: at least one and so many at most
abbrev pub run_at : (ℕ → Bool) → ℕ → List ℕ → Option (List ℕ × List ℕ)
run_at passes most bytes =
    let len = prefix_len passes bytes in
    if nat_le 1 len && nat_le len most then Some (take len bytes, drop len bytes) else None

-- 1 to 20 letters or digits, with no other behind them
abbrev pub letters_at : List ℕ → Option (List ℕ × List ℕ)
letters_at bytes = run_at is_ascii_alphanumeric 20 bytes

-- the same between two quotes
abbrev pub text_at : List ℕ → Option (Name × List ℕ)
text_at bytes =
    after (codes "\"") bytes >>= λ from. letters_at from >>= λ text.
    after (codes "\"") text.1 >>= λ rest. Some (text.0, rest)

-- at least one digit and so many at most, and no zero before another digit
abbrev pub is_plain : ℕ → List ℕ → Bool
is_plain most digits = nat_le 1 (length digits) && nat_le (length digits) most && (length digits == 1 || not (slice_index digits 0 == 48))

-- a number written so, with no other digit behind it
abbrev pub number_at : ℕ → List ℕ → Option (ℕ × List ℕ)
number_at most bytes =
    let len = prefix_len is_ascii_digit bytes in
    if is_plain most (take len bytes) then Some (number_of (take len bytes), drop len bytes) else None
