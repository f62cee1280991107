-- What stands in front of bytes, and how many bytes it has. After the OxCal 4 manual (CQL2); comments are chron's own.
use Rattle.std.specs.Prelude.{◌≡◌, true, ℕ, ◌+◌, suc, Bool, ◌==◌, ◌&&◌, ◌||◌, not, nat_lt, nat_le, List, [], ◌∷◌, length, take, slice_index, if◌then◌else◌, Result, Ok, Err, ℤ}
use Rattle.std.specs.Char.{is_ascii_alphabetic, is_ascii_alphanumeric, is_ascii_digit}
use Rattle.std.specs.List.{prefix_len, list_all}
use Rattle.std.specs.Str.{is_utf8}
use Rattle.cg_num.specs.Decimal.{decimal_of}
use Rattle.cg_num.specs.declared.decimal.NumFault.{NumFault}
use Rattle.cg_token.specs.declared.token.Mark.TheVariants.{ParenOpen, ParenClose, BraceOpen, BraceClose, Comma, Semicolon, Equals}
use Rattle.cg_token.specs.Kind.{Kind, gap, word, text, number, mark, ended, unreadable}

-- space, tab, CR and LF
abbrev pub is_blank : ℕ → Bool
is_blank c = c == 32 || (c == 9 || (c == 13 || c == 10))

-- a letter or an underscore
abbrev pub begins_word : ℕ → Bool
begins_word c = is_ascii_alphabetic c || c == 95

-- a letter, a digit or an underscore
abbrev pub in_word : ℕ → Bool
in_word c = is_ascii_alphanumeric c || c == 95

-- a plus, a minus or a digit
abbrev pub begins_number : ℕ → Bool
begins_number c = c == 43 || (c == 45 || is_ascii_digit c)

-- a digit or a point
abbrev pub in_number : ℕ → Bool
in_number c = is_ascii_digit c || c == 46

-- neither a control character nor a quote
abbrev pub in_text : ℕ → Bool
in_text c = nat_le 32 c && not (c == 34 || c == 127)

-- not the end of a line
abbrev pub in_line : ℕ → Bool
in_line c = not (c == 10)

-- a piece, and how many bytes it has
pub record Cut : Type 0 where
  pub kind : Kind
  pub used : ℕ

-- a piece of this kind and length
abbrev pub made : Kind → ℕ → Cut
made kind used = record { kind = kind; used = used }

-- no token
abbrev pub nothing : Cut
nothing = made unreadable 0

-- how many bytes stand before a star that a slash follows, or all of them
abbrev pub open_len : List ℕ → ℕ
open_len [] = 0
open_len (c ∷ cs) = if c == 42 && slice_index cs 0 == 47 then 0 else suc (open_len cs)

-- a comment, from what stands behind its first slash
abbrev pub comment_at : List ℕ → Cut
comment_at [] = nothing
comment_at (c ∷ cs) =
    if c == 47 then made gap (prefix_len in_line cs + 2)
    else (if c == 42 && nat_lt (open_len cs) (length cs) then made gap (open_len cs + 4)
    else nothing)

-- a text, from what stands behind its first quote
abbrev pub text_at : List ℕ → Cut
text_at bytes =
    let len = prefix_len in_text bytes in
    if slice_index bytes len == 34 && is_utf8 (take len bytes) then made (text (take len bytes)) (len + 2) else nothing

-- a number, if its bytes say one
abbrev pub number_if : Result ℤ NumFault → ℕ → Cut
number_if (Ok value) len = made (number value) len
number_if (Err fault) len = nothing

-- a number: a sign or a digit, and the digits and points behind it
abbrev pub number_at : ℕ → List ℕ → Cut
number_at c cs =
    let len = suc (prefix_len in_number cs) in number_if (decimal_of (take len (c ∷ cs))) len

-- a mark of one byte
abbrev pub mark_at : ℕ → Cut
mark_at c =
    if c == 40 then made (mark ParenOpen) 1
    else (if c == 41 then made (mark ParenClose) 1
    else (if c == 123 then made (mark BraceOpen) 1
    else (if c == 125 then made (mark BraceClose) 1
    else (if c == 44 then made (mark Comma) 1
    else (if c == 59 then made (mark Semicolon) 1
    else (if c == 61 then made (mark Equals) 1
    else nothing))))))

-- the piece in front of bytes that are not empty
abbrev pub cut_at : ℕ → List ℕ → Cut
cut_at c cs =
    if is_blank c then made gap 1
    else (if begins_word c then (let len = prefix_len in_word cs + 1 in made (word (take len (c ∷ cs))) len)
    else (if begins_number c then number_at c cs
    else (if c == 34 then text_at cs
    else (if c == 47 then comment_at cs
    else mark_at c))))

-- the piece in front
unfoldable pub cut : List ℕ → Cut
cut [] = made ended 0
cut (c ∷ cs) = cut_at c cs

-- letters, digits and underscores alone
pub record IsWord (w : List ℕ) : Type 0 where
  pub letters : list_all in_word w ≡ true

-- the word of a token is one
abbrev pub AreWords : Kind → Type 0
AreWords (word w) = IsWord w
AreWords _ = Unit {0}
