-- The first line of some bytes, and the lines behind it.
use Rattle.std.proofs.Common.{◌≡◌, ℕ, ◌+◌, ◌<◌, ◌≤◌, Bool, true, false, eqb, List, [], ◌∷◌, length, take, drop, refl, sym, ap, ◌∙◌, arith, length-drop, drop-drop, take_all}
use Rattle.std.specs.List.{prefix_len, slice_split, onto_first, position_or_len, before_first, after_first}
use Rattle.std.specs.Str.Lines.{lines, lines_of_parts, strip_carriage_return}
use Rattle.std.proofs.lemmas.Bool.Decides.{nat_tests}
use Rattle.std.proofs.lemmas.List.Splits.{slice_split_first, length-slice_split}
use Rattle.cg_token.specs.Cut.{in_line}

-- the byte ends a line
abbrev is_end : ℕ → Bool
is_end c = eqb c 10

-- one byte more, by whether it ends a line
split_more : (c : ℕ) (cs : List ℕ) (ends : Bool) → is_end c ≡ ends
    → (length cs ≤ prefix_len in_line cs → slice_split is_end cs ≡ cs ∷ [])
    → length (c ∷ cs) ≤ prefix_len in_line (c ∷ cs) → slice_split is_end (c ∷ cs) ≡ (c ∷ cs) ∷ []
split_more c cs true e rest long =
    let none : prefix_len in_line (c ∷ cs) ≡ 0 = rw e refl in absurd (omega (arith, none))
split_more c cs false e rest long =
    let more : prefix_len in_line (c ∷ cs) ≡ 1 + prefix_len in_line cs = rw e refl in
    let within : length cs ≤ prefix_len in_line cs = omega (arith, more) in
    let split : slice_split is_end (c ∷ cs) ≡ onto_first c (slice_split is_end cs) = rw e refl in
    split ∙ ap (λ parts. onto_first c parts) (rest within)

-- bytes without the end of a line are one part
split_whole : (bs : List ℕ) → length bs ≤ prefix_len in_line bs → slice_split is_end bs ≡ bs ∷ []
split_whole [] long = refl
split_whole (c ∷ cs) long = split_more c cs (is_end c) refl (split_whole cs) long

nil_of : (bs : List ℕ) → length bs ≡ 0 → bs ≡ []
nil_of [] h = refl
nil_of (c ∷ cs) h = absurd (omega arith)

one_part : (bs : List ℕ) → 0 < length bs → lines_of_parts (bs ∷ []) ≡ bs ∷ []
one_part bs some = let e : eqb (length bs) 0 ≡ false = grind (arith, nat_tests) in rw e refl

-- bytes without the end of a line are one line, if there are any
pub last_line : (bs : List ℕ) (n : ℕ) (line behind : List ℕ) → n ≡ prefix_len in_line bs → line ≡ take n bs → behind ≡ drop n bs
    → 0 < length bs → length behind ≡ 0 → lines bs ≡ line ∷ lines behind
last_line bs n line behind e is_line is_behind some none =
    let long : length bs ≤ n = omega (arith, length-drop n bs, ap length is_behind) in
    let whole : length bs ≤ prefix_len in_line bs = omega (arith, long, e) in
    let all : line ≡ bs = is_line ∙ take_all n bs long in
    ap lines_of_parts (split_whole bs whole) ∙ one_part bs some ∙ sym (rw (all, nil_of behind none) refl)

parts_more : (x : List ℕ) (parts : List (List ℕ)) → 0 < length parts → lines_of_parts (x ∷ parts) ≡ strip_carriage_return x ∷ lines_of_parts parts
parts_more x [] some = absurd (omega arith)
parts_more x (y ∷ ys) some = refl

-- a line before its end, and the lines behind that
pub ended_line : (bs : List ℕ) (n : ℕ) (line behind : List ℕ) → n ≡ prefix_len in_line bs → line ≡ strip_carriage_return (take n bs) → behind ≡ drop 1 (drop n bs)
    → 0 < length (drop n bs) → lines bs ≡ line ∷ lines behind
ended_line bs n line behind e is_line is_behind more =
    let within : position_or_len is_end bs < length bs = omega (arith, length-drop n bs, e) in
    let after : behind ≡ after_first is_end bs = is_behind ∙ drop-drop 1 n bs ∙ ap (λ (k : ℕ). drop (k + 1) bs) e in
    let before : line ≡ strip_carriage_return (before_first is_end bs) = is_line ∙ ap (λ (k : ℕ). strip_carriage_return (take k bs)) e in
    let some : 0 < length (slice_split is_end (after_first is_end bs)) = omega (arith, length-slice_split is_end (after_first is_end bs)) in
    ap lines_of_parts (slice_split_first is_end bs 0 within) ∙ parts_more (before_first is_end bs) (slice_split is_end (after_first is_end bs)) some
    ∙ sym (rw (after, before) refl)
