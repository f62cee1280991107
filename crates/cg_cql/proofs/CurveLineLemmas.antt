-- The line of the curve's name, token by token.
use Rattle.std.proofs.Common.{◌≡◌, ℕ, ◌+◌, Bool, true, false, cond, List, [], ◌∷◌, Option, Some, None, add-one, refl, sym, ap, ◌∙◌, subst, length, ◌≤◌, arith, option_map, slice_get}
use Rattle.std.specs.Option.{option_or, option_and_then}
use Rattle.cg_token.specs.Kind.{Kind, mark, is_last}
use Rattle.cg_token.specs.Cut.{cut}
use Rattle.cg_token.specs.Tokens.{Placed, AreCut, AreOthers, line_after, behind as behind_piece, tokens_in, kinds}
use Rattle.cg_token.specs.View.{kind_of}
use Rattle.cg_token.specs.declared.token.Mark.{Mark}
use Rattle.cg_token.specs.declared.token.Mark.TheVariants.{ParenOpen, Equals}
use Rattle.cg_token.specs.declared.token.Token.{Token}
use Rattle.cg_token.specs.declared.token.Token.TheVariants as tokens
use Rattle.cg_token.proofs.CutLemmas.{cut-once}
use Rattle.cg_grammar.specs.CurveLine.{is_curve, place_behind, name_place, IsCurveLine}
use Rattle.cg_cql.specs.declared.naming.Naming.{Naming}
use Rattle.cg_cql.specs.declared.naming.Naming.TheVariants.{Nothing, Word, Equated, Opening}
use Rattle.cg_cql.specs.CurveLine.{line_in, the_word, line_from}
use Rattle.cg_cql.proofs.LoopLemmas.{Next, next_of}

-- a token on a line
abbrev placed : ℕ → Kind → Placed
placed l k = record { line = l; kind = k }

-- the line at a place
abbrev line_at : List Placed → Option ℕ → Option ℕ
line_at ts p = option_map (λ (t : Placed). t.line) (option_and_then (λ n. slice_get ts n) p)

-- a place behind one token more
behind : (t : Placed) (ts : List Placed) (p : Option ℕ) → line_at (t ∷ ts) (option_map (λ n. n + 1) p) ≡ line_at ts p
behind t ts None = refl
behind t ts (Some n) = rw add-one refl

-- the line, from what stands behind the first token
line_is : (t : Placed) (ts : List Placed) (p : Option ℕ) → cond (is_curve t.kind) (place_behind (kinds ts)) None ≡ p → line_in (t ∷ ts) ≡ line_at ts (option_or p (name_place (kinds ts)))
line_is t ts p h = rw h (behind t ts (option_or p (name_place (kinds ts))))

-- no name is behind a token
pass : (t : Placed) (ts : List Placed) → cond (is_curve t.kind) (place_behind (kinds ts)) None ≡ None → line_in (t ∷ ts) ≡ line_in ts
pass t ts h = line_is t ts None h

-- a token that is not the word Curve
pub other-line : (k : Kind) → is_curve k ≡ false → (l : ℕ) (ts : List Placed) → line_in ts ≡ line_in (record { line = l; kind = k } ∷ ts)
other-line k h l ts = sym (pass (placed l k) ts (rw h refl))

-- one that is
pub word-line : (k : Kind) → is_curve k ≡ true → (l : ℕ) (ts : List Placed) → line_in (the_word ∷ ts) ≡ line_in (record { line = l; kind = k } ∷ ts)
word-line k h l ts = line_is the_word ts (place_behind (kinds ts)) refl ∙ sym (line_is (placed l k) ts (place_behind (kinds ts)) (rw h refl))

-- no text is behind the word Curve and a mark
no_text : (x : Mark) (k : Kind) (l m : ℕ) (ts : List Placed) → place_behind (mark x ∷ k ∷ kinds ts) ≡ None
    → line_in (the_word ∷ placed l (mark x) ∷ placed m k ∷ ts) ≡ line_in (placed m k ∷ ts)
no_text x k l m ts h = pass the_word (placed l (mark x) ∷ placed m k ∷ ts) h ∙ pass (placed l (mark x)) (placed m k ∷ ts) refl

-- what a piece more says
abbrev pub Says : Naming → ℕ → Kind → Naming → Type 0
Says n line k m = (ps : List Placed) → line_from m (tokens_in ps) ≡ line_from n (tokens_in (record { line = line; kind = k } ∷ ps))

-- what a token says by itself
abbrev pub SaysAlone : Kind → Naming → Type 0
SaysAlone k m = (line : ℕ) (ts : List Placed) → line_from m ts ≡ line_in (record { line = line; kind = k } ∷ ts)

-- a token that is no mark, behind the word Curve
pub word-passed : (m : Naming) (t : Token) (line : ℕ) → (t ≡ tokens.Gap → ⊥) → ((x : Mark) → t ≡ tokens.Mark x → ⊥) → SaysAlone (kind_of t) m → Says Word line (kind_of t) m
word-passed m tokens.Gap line g x h ps = absurd (g refl)
word-passed m (tokens.Mark y) line g x h ps = absurd (x y refl)
word-passed m t line g x h ps = h line (tokens_in ps) ∙ sym (pass the_word (placed line (kind_of t) ∷ tokens_in ps) refl)

-- one that is no text, behind an equals sign
pub equals-passed : (m : Naming) (t : Token) (line : ℕ) → (t ≡ tokens.Gap → ⊥) → ((n : _) → t ≡ tokens.Text n → ⊥) → SaysAlone (kind_of t) m → Says Equated line (kind_of t) m
equals-passed m tokens.Gap line g x h ps = absurd (g refl)
equals-passed m (tokens.Text n) line g x h ps = absurd (x n refl)
equals-passed m t line g x h ps = h line (tokens_in ps) ∙ sym (no_text Equals (kind_of t) 0 line (tokens_in ps) refl)

-- behind an opening parenthesis
pub paren-passed : (m : Naming) (t : Token) (line : ℕ) → (t ≡ tokens.Gap → ⊥) → ((n : _) → t ≡ tokens.Text n → ⊥) → SaysAlone (kind_of t) m → Says Opening line (kind_of t) m
paren-passed m tokens.Gap line g x h ps = absurd (g refl)
paren-passed m (tokens.Text n) line g x h ps = absurd (x n refl)
paren-passed m t line g x h ps = h line (tokens_in ps) ∙ sym (no_text ParenOpen (kind_of t) 0 line (tokens_in ps) refl)

-- the line of the name, from the pieces that are to come
pub record Names (bytes : List ℕ) (line : ℕ) (rest : List ℕ) (n : Naming) : Type 0 where
  pub pieces : List Placed
  pub others : List Placed
  pub cut : AreCut 1 bytes pieces
  pub next : AreCut line rest others
  pub told : line_in (tokens_in pieces) ≡ line_from n (tokens_in others)
  pub fits : line + length rest ≤ length bytes + 1

-- nothing is read
pub names-begin : (bytes : List ℕ) (line : ℕ) (rest : List ℕ) → line ≡ 1 → rest ≡ bytes → Names bytes line rest Nothing
names-begin bytes line rest l r =
    let c = cut-once 1 bytes in
    record { pieces = c.pieces; others = c.pieces; cut = c.cut; next = rw (l, r) c.cut; told = refl; fits = rw (l, r) (omega arith) }

-- the line is that which the others tell
taken : (bytes : List ℕ) (line : ℕ) (rest : List ℕ) (n m : Naming) (k : Kind) → (f : Names bytes line rest n) → k ≡ (cut rest).kind → Says n line k m
    → (x : Next line rest f.others) → line_in (tokens_in f.pieces) ≡ line_from m (tokens_in x.more)
taken bytes line rest n m k f e says x =
    let at_is : x.at ≡ placed line k = rw (sym x.line_is, e, sym x.kind) refl in
    f.told ∙ ap (λ (ts : List Placed). line_from n (tokens_in ts)) (x.whole ∙ ap (λ (t : Placed). t ∷ x.more) at_is) ∙ sym (says x.more)

-- a piece is passed
pub names-on : (bytes : List ℕ) (line : ℕ) (rest : List ℕ) (n m : Naming) (k : Kind) → Names bytes line rest n → k ≡ (cut rest).kind → Says n line k m → is_last k ≡ false
    → (now : ℕ) (after : List ℕ) → now ≡ line_after line rest → after ≡ behind_piece rest → now + length after ≤ line + length rest → Names bytes now after m
names-on bytes line rest n m k f e says h now after ne ae le =
    let x = next_of line rest f.others f.next in
    let next : AreCut (line_after line rest) (behind_piece rest) x.more =
    subst (λ (q : Bool). AreOthers q x.more (AreCut (line_after line rest) (behind_piece rest) x.more)) (ap is_last (x.kind ∙ sym e) ∙ h) x.after in
    record { pieces = f.pieces; others = x.more; cut = f.cut; next = rw (ne, ae) next; told = taken bytes line rest n m k f e says x; fits = let g = f.fits in omega (arith, g, le) }

-- the last piece is passed
pub names-end : (bytes : List ℕ) (line : ℕ) (rest : List ℕ) (n m : Naming) (k : Kind) → Names bytes line rest n → k ≡ (cut rest).kind → Says n line k m → is_last k ≡ true → IsCurveLine bytes (line_from m [])
names-end bytes line rest n m k f e says h =
    let x = next_of line rest f.others f.next in
    let none : x.more ≡ [] = subst (λ (q : Bool). AreOthers q x.more (AreCut (line_after line rest) (behind_piece rest) x.more)) (ap is_last (x.kind ∙ sym e) ∙ h) x.after in
    record { pieces = f.pieces; cut = f.cut; told = sym (taken bytes line rest n m k f e says x ∙ ap (λ (ts : List Placed). line_from m (tokens_in ts)) none) }
