-- Among options: each token that is taken there belongs to what is spelled.
use Rattle.std.proofs.Common.{◌≡◌, ℕ, Bool, true, false, List, [], ◌∷◌, ◌++◌, Option, Some, None, refl, sym, ap, ◌∙◌, append_assoc, bytes_eq, codes, subst, pos}
use Rattle.std.specs.Ordering.{int_eq}
use Rattle.std.proofs.lemmas.Bool.Decides.{Decides-int_eq}
use Rattle.std.proofs.lemmas.List.{append-nil}
use Rattle.std.proofs.lemmas.Slice.Eq.{bytes_eq-Decides}
use Rattle.cg_token.specs.Kind.{Kind, word, text, number, mark}
use Rattle.cg_token.specs.declared.token.Mark.TheVariants.{BraceOpen, BraceClose, Semicolon, Equals}
use Rattle.cg_grammar.specs.declared.command.Command.TheVariants.{Options}
use Rattle.cg_grammar.specs.declared.command.Setting.{Setting}
use Rattle.cg_grammar.specs.declared.command.Setting.TheVariants as settings
use Rattle.cg_grammar.specs.declared.command.Base.{Base}
use Rattle.cg_grammar.specs.declared.fault.CqlCause.{CqlCause}
use Rattle.cg_grammar.specs.declared.fault.CqlCause.TheVariants as causes
use Rattle.cg_grammar.specs.Words.{setting_of}
use Rattle.cg_grammar.specs.Arguments.{call, is_file, with_ending}
use Rattle.cg_grammar.specs.Done.{Done, with_curve, barred_setting}
use Rattle.cg_grammar.specs.Grammar.{Takes, set, AreSettings, setting, options}
use Rattle.cg_grammar.specs.Steps.{named, valued, Frame, state, path_of, cut_word, unless, at_option, at_named, at_equated, at_valued, name_setting, valued_if}
use Rattle.cg_grammar.proofs.StandsLemmas.{Whole, Sets, StandsAt, Lands, more-sets, more-whole}

-- how Options are put together
options_are : (head c settings front ts : List Kind) (x y : Kind) → front ≡ head ++ (c ++ x ∷ []) → ts ≡ front ++ (settings ++ []) → head ++ (c ++ x ∷ (settings ++ y ∷ [])) ≡ ts ++ y ∷ []
options_are head c settings front ts x y h e = rw (e, h) (simp (append_assoc, append-nil) refl)

-- the word of an option that may be barred
free_lands : (r : Option CqlCause) (w : List ℕ) (s : Setting) (b : Base) (fs : List Frame) (d : Done) (ts : List Kind) → Sets b fs d [] ts → setting_of w ≡ Some s → barred_setting s d ≡ r
    → Lands (unless r (state b fs d (named w s))) (ts ++ word w ∷ [])
free_lands None w s b fs d ts h is free = (is, free, more-sets b fs d [] ts (word w ∷ []) h)
free_lands (Some r) w s b fs d ts h is free = tt

-- a word that may be no option
name_lands : (m : Option Setting) (w : List ℕ) (b : Base) (fs : List Frame) (d : Done) (ts : List Kind) → Sets b fs d [] ts → setting_of w ≡ m → Lands (name_setting m w b fs d) (ts ++ word w ∷ [])
name_lands None w b fs d ts h is = tt
name_lands (Some s) w b fs d ts h is = free_lands (barred_setting s d) w s b fs d ts h is refl

-- Options are whole at their brace
options_end : (b : Base) (fs : List Frame) (d : Done) (ts : List Kind) → Sets b fs d [] ts → Whole b fs d true (ts ++ mark BraceClose ∷ [])
options_end b fs d ts h =
    let c = h.called in
    let w = c.statements in
    let new = call Options h.given ++ mark BraceOpen ∷ (h.settings ++ mark BraceClose ∷ []) in
    subst (λ (x : List Kind). Whole b fs d true x) (options_are c.head (call Options h.given) h.settings h.head ts (mark BraceOpen) (mark BraceClose) c.whole h.whole)
    (more-whole b fs h.before d c.brace true c.head new w (options b (path_of fs) w.from h.before d c.brace w.body h.settings h.given w.statements c.free h.call_is h.are))

-- a token where an option may begin
pub option-lands : (t : Kind) (b : Base) (fs : List Frame) (d : Done) (ts : List Kind) → Sets b fs d [] ts → Lands (at_option t b fs d) (ts ++ t ∷ [])
option-lands (word w) b fs d ts h = name_lands (setting_of w) w b fs d ts h refl
option-lands (mark BraceClose) b fs d ts h = options_end b fs d ts h
option-lands t b fs d ts h = tt

-- a token behind the word of an option
pub named-lands : (w : List ℕ) (s : Setting) (t : Kind) (b : Base) (fs : List Frame) (d : Done) (ts : List Kind) → setting_of w ≡ Some s → barred_setting s d ≡ None → Sets b fs d (word w ∷ []) ts
    → Lands (at_named w s t b fs d) (ts ++ t ∷ [])
named-lands w s (mark Equals) b fs d ts is free h = (is, free, more-sets b fs d (word w ∷ []) ts (mark Equals ∷ []) h)
named-lands w s t b fs d ts is free h = tt

-- a value that may be refused
value_is : (q : Bool) (cause : CqlCause) (w : List ℕ) (s : Setting) (v : Kind) (b : Base) (fs : List Frame) (d now : Done) (ts : List Kind) → setting_of w ≡ Some s → barred_setting s d ≡ None
    → (q ≡ true → Takes s v) → now ≡ set s v d → Sets b fs d (word w ∷ mark Equals ∷ []) ts → Lands (valued_if q cause b fs now) (ts ++ v ∷ [])
value_is true cause w s v b fs d now ts is free takes left h = (w, s, v, d, is, free, takes refl, left, more-sets b fs d (word w ∷ mark Equals ∷ []) ts (v ∷ []) h)
value_is false cause w s v b fs d now ts is free takes left h = tt

-- a token behind the equals sign of an option
pub equated-lands : (w : List ℕ) (s : Setting) (t : Kind) (b : Base) (fs : List Frame) (d : Done) (ts : List Kind) → setting_of w ≡ Some s → barred_setting s d ≡ None → Sets b fs d (word w ∷ mark Equals ∷ []) ts
    → Lands (at_equated w s t b fs d) (ts ++ t ∷ [])
equated-lands w settings.False (word v) b fs d ts is free h =
    value_is (bytes_eq v (codes "FALSE")) (causes.Option (cut_word w)) w settings.False (word v) b fs d d ts is free (λ e. ap word ((bytes_eq-Decides v (codes "FALSE")).0 e)) refl h
equated-lands w settings.One (number z) b fs d ts is free h =
    value_is (int_eq z (pos 1000)) (causes.Option (cut_word w)) w settings.One (number z) b fs d d ts is free (λ e. ap number ((Decides-int_eq z (pos 1000)).0 e)) refl h
equated-lands w settings.Curve (text n) b fs d ts is free h =
    value_is (is_file n) causes.Argument w settings.Curve (text n) b fs d (with_curve d (with_ending n)) ts is free (λ e. (n, refl, e)) refl h
equated-lands w settings.Ignored (word v) b fs d ts is free h = value_is true causes.Argument w settings.Ignored (word v) b fs d d ts is free (λ e. tt) refl h
equated-lands w settings.Ignored (number z) b fs d ts is free h = value_is true causes.Argument w settings.Ignored (number z) b fs d d ts is free (λ e. tt) refl h
equated-lands w settings.Ignored (text n) b fs d ts is free h = value_is true causes.Argument w settings.Ignored (text n) b fs d d ts is free (λ e. tt) refl h
equated-lands w s t b fs d ts is free h = tt

-- an option is whole at its semicolon
setting_ends : (b : Base) (fs : List Frame) (d : Done) (ts : List Kind) → StandsAt valued b fs d ts → Sets b fs d [] (ts ++ mark Semicolon ∷ [])
unfolding more-sets
setting_ends b fs d ts (w, s, v, from, is, free, takes, left, h) = record {
  before = h.before;
  given = h.given;
  settings = h.settings ++ (word w ∷ mark Equals ∷ v ∷ mark Semicolon ∷ []);
  head = h.head;
  call_is = h.call_is;
  called = h.called;
  are = subst (λ (x : Done). AreSettings h.before x (h.settings ++ (word w ∷ mark Equals ∷ v ∷ mark Semicolon ∷ []))) (sym left) (setting h.before from h.settings w s v h.are is free takes);
  whole = (more-sets b fs from (word w ∷ mark Equals ∷ v ∷ []) ts (mark Semicolon ∷ []) h).whole ∙ ap (λ (x : List Kind). h.head ++ x) (sym (append-nil (h.settings ++ (word w ∷ mark Equals ∷ v ∷ mark Semicolon ∷ []))));
}

-- a token behind the value of an option
pub valued-lands : (t : Kind) (b : Base) (fs : List Frame) (d : Done) (ts : List Kind) → StandsAt valued b fs d ts → Lands (at_valued t b fs d) (ts ++ t ∷ [])
valued-lands (mark Semicolon) b fs d ts h = setting_ends b fs d ts h
valued-lands t b fs d ts h = tt
