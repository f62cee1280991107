-- What stands before a state of reading: the statements, and the beginning of one, that its tokens spell.
use Rattle.std.proofs.Common.{◌≡◌, ℕ, Bool, true, false, List, [], ◌∷◌, ◌++◌, Some, None, Ok, Err, ap, ◌∙◌, append_assoc}
use Rattle.cg_token.specs.Kind.{Kind, word, mark, ended}
use Rattle.cg_token.specs.declared.token.Mark.TheVariants.{ParenOpen, BraceOpen, Comma, Equals}
use Rattle.cg_model.specs.declared.group.GroupKind.{GroupKind}
use Rattle.cg_grammar.specs.declared.command.Command.{Command}
use Rattle.cg_grammar.specs.declared.command.Command.TheVariants.{Group, Plot, Options}
use Rattle.cg_grammar.specs.declared.command.Setting.{Setting}
use Rattle.cg_grammar.specs.declared.command.Base.{Base}
use Rattle.cg_grammar.specs.declared.command.Base.TheVariants as bases
use Rattle.cg_grammar.specs.Words.{word_of, setting_of}
use Rattle.cg_grammar.specs.Arguments.{Given, nothing, tokens_of, may_part, fits, is_call, call, name_in}
use Rattle.cg_grammar.specs.Done.{Done, start, opened, is_none, is_over, barred, barred_setting}
use Rattle.cg_grammar.specs.Grammar.{Takes, set, AreSettings, Are}
use Rattle.cg_grammar.specs.Steps.{Part, item, closed, called, opening, given, parted, ready, option, named, equated, valued, complete, Frame, State, path_of, Step}

-- what stands before the innermost open block
pub data Before : Base → List Frame → Done → List Kind → Type 0 where
  script : Before bases.Script [] start []
  single : Before bases.Single [] start []
  in_plot : (d : Done) (e : Bool) (k : List Kind) (g : Given) → Are bases.Script [] start d e k → is_call Plot g ≡ true
      → Before bases.Plot [] d (k ++ (call Plot g ++ mark BraceOpen ∷ []))
  in_group : (b : Base) (fs : List Frame) (d0 d : Done) (e : Bool) (k front : List Kind) (t : GroupKind) (g : Given)
      → Before b fs d0 front → Are b (path_of fs) d0 d e k → is_over b (path_of fs) d ≡ false → barred b (path_of fs) d (Group t) ≡ None → is_call (Group t) g ≡ true
      → Before b (record { kind = t; name = name_in g; before = d.members } ∷ fs) (opened d) (front ++ (k ++ (call (Group t) g ++ mark BraceOpen ∷ [])))

-- whole statements, the last of them behind a brace or not
pub record Whole (b : Base) (fs : List Frame) (d : Done) (e : Bool) (ts : List Kind) : Type 0 where
  pub from : Done
  pub front : List Kind
  pub body : List Kind
  pub before : Before b fs from front
  pub statements : Are b (path_of fs) from d e body
  pub whole : ts ≡ front ++ body

-- and the beginning of a statement
pub record Calls (b : Base) (fs : List Frame) (d : Done) (c : Command) (more ts : List Kind) : Type 0 where
  pub brace : Bool
  pub head : List Kind
  pub statements : Whole b fs d brace head
  pub more_may : is_over b (path_of fs) d ≡ false
  pub free : barred b (path_of fs) d c ≡ None
  pub whole : ts ≡ head ++ more

-- and the settings of Options so far
pub record Sets (b : Base) (fs : List Frame) (d : Done) (more ts : List Kind) : Type 0 where
  pub before : Done
  pub given : Given
  pub settings : List Kind
  pub head : List Kind
  pub call_is : is_call Options given ≡ true
  pub called : Calls b fs before Options (call Options given ++ mark BraceOpen ∷ []) head
  pub are : AreSettings before d settings
  pub whole : ts ≡ head ++ (settings ++ more)

-- all statements, and the end
abbrev pub Ended : Base → List Frame → Done → List Kind → Type 0
Ended bases.Plot fs d ts = ⊥
Ended b (f ∷ fs) d ts = ⊥
Ended bases.Script [] d ts = (e : Bool) × (body : List Kind) × Are bases.Script [] start d e body × (ts ≡ body ++ ended ∷ [])
Ended bases.Single [] d ts = (e : Bool) × (body : List Kind) × Are bases.Single [] start d e body × (is_none d.members ≡ false) × (ts ≡ body ++ ended ∷ [])

-- there is an argument
abbrev pub has_any : Given → Bool
has_any nothing = false
has_any _ = true

-- the tokens that lead to a state
abbrev pub StandsAt : Part → Base → List Frame → Done → List Kind → Type 0
StandsAt item b fs d ts = Whole b fs d false ts
StandsAt closed b fs d ts = Whole b fs d true ts
StandsAt (called c) b fs d ts = Calls b fs d c (word (word_of c) ∷ []) ts
StandsAt (opening c) b fs d ts = Calls b fs d c (word (word_of c) ∷ mark ParenOpen ∷ []) ts
StandsAt (given c g) b fs d ts = (fits c g ≡ true) × (has_any g ≡ true) × Calls b fs d c (word (word_of c) ∷ mark ParenOpen ∷ tokens_of g) ts
StandsAt (parted c g) b fs d ts = (fits c g ≡ true) × (may_part c g ≡ true) × Calls b fs d c (word (word_of c) ∷ mark ParenOpen ∷ (tokens_of g ++ mark Comma ∷ [])) ts
StandsAt (ready c g) b fs d ts = (is_call c g ≡ true) × Calls b fs d c (call c g) ts
StandsAt option b fs d ts = Sets b fs d [] ts
StandsAt (named w s) b fs d ts = (setting_of w ≡ Some s) × (barred_setting s d ≡ None) × Sets b fs d (word w ∷ []) ts
StandsAt (equated w s) b fs d ts = (setting_of w ≡ Some s) × (barred_setting s d ≡ None) × Sets b fs d (word w ∷ mark Equals ∷ []) ts
StandsAt valued b fs d ts =
    (w : List ℕ) × (s : Setting) × (v : Kind) × (from : Done) × (setting_of w ≡ Some s) × (barred_setting s from ≡ None) × Takes s v × (d ≡ set s v from) × Sets b fs from (word w ∷ mark Equals ∷ v ∷ []) ts
StandsAt complete b fs d ts = Ended b fs d ts

-- the tokens lead to the next state, if there is one
abbrev pub Lands : Step → List Kind → Type 0
Lands (Ok s) ts = StandsAt s.part s.base s.frames s.done ts
Lands (Err r) ts = Unit {0}

-- the beginning of a statement with more tokens
pub more-calls : (b : Base) (fs : List Frame) (d : Done) (c : Command) (more ts new : List Kind) → Calls b fs d c more ts → Calls b fs d c (more ++ new) (ts ++ new)
more-calls b fs d c more ts new h = record {
  brace = h.brace;
  head = h.head;
  statements = h.statements;
  more_may = h.more_may;
  free = h.free;
  whole = ap (λ (x : List Kind). x ++ new) h.whole ∙ append_assoc h.head more new;
}

-- settings with more tokens
unfoldable pub more-sets : (b : Base) (fs : List Frame) (d : Done) (more ts new : List Kind) → Sets b fs d more ts → Sets b fs d (more ++ new) (ts ++ new)
more-sets b fs d more ts new h = record {
  before = h.before;
  given = h.given;
  settings = h.settings;
  head = h.head;
  call_is = h.call_is;
  called = h.called;
  are = h.are;
  whole = ap (λ (x : List Kind). x ++ new) h.whole ∙ append_assoc h.head (h.settings ++ more) new ∙ ap (λ (x : List Kind). h.head ++ x) (append_assoc h.settings more new);
}

-- statements with one more behind them
pub more-whole : (b : Base) (fs : List Frame) (d d1 : Done) (e e1 : Bool) (ts new : List Kind) → (h : Whole b fs d e ts) → Are b (path_of fs) h.from d1 e1 (h.body ++ new) → Whole b fs d1 e1 (ts ++ new)
more-whole b fs d d1 e e1 ts new h are = record {
  from = h.from;
  front = h.front;
  body = h.body ++ new;
  before = h.before;
  statements = are;
  whole = ap (λ (x : List Kind). x ++ new) h.whole ∙ append_assoc h.front h.body new;
}

-- the tokens lead to this state
abbrev pub Stands : State → List Kind → Type 0
Stands s ts = StandsAt s.part s.base s.frames s.done ts
