-- The grammar of the CQL2 profile: which tokens spell which chronology. After the OxCal 4 manual (CQL2).
use Rattle.std.specs.Prelude.{◌≡◌, ℕ, Bool, true, false, List, [], ◌∷◌, ◌++◌, Some, None, codes, pos}
use Rattle.cg_meaning.specs.Tree.{none, more, Tree, Chronology}
use Rattle.cg_token.specs.Kind.{Kind, word, text, number, mark, ended}
use Rattle.cg_token.specs.declared.token.Mark.TheVariants.{BraceOpen, BraceClose, Semicolon, Equals}
use Rattle.cg_model.specs.declared.group.GroupKind.{GroupKind}
use Rattle.cg_grammar.specs.declared.command.Command.{Command}
use Rattle.cg_grammar.specs.declared.command.Command.TheVariants.{Group, Plot, Options, Curve}
use Rattle.cg_grammar.specs.declared.command.Setting.{Setting}
use Rattle.cg_grammar.specs.declared.command.Setting.TheVariants as settings
use Rattle.cg_grammar.specs.declared.command.Base.{Base}
use Rattle.cg_grammar.specs.declared.command.Base.TheVariants as bases
use Rattle.cg_grammar.specs.Words.{setting_of}
use Rattle.cg_grammar.specs.Arguments.{Given, call, is_call, event_in, name_in, file_in, is_file, with_ending}
use Rattle.cg_grammar.specs.Done.{Done, start, with_event, opened, with_group, with_curve, is_over, barred, barred_setting, is_event}

-- a word, a number or a text
abbrev pub IsValue : Kind → Type 0
IsValue (word letters) = Unit {0}
IsValue (number thousandths) = Unit {0}
IsValue (text name) = Unit {0}
IsValue _ = ⊥

-- an option takes a value
abbrev pub Takes : Setting → Kind → Type 0
Takes settings.False value = value ≡ word (codes "FALSE")
Takes settings.One value = value ≡ number (pos 1000)
Takes settings.Curve value = (name : List ℕ) × (value ≡ text name) × (is_file name ≡ true)
Takes settings.Ignored value = IsValue value

-- what a value leaves
abbrev pub set : Setting → Kind → Done → Done
set settings.Curve (text name) done = with_curve done (with_ending name)
set _ value done = done

-- { word "=" value ";" }
pub data AreSettings : Done → Done → List Kind → Type 0 where
  no_setting : (done : Done) → AreSettings done done []
  setting : (from done : Done) (front : List Kind) (letters : List ℕ) (accepts : Setting) (value : Kind)
      → AreSettings from done front
      → setting_of letters ≡ Some accepts → barred_setting accepts done ≡ None → Takes accepts value
      → AreSettings from (set accepts value done) (front ++ (word letters ∷ mark Equals ∷ value ∷ mark Semicolon ∷ []))

-- Statements one behind another, at the end of this path of open groups: from what stands before them to what they
-- leave, whether the last ends in a brace that no semicolon follows, and their tokens. Each rule adds one at the end.
pub data Are : Base → List GroupKind → Done → Done → Bool → List Kind → Type 0 where
  empty : (base : Base) (path : List GroupKind) (done : Done) → Are base path done done false []
  -- "Date" "(" .. ")" ";" and the like
  event : (base : Base) (path : List GroupKind) (from done : Done) (brace : Bool) (front : List Kind)
      (command : Command) (given : Given)
      → Are base path from done brace front
      → is_over base path done ≡ false → barred base path done command ≡ None
      → is_event command ≡ true → is_call command given ≡ true
      → Are base path from (with_event done (event_in command given)) false
      (front ++ (call command given ++ mark Semicolon ∷ []))
  -- "Sequence" "(" [text] ")" "{" { node } "}" and the like
  group : (base : Base) (path : List GroupKind) (from done inner : Done) (brace last : Bool) (front body : List Kind)
      (kind : GroupKind) (given : Given)
      → Are base path from done brace front
      → is_over base path done ≡ false → barred base path done (Group kind) ≡ None → is_call (Group kind) given ≡ true
      → Are base (kind ∷ path) (opened done) inner last body
      → Are base path from (with_group done.members kind (name_in given) inner) true
      (front ++ (call (Group kind) given ++ mark BraceOpen ∷ (body ++ mark BraceClose ∷ [])))
  -- [";"]
  semicolon : (base : Base) (path : List GroupKind) (from done : Done) (front : List Kind)
      → Are base path from done true front → Are base path from done false (front ++ mark Semicolon ∷ [])
  -- "Curve" "(" text ["," text] ")" ";"
  curve : (base : Base) (path : List GroupKind) (from done : Done) (brace : Bool) (front : List Kind) (given : Given)
      → Are base path from done brace front
      → barred base path done Curve ≡ None → is_call Curve given ≡ true
      → Are base path from (with_curve done (file_in given)) false (front ++ (call Curve given ++ mark Semicolon ∷ []))
  -- "Options" "(" ")" "{" .. "}"
  options : (base : Base) (path : List GroupKind) (from done inner : Done) (brace : Bool) (front body : List Kind)
      (given : Given)
      → Are base path from done brace front
      → barred base path done Options ≡ None → is_call Options given ≡ true → AreSettings done inner body
      → Are base path from inner true (front ++ (call Options given ++ mark BraceOpen ∷ (body ++ mark BraceClose ∷ [])))
  -- "Plot" "(" [text] ")" "{" { options | curve | node } "}"
  plot : (from done inner : Done) (brace last : Bool) (front body : List Kind) (given : Given)
      → Are bases.Script [] from done brace front
      → is_call Plot given ≡ true → Are bases.Plot [] done inner last body
      → Are bases.Script [] from inner true
      (front ++ (call Plot given ++ mark BraceOpen ∷ (body ++ mark BraceClose ∷ [])))

-- a script, and the end
pub record IsScript (chronology : Chronology) (tokens : List Kind) : Type 0 where
  pub left : Done
  pub brace : Bool
  pub body : List Kind
  pub statements : Are bases.Script [] start left brace body
  pub top : left.members ≡ chronology.top
  pub curve : left.curve ≡ chronology.curve
  pub whole : tokens ≡ body ++ ended ∷ []

-- one node, and the end
pub record IsStatement (tree : Tree) (tokens : List Kind) : Type 0 where
  pub left : Done
  pub brace : Bool
  pub body : List Kind
  pub statements : Are bases.Single [] start left brace body
  pub alone : left.members ≡ more tree none
  pub whole : tokens ≡ body ++ ended ∷ []
