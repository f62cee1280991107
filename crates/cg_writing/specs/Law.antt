-- What is written of a model is read as that model. chron's own.
use Rattle.std.specs.Prelude.{◌≡◌, ◌≢◌, ◌≤◌, length, slice_index, true, Option, Some, None}
use Rattle.std.specs.List.{list_all}
use Rattle.std.specs.Str.{is_utf8}
use Rattle.cg_meaning.specs.Tree.{Name, Tree, Leaf, Boundary, Group, Trees, none, more, Chronology}
use Rattle.cg_model.specs.Limits.{IsModel}
use Rattle.cg_token.specs.Cut.{in_text}
use Rattle.cg_grammar.specs.Arguments.{has_ending}
use Rattle.cg_grammar.specs.Text.{Spells}
use Rattle.cg_writing.specs.Text.{model_text}

-- at most 120 bytes of UTF-8, without a quote and without a control character
pub record IsQuotable (name : Name) : Type 0 where
  pub short : length name ≤ 120
  pub plain : list_all in_text name ≡ true
  pub utf8 : is_utf8 name ≡ true

-- the name of a statement: it may be empty, and has no equals sign in front
pub record IsNodeName (name : Name) : Type 0 where
  pub quotable : IsQuotable name
  pub no_equals : slice_index name 0 ≢ 61

-- the name of a curve: it ends in `.14c`, ASCII case aside
pub record IsFileName (name : Name) : Type 0 where
  pub quotable : IsQuotable name
  pub ending : has_ending name ≡ true

-- the names of a statement and of all that stand in it
abbrev mutual
  pub HasNodeNames : Tree → Type 0
  HasNodeNames (Leaf name dating) = IsNodeName name
  HasNodeNames (Boundary name) = IsNodeName name
  HasNodeNames (Group kind name ts) = IsNodeName name × HaveNodeNames ts

  pub HaveNodeNames : Trees → Type 0
  HaveNodeNames none = Unit {0}
  HaveNodeNames (more t ts) = HasNodeNames t × HaveNodeNames ts

-- no curve is named, or one by the name of a file
abbrev pub NamesFile : Option Name → Type 0
NamesFile None = Unit {0}
NamesFile (Some name) = IsFileName name

-- a chronology whose names can be written
pub record IsWritable (chronology : Chronology) : Type 0 where
  pub names : HaveNodeNames chronology.top
  pub file : NamesFile chronology.curve

-- the text of a model whose names can be written spells the model
abbrev pub WrittenIsRead : Type 0
WrittenIsRead = (chronology : Chronology) → IsModel chronology.top → IsWritable chronology
    → Spells (model_text chronology) chronology
