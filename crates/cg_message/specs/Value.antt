-- What an evaluation gives, and what a message holds: the value of all that its code stands for. chron's own.
use Rattle.std.specs.Prelude.{◌≡◌, ℕ, List, [], Option}
use Rattle.cg_enc.specs.Enclosure.{Enclosure}
use Rattle.cg_table.specs.Table as table
use Rattle.cg_curve.specs.Curves.{NamedCurve}
use Rattle.cg_meaning.specs.Tree.{Tree, Phase, Group}
use Rattle.cg_meaning.specs.Scene.{Grid, Scene, scene_of}
use Rattle.cg_like.specs.Likelihood.{weights_of}
use Rattle.cg_part.specs.Elements.{element_of}
use Rattle.cg_recipe.specs.Recipe.{Pass, rows_in, table_of, recipe}
use Rattle.cg_marginal.specs.Marginal.{pairs_of}
use Rattle.cg_code.specs.Code.{code_of}
use Rattle.cg_code.specs.Content as content
use Rattle.cg_code.specs.Content.{Content}
use Rattle.cg_code.specs.Laws.{IsEvaluation}
use Rattle.cg_message.specs.Curve.{rows_at}
use Rattle.cg_message.specs.declared.body.Body.{Body}
use Rattle.cg_message.specs.declared.body.Body.TheVariants as body

-- What an evaluation gives: a row of weights, a table, or the pairs of a marginal, none where no dating is allowed.
pub data Value : Type 0 where
  Row : List Enclosure → Value
  Table : table.Table → Value
  Marginal : Option (List (ℕ × ℕ)) → Value

-- a grid's cells, and the rows of weights of a node's events
abbrev pub pass_in : Scene → Tree → Pass
pass_in scene tree = record { cells = scene.grid.cells; rows = rows_in scene tree }

-- the value of what is evaluated: of a node by itself, and of an event in its model
abbrev pub value_of : Scene → Content → Value
value_of scene (content.Row dating) = Row (weights_of scene dating)
value_of scene (content.Table tree) = Table (table_of (pass_in scene tree) (element_of 0 tree))
value_of scene (content.Marginal top event) = Marginal (recipe (Group Phase [] top) scene event)

-- what a body holds
abbrev pub value_in : Body → Value
value_in (body.Row row) = Row row
value_in (body.Table table) = Table table
value_in (body.Marginal marginal) = Marginal (pairs_of marginal)

-- What a message is seen as: its code, and the curves that it was made by. Its value follows.
pub record Seen : Type 0 where
  pub code : List ℕ
  pub curves : List NamedCurve

-- The value of the content that a code stands for, on its grid and with its curve.
pub record IsMessage (seen : Seen) (value : Value) : Type 0 where
  pub content : Content
  pub grid : Grid
  pub curve : ℕ
  pub is : IsEvaluation content grid curve
  pub code_is : seen.code ≡ code_of content grid curve
  pub value_is : value ≡ value_of (scene_of grid (rows_at seen.curves curve)) content

-- the value of each content that it stands for, whatever the names
abbrev pub IsValue : Seen → Value → Type 0
IsValue seen value =
    (content : Content) (grid : Grid) (curve : ℕ) → IsEvaluation content grid curve → seen.code ≡ code_of content grid curve →
    value ≡ value_of (scene_of grid (rows_at seen.curves curve)) content

-- the one value that a body of the message can have
abbrev pub HasValue : Seen → Value → Type 0
HasValue seen value = (held : Value) → IsValue seen held → held ≡ value

-- the message of a content on a grid, with the curve of this number of these
abbrev pub message_of : List NamedCurve → Content → Grid → ℕ → Seen
message_of curves content grid curve = record { code = code_of content grid curve; curves = curves }

-- it is a row
abbrev pub IsRow : Value → Type 0
IsRow (Row row) = Unit {0}
IsRow (Table table) = ⊥
IsRow (Marginal pairs) = ⊥

-- it is a table
abbrev pub IsTable : Value → Type 0
IsTable (Row row) = ⊥
IsTable (Table table) = Unit {0}
IsTable (Marginal pairs) = ⊥
