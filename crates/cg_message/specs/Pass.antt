-- What a pass is: that of the recipe, over the datings of a node's events; and what it is asked for.
use Rattle.std.specs.Prelude.{◌≡◌, true, false, ℕ, ◌+◌, ◌^◌, ◌<◌, ◌≤◌, List, length}
use Rattle.std.specs.Prelude.{map, Option, Some, None, All, slice_get, slice_index_or}
use Rattle.cg_enc.specs.Enclosure.{Enclosure}
use Rattle.cg_table.specs.Losses.{greatest_loss, greatest_reach}
use Rattle.cg_table.specs.Table.{Table, IsTable, table_reach}
use Rattle.cg_meaning.specs.Tree.{Tree, Dating, Free, Exact, Normal, Carbon}
use Rattle.cg_meaning.specs.Scene.{Scene, scene_of}
use Rattle.cg_model.specs.Dating.{dating_of}
use Rattle.cg_model.specs.Grid.{IsGrid}
use Rattle.cg_model.specs.Limits.{IsInRange}
use Rattle.cg_like.specs.Likelihood.{weights_of}
use Rattle.cg_part.specs.Elements as part
use Rattle.cg_part.specs.Elements.{element_of, has}
use Rattle.cg_recipe.specs.Recipe as recipe
use Rattle.cg_recipe.specs.Recipe.{Rows, table_of}
use Rattle.cg_recipe.specs.Bounds.{AreLight, events_in, events_among, groups_in, groups_among}
use Rattle.cg_code.specs.Content as content
use Rattle.cg_code.specs.Content.{IsNode}
use Rattle.cg_message.specs.Curve.{rows_at}
use Rattle.cg_message.specs.Value.{pass_in}
use Rattle.cg_message.specs.Parts.{Shelf, StandsAt, IsRowGot}
use Rattle.cg_message.specs.Placed.{Placed, Places, Event, Group, Span, none, more, bare, bare_all}
use Rattle.cg_message.specs.declared.pass.Pass.{Pass}

-- the rows of weights of events with these datings
abbrev pub rows_by : Scene → List Dating → Rows
rows_by scene datings number = weights_of scene (slice_index_or datings number Free)

-- the row of a dating without an error; none for one with an error, which has a message
abbrev pub spot_row : Scene → Dating → Option (List Enclosure)
spot_row scene Free = Some (weights_of scene Free)
spot_row scene (Exact year) = Some (weights_of scene (Exact year))
spot_row scene (Normal year error) = None
spot_row scene (Carbon age error) = None

abbrev pub scene_in : Pass → Scene
scene_in pass = scene_of pass.grid (rows_at pass.curves.now pass.curve)

abbrev pub datings_in : Pass → List Dating
datings_in pass = map dating_of pass.datings.now

-- what it may take from messages
abbrev pub shelf_in : Pass → Shelf
shelf_in pass = record { parts = pass.parts.now; grid = pass.grid; curves = pass.curves.now; curve = pass.curve }

-- the recipe's pass
abbrev pub pass_of : Pass → recipe.Pass
pass_of pass = record { cells = pass.grid.cells; rows = rows_by (scene_in pass) (datings_in pass) }

-- A pass on 1 to 512 cells whose rows lose and reach little, with the rows that are made on the spot.
pub record IsReady (pass : Pass) : Type 0 where
  pub some : 1 ≤ pass.grid.cells
  pub few : pass.grid.cells ≤ 512
  pub light : AreLight pass.grid.cells (rows_by (scene_in pass) (datings_in pass))
  pub grid : IsGrid pass.grid.oldest pass.grid.cells
  pub curve : pass.curve < 256
  pub ranged : All IsInRange (datings_in pass)
  pub made : pass.made.now ≡ map (spot_row (scene_in pass)) (datings_in pass)

-- The row of an event is at hand: it is made, or stands at the event's place.
pub record HasRow (pass : Pass) (number place : ℕ) : Type 0 where
  pub dating : Dating
  pub here : slice_get (datings_in pass) number ≡ Some dating
  pub got : IsRowGot (shelf_in pass) place dating

-- The table of a group stands at its place: that of a node, which is the element's in the pass.
pub record HasTable (pass : Pass) (place : ℕ) (e : part.Element) : Type 0 where
  pub tree : Tree
  pub node : IsNode tree
  pub got : StandsAt (shelf_in pass) place (content.Table tree)
  pub table_is : table_of (pass_in (scene_in pass) tree) (element_of 0 tree) ≡ table_of (pass_of pass) e

-- what the table of the element is made of is at hand
abbrev mutual
  pub IsHeld : Pass → Placed → Type 0
  IsHeld pass (Event number place) = HasRow pass number place
  IsHeld pass (Group kind place es) = HasTable pass place (part.Group kind (bare_all es))
  IsHeld pass (Span es closing) = AreHeld pass es

  pub AreHeld : Pass → Places → Type 0
  AreHeld pass none = Unit {0}
  AreHeld pass (more e es) = IsHeld pass e × AreHeld pass es

-- it is a group, and its members' rows and tables are at hand
abbrev pub HasMembers : Pass → Placed → Type 0
HasMembers pass (Event number place) = ⊥
HasMembers pass (Group kind place es) = AreHeld pass es
HasMembers pass (Span es closing) = ⊥

-- it is no group, so that no message has its table
abbrev pub IsNoGroup : Placed → Type 0
IsNoGroup (Event number place) = Unit {0}
IsNoGroup (Group kind place es) = ⊥
IsNoGroup (Span es closing) = Unit {0}

-- on the way down to an event in the element all that is beside the way is at hand, and so is the event's row
abbrev mutual
  pub IsOnWay : Pass → ℕ → Placed → Type 0
  IsOnWay pass event (Event number place) = HasRow pass number place
  IsOnWay pass event (Group kind place es) = AreOnWay pass event es
  IsOnWay pass event (Span es closing) = (event ≡ closing → AreHeld pass es) × (¬ (event ≡ closing) → AreOnWay pass event es)

  pub AreOnWay : Pass → ℕ → Places → Type 0
  AreOnWay pass event none = Unit {0}
  AreOnWay pass event (more e es) =
      (has event (bare e) ≡ true → IsOnWay pass event e × AreHeld pass es)
      × (has event (bare e) ≡ false → IsHeld pass e × AreOnWay pass event es)

-- An element within the limits of a model.
pub record IsSmall (e : part.Element) : Type 0 where
  pub events : events_in e ≤ 100
  pub groups : groups_in e ≤ 61

-- The same of elements one after another.
pub record AreSmall (es : part.Elements) : Type 0 where
  pub events : events_among es ≤ 100
  pub groups : groups_among es ≤ 61

-- how many nodes elements have
abbrev pub nodes_among : part.Elements → ℕ
nodes_among es = events_among es + groups_among es

-- A table or a context for this many cells that may come to reach so much further.
pub record HasRoom (cells further : ℕ) (t : Table) : Type 0 where
  pub table : IsTable t
  pub each : t.cells ≡ cells
  pub near : table_reach t + further < 2 ^ 20

-- Both, which may come to reach so much further together.
pub record HaveRoom (cells further : ℕ) (before v : Table) : Type 0 where
  pub first : HasRoom cells 0 before
  pub second : HasRoom cells 0 v
  pub near : table_reach before + table_reach v + further < 2 ^ 20

-- What pairs can be made of.
pub record IsFinished (sums : List Enclosure) : Type 0 where
  pub some : 0 < length sums
  pub few : length sums ≤ 512
  pub loss : greatest_loss sums < 2 ^ 41
  pub reach : greatest_reach sums < 2 ^ 20
