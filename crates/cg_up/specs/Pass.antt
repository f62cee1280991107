-- What a pass is: that of the recipe, over rows of weights for the first events; and what it is asked for.
use Rattle.std.specs.Prelude.{◌≡◌, ℕ, ◌+◌, ◌^◌, ◌<◌, ◌≤◌, List, [], map, slice_index_or}
use Rattle.std.specs.List.{range_with_len}
use Rattle.cg_enc.specs.Enclosure.{Enclosure}
use Rattle.cg_enc.specs.Rounding.{of_whole}
use Rattle.cg_table.specs.Table.{Table, IsTable, table_reach}
use Rattle.cg_meaning.specs.Tree as tree
use Rattle.cg_meaning.specs.Tree.{Tree, Trees, Phase}
use Rattle.cg_part.specs.Elements.{Element, Event, Group, Span, Elements, none, more}
use Rattle.cg_recipe.specs.Recipe as recipe
use Rattle.cg_recipe.specs.Recipe.{Rows}
use Rattle.cg_recipe.specs.Bounds.{AreLight, events_in, events_among, groups_in, groups_among}
use Rattle.cg_up.specs.declared.pass.Pass.{Pass}

-- the statements of a model stand in one nameless Phase
abbrev pub root : Trees → Tree
root ts = tree.Group Phase [] ts

-- an event of which nothing is known weighs 1 at each cell
abbrev pub ones : ℕ → List Enclosure
ones cells = map (λ _. of_whole 1) (range_with_len 0 cells)

-- these rows for the first events, and ones for any other
abbrev pub rows_of : ℕ → List (List Enclosure) → Rows
rows_of cells rows number = slice_index_or rows number (ones cells)

-- the recipe's pass
abbrev pub pass_of : Pass → recipe.Pass
pass_of pass = record { cells = pass.cells; rows = rows_of pass.cells pass.rows.now }

-- A pass on 1 to 512 cells whose rows lose and reach little.
pub record IsReady (pass : Pass) : Type 0 where
  pub some : 1 ≤ pass.cells
  pub few : pass.cells ≤ 512
  pub light : AreLight pass.cells (rows_of pass.cells pass.rows.now)

-- each event of the element is one of the first so many
abbrev mutual
  pub AreBelow : ℕ → Element → Type 0
  AreBelow n (Event number) = number < n
  AreBelow n (Group kind es) = AreAllBelow n es
  AreBelow n (Span es closing) = AreAllBelow n es × (closing < n)

  pub AreAllBelow : ℕ → Elements → Type 0
  AreAllBelow n none = Unit {0}
  AreAllBelow n (more e es) = AreBelow n e × AreAllBelow n es

-- An element within the limits of a model, each event of which has one of so many rows.
pub record IsFit (n : ℕ) (e : Element) : Type 0 where
  pub rows : AreBelow n e
  pub events : events_in e ≤ 100
  pub groups : groups_in e ≤ 61

-- The same of elements one after another.
pub record AreFit (n : ℕ) (es : Elements) : Type 0 where
  pub rows : AreAllBelow n es
  pub events : events_among es ≤ 100
  pub groups : groups_among es ≤ 61

-- how many nodes elements have
abbrev pub nodes_among : Elements → ℕ
nodes_among es = events_among es + groups_among es

-- A table or a context for this many cells that may come to reach so much further.
pub record HasRoom (cells further : ℕ) (t : Table) : Type 0 where
  pub table : IsTable t
  pub each : t.cells ≡ cells
  pub near : table_reach t + further < 2 ^ 20

-- Both, which may come to reach so much further together.
pub record HaveRoom (cells further : ℕ) (before v : Table) : Type 0 where
  pub first : HasRoom cells 0 before
  pub second : HasRoom cells 0 v
  pub near : table_reach before + table_reach v + further < 2 ^ 20
