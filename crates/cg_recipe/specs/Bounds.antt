-- What the tables and the parts of the recipe lose, and how far they reach. chron's own.
use Rattle.std.specs.Prelude.{◌≡◌, ℕ, ◌+◌, ◌-◌, ◌*◌, ◌^◌, ◌<◌, ◌≤◌, length}
use Rattle.cg_enc.specs.Enclosure.{Enclosure, IsEnclosure, IsExponent, HasLoss}
use Rattle.cg_table.specs.Row.{AreEntries}
use Rattle.cg_table.specs.Table.{Table, IsTable, table_loss, table_reach}
use Rattle.cg_table.specs.Losses.{greatest_loss, greatest_reach}
use Rattle.cg_context.specs.Formulas.{root_context}
use Rattle.cg_meaning.specs.Tree.{Tree, count}
use Rattle.cg_model.specs.Limits.{groups_of}
use Rattle.cg_part.specs.Elements.{Element, Event, Group, Span, Elements, none, more, element_of}
use Rattle.cg_recipe.specs.Recipe.{Rows, Pass, table_of, part_at}

-- what the weights of one event lose at most
abbrev pub weight_loss : ℕ
weight_loss = 9 * 2 ^ 30 + 16

-- Rows for this many cells that lose and reach little.
pub record AreLight (cells : ℕ) (rows : Rows) : Type 0 where
  pub each : (number : ℕ) → length (rows number) ≡ cells
  pub entries : (number : ℕ) → AreEntries (rows number)
  pub loss : (number : ℕ) → greatest_loss (rows number) ≤ weight_loss
  pub reach : (number : ℕ) → greatest_reach (rows number) ≤ 1

-- how many events an element has
abbrev mutual
  pub events_in : Element → ℕ
  events_in (Event number) = 1
  events_in (Group kind es) = events_among es
  events_in (Span es closing) = events_among es + 1

  pub events_among : Elements → ℕ
  events_among none = 0
  events_among (more e es) = events_in e + events_among es

-- how many groups
abbrev mutual
  pub groups_in : Element → ℕ
  groups_in (Event number) = 0
  groups_in (Group kind es) = 1 + groups_among es
  groups_in (Span es closing) = groups_among es

  pub groups_among : Elements → ℕ
  groups_among none = 0
  groups_among (more e es) = groups_in e + groups_among es

-- how many nodes
abbrev pub nodes_in : Element → ℕ
nodes_in e = events_in e + groups_in e

-- An element has as many events and groups as its node.
pub record IsCounted (e : Element) (tree : Tree) : Type 0 where
  pub events : events_in e ≡ count tree
  pub groups : groups_in e ≡ groups_of tree

abbrev pub ElementsAreCounted : Type 0
ElementsAreCounted = (number : ℕ) (tree : Tree) → IsCounted (element_of number tree) tree

-- A table of this many cells with these bounds of its loss and its reach.
pub record IsBoundedTable (cells loss reach : ℕ) (t : Table) : Type 0 where
  pub table : IsTable t
  pub each : t.cells ≡ cells
  pub lost : table_loss t ≤ loss
  pub reached : table_reach t ≤ reach

-- each event adds the loss of its weights, and each node that of eight calls but for one
abbrev pub TablesAreBounded : Type 0
TablesAreBounded =
    (pass : Pass) (e : Element) → 1 ≤ pass.cells → pass.cells ≤ 512 → AreLight pass.cells pass.rows → events_in e ≤ 100 → groups_in e ≤ 61 →
    IsBoundedTable pass.cells (events_in e * weight_loss + (8 * nodes_in e - 1) * 2 ^ 13) (8 * nodes_in e) (table_of pass e)

-- An enclosure with these bounds.
pub record IsBounded (loss reach : ℕ) (e : Enclosure) : Type 0 where
  pub valid : IsEnclosure e
  pub lost : HasLoss e loss
  pub near : IsExponent (reach * 2 ^ 31) e.exp

-- from the root down to an event, each node adds the loss of eight calls, and the root's context reaches 1
abbrev pub PartsAreBounded : Type 0
PartsAreBounded =
    (pass : Pass) (event cell : ℕ) (e : Element) → 1 ≤ pass.cells → pass.cells ≤ 512 → AreLight pass.cells pass.rows → events_in e ≤ 100 →
    groups_in e ≤ 61 → cell < pass.cells →
    IsBounded (events_in e * weight_loss + 8 * nodes_in e * 2 ^ 13) (8 * nodes_in e + 1) (part_at pass event cell e (root_context pass.cells))
