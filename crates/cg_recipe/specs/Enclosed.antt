-- What the tables and the parts of the recipe enclose: the part sums of a node, and the sums over the datings with an event at a
-- cell, over divisors that the weights do not change. chron's own.
use Rattle.std.specs.Prelude.{◌≡◌, ℕ, ◌+◌, ◌*◌, ◌^◌, ◌<◌, ◌≤◌, length, slice_get, Some}
use Rattle.cg_enc.specs.Enclosure.{Enclosure, IsEnclosure, Encloses}
use Rattle.cg_table.specs.Row.{AreEntries}
use Rattle.cg_table.specs.Table.{Table, EnclosesTable, EnclosesRow}
use Rattle.cg_context.specs.Formulas.{root_context}
use Rattle.cg_meaning.specs.Tree.{Tree, Dating, count, datings_of}
use Rattle.cg_meaning.specs.Scene.{Scene}
use Rattle.cg_meaning.specs.Weights.{Weighting, IsAdmitted}
use Rattle.cg_meaning.specs.Pairs.{factorial}
use Rattle.cg_meaning.specs.Posterior.{total_at}
use Rattle.cg_part.specs.Elements.{Element, Event, Group, Span, Elements, none, more, element_of, open_in}
use Rattle.cg_part.specs.Part.{part}
use Rattle.cg_part.specs.Tables.{row_of}
use Rattle.cg_recipe.specs.Recipe.{Rows, Pass, table_of, part_at}

-- The product of the multipliers of an element's events, and of G! for each open event of each span within it. A Boundary that
-- closes a span has no multiplier in it.
abbrev mutual
  pub divisor : ℕ → (ℕ → ℕ) → Element → ℕ
  divisor cells m (Event number) = m number
  divisor cells m (Group kind es) = divisors cells m es
  divisor cells m (Span es closing) = divisors cells m es * factorial cells ^ open_in es

  pub divisors : ℕ → (ℕ → ℕ) → Elements → ℕ
  divisors cells m none = 1
  divisors cells m (more e es) = divisor cells m e * divisors cells m es

-- The row of an event encloses its weights, which are admitted, over the event's multiplier; 0 where its dating does not
-- admit the cell.
pub record IsWeighed (scene : Scene) (weighting : Weighting) (rows : Rows) (m : ℕ → ℕ) (number : ℕ) (dating : Dating) : Type 0 where
  pub admitted : IsAdmitted scene dating (weighting number)
  pub some : 0 < m number
  pub each : length (rows number) ≡ scene.grid.cells
  pub entries : AreEntries (rows number)
  pub encloses : EnclosesRow (rows number) (row_of scene weighting number dating) (m number)

-- and so does that of each event of a node
abbrev pub AreWeighed : Scene → Weighting → Rows → (ℕ → ℕ) → ℕ → Tree → Type 0
AreWeighed scene weighting rows m number tree =
    (event : ℕ) (dating : Dating) → slice_get (datings_of tree) event ≡ Some dating → IsWeighed scene weighting rows m (number + event) dating

-- The table encloses these sums over a divisor above 0.
pub record EnclosesOver (t : Table) (sums : ℕ → ℕ → ℕ) (d : ℕ) : Type 0 where
  pub some : 0 < d
  pub encloses : EnclosesTable t sums d

abbrev pub pass_of : Scene → Rows → Pass
pass_of scene rows = record { cells = scene.grid.cells; rows = rows }

-- each node's table encloses its part sums
abbrev pub TablesEnclosePartSums : Type 0
TablesEnclosePartSums =
    (scene : Scene) (weighting : Weighting) (rows : Rows) (m : ℕ → ℕ) (number : ℕ) (tree : Tree) →
    scene.grid.cells ≤ 512 → AreWeighed scene weighting rows m number tree →
    EnclosesOver (table_of (pass_of scene rows) (element_of number tree)) (part scene weighting number tree)
    (divisor scene.grid.cells m (element_of number tree))

-- Entries for so many cells enclose these sums, all over one divisor above 0.
pub record EncloseSums (cells : ℕ) (entries : ℕ → Enclosure) (sums : ℕ → ℕ) : Type 0 where
  pub divisor : ℕ
  pub some : 0 < divisor
  pub valid : (cell : ℕ) → cell < cells → IsEnclosure (entries cell)
  pub each : (cell : ℕ) → cell < cells → Encloses (entries cell) (sums cell) divisor

-- the parts of an event enclose the sums over the datings with it at each cell
abbrev pub PartsEncloseTotals : Type 0
PartsEncloseTotals =
    (scene : Scene) (weighting : Weighting) (rows : Rows) (m : ℕ → ℕ) (tree : Tree) (event : ℕ) →
    scene.grid.cells ≤ 512 → AreWeighed scene weighting rows m 0 tree → event < count tree →
    EncloseSums scene.grid.cells (λ cell. part_at (pass_of scene rows) event cell (element_of 0 tree) (root_context scene.grid.cells))
    (total_at tree scene weighting event)
