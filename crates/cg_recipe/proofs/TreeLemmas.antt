-- The events of a tree are weighed, and so the tables of its elements enclose their part sums.
use Rattle.std.proofs.Common.{◌≡◌, ℕ, suc, ◌+◌, ◌-◌, ◌<◌, ◌≤◌, List, [], ◌∷◌, ◌++◌, length, arith, refl, sym, ap, ◌∙◌, subst}
use Rattle.std.specs.Prelude.{Some, slice_get, slice_index_or}
use Rattle.std.proofs.lemmas.Option.{get_or_from_slice_get}
use Rattle.cg_meaning.specs.Tree as tree
use Rattle.cg_meaning.specs.Tree.{Tree, Trees, Sequence, Phase, After, Before, Dating, Free, Exact, Normal, Carbon, count, datings_of, datings_of_all}
use Rattle.cg_meaning.specs.Scene.{Scene}
use Rattle.cg_meaning.specs.Weights.{Weighting}
use Rattle.cg_meaning.proofs.Counts.{length-datings_of}
use Rattle.cg_part.specs.Elements.{Element, Event, Group, Span, Elements, none, more, put_before, element_of, members_of, items_of, items_behind}
use Rattle.cg_part.specs.Part.{part}
use Rattle.cg_part.specs.Tables as exact
use Rattle.cg_part.specs.Tables.{row_of}
use Rattle.cg_part.specs.Laws.{AreRows}
use Rattle.cg_part.proofs.Table.{part-table}
use Rattle.cg_recipe.specs.Recipe.{Rows, table_of}
use Rattle.cg_recipe.specs.Enclosed.{IsWeighed, AreWeighed, pass_of, divisor, TablesEnclosePartSums}
use Rattle.cg_recipe.proofs.StepLemmas.{IsRow, row-same, made-same}
use Rattle.cg_recipe.proofs.ElementLemmas.{Given, IsClosed, AreEnclosed, AreAllEnclosed, element-made}

-- What is known of an event: its row encloses its weights, which are 1 if it is a Boundary.
record IsEvent (g : Given) (number : ℕ) (dating : Dating) : Type 0 where
  pub row : IsRow g.cells (g.rows number) (g.weights number) (g.m number)
  pub closed : dating ≡ Free → IsClosed g number

-- and of events with these datings, numbered from this number
abbrev AreEvents : Given → ℕ → List Dating → Type 0
AreEvents g number [] = Unit {0}
AreEvents g number (dating ∷ datings) = IsEvent g number dating × AreEvents g (number + 1) datings

-- the first events, and those behind them
events-split : (g : Given) (number n : ℕ) (xs ys : List Dating) → length xs ≡ n → AreEvents g number (xs ++ ys) →
    AreEvents g number xs × AreEvents g (number + n) ys
events-split g number n [] ys e h =
    let same : number ≡ number + n = omega arith in
    (tt, subst (λ (k : ℕ). AreEvents g k ys) same h)
events-split g number n (x ∷ xs) ys e h =
    let rest = events-split g (number + 1) (length xs) xs ys refl h.1 in
    let same : number + 1 + length xs ≡ number + n = omega arith in
    ((h.0, rest.0), subst (λ (k : ℕ). AreEvents g k ys) same rest.1)

-- those of a member, and those of the later ones
members : (g : Given) (number : ℕ) (t : Tree) (ts : Trees) → AreEvents g number (datings_of t ++ datings_of_all ts) →
    AreEvents g number (datings_of t) × AreEvents g (number + count t) (datings_of_all ts)
members g number t ts h = events-split g number (count t) (datings_of t) (datings_of_all ts) (length-datings_of t) h

-- what is put before elements is enclosed with them
put-enclosed : (g : Given) (e : Element) (es : Elements) → AreEnclosed g e → AreAllEnclosed g es → AreAllEnclosed g (put_before e es)
put-enclosed g e none h k = (h, k)
put-enclosed g e (more (Event number) es) h k = (h, k)
put-enclosed g e (more (Group kind us) es) h k = (h, k)
put-enclosed g e (more (Span us closing) es) h k = (((h, k.0.0), k.0.1), k.1)

mutual
  -- The events of a node's element.
  element-enclosed : (g : Given) (number : ℕ) (t : Tree) → AreEvents g number (datings_of t) → AreEnclosed g (element_of number t)
  element-enclosed g number (tree.Leaf name dating) h = h.0.row
  element-enclosed g number (tree.Boundary name) h = h.0.row
  element-enclosed g number (tree.Group Sequence name ts) h = items-enclosed g number ts h
  element-enclosed g number (tree.Group Phase name ts) h = members-enclosed g number ts h
  element-enclosed g number (tree.Group After name ts) h = members-enclosed g number ts h
  element-enclosed g number (tree.Group Before name ts) h = members-enclosed g number ts h

  -- members that bound each other in no way
  members-enclosed : (g : Given) (number : ℕ) (ts : Trees) → AreEvents g number (datings_of_all ts) → AreAllEnclosed g (members_of number ts)
  members-enclosed g number tree.none h = tt
  members-enclosed g number (tree.more t ts) h =
      let parts = members g number t ts h in
      (element-enclosed g number t parts.0, members-enclosed g (number + count t) ts parts.1)

  -- members of a Sequence
  items-enclosed : (g : Given) (number : ℕ) (ts : Trees) → AreEvents g number (datings_of_all ts) → AreAllEnclosed g (items_of number ts)
  items-enclosed g number tree.none h = tt
  items-enclosed g number (tree.more (tree.Boundary name) ts) h = (h.0.row, behind-enclosed g (number + 1) ts h.1)
  items-enclosed g number (tree.more (tree.Leaf name dating) ts) h = (h.0.row, items-enclosed g (number + 1) ts h.1)
  items-enclosed g number (tree.more (tree.Group kind name us) ts) h =
      let t = tree.Group kind name us in
      let parts = members g number t ts h in
      (element-enclosed g number (tree.Group kind name us) parts.0, items-enclosed g (number + count t) ts parts.1)

  -- those behind a Boundary
  behind-enclosed : (g : Given) (number : ℕ) (ts : Trees) → AreEvents g number (datings_of_all ts) → AreAllEnclosed g (items_behind number ts)
  behind-enclosed g number tree.none h = tt
  behind-enclosed g number (tree.more (tree.Boundary name) ts) h = ((tt, h.0.closed refl), behind-enclosed g (number + 1) ts h.1)
  behind-enclosed g number (tree.more (tree.Leaf name dating) ts) h =
      put-enclosed g (Event number) (items_behind (number + 1) ts) h.0.row (behind-enclosed g (number + 1) ts h.1)
  behind-enclosed g number (tree.more (tree.Group kind name us) ts) h =
      let t = tree.Group kind name us in
      let parts = members g number t ts h in
      put-enclosed g (element_of number t) (items_behind (number + count t) ts) (element-enclosed g number (tree.Group kind name us) parts.0)
      (behind-enclosed g (number + count t) ts parts.1)

-- one by one
events-each : (g : Given) (number : ℕ) (datings : List Dating) →
    ((event : ℕ) (dating : Dating) → slice_get datings event ≡ Some dating → IsEvent g (number + event) dating) → AreEvents g number datings
events-each g number [] each = tt
events-each g number (dating ∷ datings) each =
    let first : number + 0 ≡ number = omega arith in (
      subst (λ (k : ℕ). IsEvent g k dating) first (each 0 dating refl),
      events-each g (number + 1) datings
          (λ event other here.
          let next : number + suc event ≡ number + 1 + event = omega arith in
          subst (λ (k : ℕ). IsEvent g k other) next (each (suc event) other here)),
    )

-- what a tree's tables are made from
abbrev pub given : (scene : Scene) → Rows → (ℕ → ℕ) → (ℕ → ℕ → ℕ) → scene.grid.cells ≤ 512 → Given
given scene rows m weights few = record { cells = scene.grid.cells; few = few; rows = rows; weights = weights; m = m }

-- a dating by itself admits every cell, and there each weight is 1
weighed-closed : (scene : Scene) (w : Weighting) (rows : Rows) (m : ℕ → ℕ) (number : ℕ) (dating : Dating) → IsWeighed scene w rows m number dating →
    dating ≡ Free → (cell : ℕ) → cell < scene.grid.cells → row_of scene w number dating cell ≡ 1
weighed-closed scene w rows m number Free h is cell less = h.admitted cell less
weighed-closed scene w rows m number (Exact year) h is cell less = absurd (cc)
weighed-closed scene w rows m number (Normal year error) h is cell less = absurd (cc)
weighed-closed scene w rows m number (Carbon age error) h is cell less = absurd (cc)

-- an event that is weighed is known
weighed-event : (scene : Scene) (w : Weighting) (rows : Rows) (m : ℕ → ℕ) (weights : ℕ → ℕ → ℕ) (few : scene.grid.cells ≤ 512) (number : ℕ)
    (dating : Dating) → IsWeighed scene w rows m number dating → ((cell : ℕ) → weights number cell ≡ row_of scene w number dating cell) →
    IsEvent (given scene rows m weights few) number dating
weighed-event scene w rows m weights few number dating h same = record {
  row = row-same scene.grid.cells (rows number) (row_of scene w number dating) (weights number) (m number) (λ cell less. sym (same cell))
      (record { each = h.each; valid = h.entries.valid; some = h.some; encloses = h.encloses });
  closed = λ is cell less. same cell ∙ weighed-closed scene w rows m number dating h is cell less;
}

-- The events of a tree that is weighed, over any exact rows of the tree.
pub tree-enclosed : (scene : Scene) (w : Weighting) (rows : Rows) (m : ℕ → ℕ) (weights : ℕ → ℕ → ℕ) (few : scene.grid.cells ≤ 512) (number : ℕ)
    (tree : Tree) → AreWeighed scene w rows m number tree → AreRows scene w number tree weights →
    AreEnclosed (given scene rows m weights few) (element_of number tree)
tree-enclosed scene w rows m weights few number tree weighed are =
    element-enclosed (given scene rows m weights few) number tree
    (events-each (given scene rows m weights few) number (datings_of tree)
    (λ event dating here. weighed-event scene w rows m weights few (number + event) dating (weighed event dating here) (are event dating here)))

-- the exact rows of a tree whose events are numbered from a number
abbrev rows_from : Scene → Weighting → ℕ → Tree → ℕ → ℕ → ℕ
rows_from scene w number tree event = row_of scene w event (slice_index_or (datings_of tree) (event - number) Free)

-- they are its rows
from-rows : (scene : Scene) (w : Weighting) (number : ℕ) (tree : Tree) → AreRows scene w number tree (rows_from scene w number tree)
from-rows scene w number tree event dating here cell =
    let place : number + event - number ≡ event = omega arith in
    ap (λ (i : ℕ). row_of scene w (number + event) (slice_index_or (datings_of tree) i Free) cell) place
    ∙ ap (λ (d : Dating). row_of scene w (number + event) d cell) (get_or_from_slice_get (datings_of tree) event dating Free here)

-- Each node's table encloses its part sums.
pub part-sums : TablesEnclosePartSums
part-sums scene w rows m number tree few weighed =
    let weights = rows_from scene w number tree in
    let e = element_of number tree in
    let own = element-made (given scene rows m weights few) e (tree-enclosed scene w rows m weights few number tree weighed (from-rows scene w number tree)) in
    let made = made-same scene.grid.cells (table_of (pass_of scene rows) e) (exact.table_of scene.grid.cells weights e) (part scene w number tree)
    (divisor scene.grid.cells m e)
    (λ a b le less. sym (part-table scene w number tree weights (from-rows scene w number tree) a b le less)) own in
    record { some = made.some; encloses = made.encloses }
