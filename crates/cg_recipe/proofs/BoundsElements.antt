-- What the tables of elements lose and how far they reach.
use Rattle.std.proofs.Common.{ℕ, ◌+◌, ◌-◌, ◌*◌, ◌^◌, ◌<◌, ◌≤◌, arith}
use Rattle.cg_meaning.specs.Tree.{Sequence, Phase, After, Before}
use Rattle.cg_table.specs.Table.{Table}
use Rattle.cg_table.specs.Formulas.{identity_of}
use Rattle.cg_part.specs.Elements.{Element, Event, Group, Span, Elements, none, more, open_events, open_in}
use Rattle.cg_recipe.specs.Recipe.{Pass, followed, table_of, in_order, side_by_side}
use Rattle.cg_recipe.specs.Bounds.{AreLight, weight_loss, events_in, events_among, groups_among, nodes_in, IsBoundedTable, TablesAreBounded}
use Rattle.cg_recipe.proofs.BoundsTables.{IsBoundedRow, bounded_more, identity-bounded, row_table-bounded, then_row-bounded, then-bounded, beside-bounded, after-bounded, before-bounded, spanned-bounded}

-- no more events are open than there are
mutual
  pub open-few : (e : Element) → open_events e ≤ events_in e
  open-few (Event number) = omega arith
  open-few (Group Sequence es) = open-few-in es
  open-few (Group Phase es) = open-few-in es
  open-few (Group After es) = omega arith
  open-few (Group Before es) = omega arith
  open-few (Span es closing) = omega arith

  -- nor among elements
  pub open-few-in : (es : Elements) → open_in es ≤ events_among es
  open-few-in none = omega arith
  open-few-in (more e es) = omega (arith, open-few e, open-few-in es)

-- how many nodes elements have
abbrev pub nodes_among : Elements → ℕ
nodes_among es = events_among es + groups_among es

-- a pass over rows that lose and reach little, on a grid of at most 512 cells
pub record IsReady (pass : Pass) : Type 0 where
  pub few : pass.cells ≤ 512
  pub light : AreLight pass.cells pass.rows

-- the row of an event
pub row-bounded : (pass : Pass) (number : ℕ) → IsReady pass → IsBoundedRow pass.cells weight_loss 1 (pass.rows number)
row-bounded pass number ready = record {
  each = ready.light.each number;
  entries = ready.light.entries number;
  lost = ready.light.loss number;
  reached = ready.light.reach number;
}

-- nothing
pub nothing-bounded : (pass : Pass) → IsReady pass → IsBoundedTable pass.cells 0 1 (identity_of pass.cells)
nothing-bounded pass ready = identity-bounded pass.cells ready.few

-- what an element's table may lose
abbrev pub lost : Element → ℕ
lost e = events_in e * weight_loss + (8 * nodes_in e - 1) * 2 ^ 13

-- what elements may add to a loss
abbrev pub added : Elements → ℕ
added es = events_among es * weight_loss + 8 * nodes_among es * 2 ^ 13

-- an element is a node itself
pub nodes-some : (e : Element) → 1 ≤ nodes_in e
nodes-some (Event number) = omega arith
nodes-some (Group kind es) = omega arith
nodes-some (Span es closing) = omega arith

-- an element after what a table has
pub followed-bounded : (pass : Pass) (k r : ℕ) (before : Table) (e : Element) → IsReady pass → r + 8 * nodes_in e < 2 ^ 20 →
    IsBoundedTable pass.cells k r before → IsBoundedTable pass.cells (lost e) (8 * nodes_in e - 1) (table_of pass e) →
    IsBoundedTable pass.cells (k + lost e + 2 ^ 13) (r + (8 * nodes_in e - 1) + 1) (followed pass before e (table_of pass e))
followed-bounded pass k r before (Event number) ready near h own =
    bounded_more (omega arith) (omega arith)
    (then_row-bounded pass.cells k r weight_loss 1 before (pass.rows number) ready.few (omega (arith, near)) h (row-bounded pass number ready))
followed-bounded pass k r before (Group kind es) ready near h own =
    then-bounded pass.cells k r _ _ before (table_of pass (Group kind es)) ready.few (omega (arith, near)) h own
followed-bounded pass k r before (Span es closing) ready near h own =
    then-bounded pass.cells k r _ _ before (table_of pass (Span es closing)) ready.few (omega (arith, near)) h own

mutual
  -- The table of an element.
  pub element-bounded : (pass : Pass) (e : Element) → IsReady pass → 8 * nodes_in e < 2 ^ 20 → events_in e ≤ 100 →
      IsBoundedTable pass.cells (lost e) (8 * nodes_in e - 1) (table_of pass e)
  element-bounded pass (Event number) ready near events =
      bounded_more (omega arith) (omega arith)
      (row_table-bounded pass.cells weight_loss 1 (pass.rows number) ready.few (omega arith) (row-bounded pass number ready))
  element-bounded pass (Group Sequence es) ready near events =
      bounded_more (omega arith) (omega arith)
      (in_order-bounded pass 0 1 (identity_of pass.cells) es ready (omega (arith, near)) events (nothing-bounded pass ready))
  element-bounded pass (Group Phase es) ready near events =
      bounded_more (omega arith) (omega arith)
      (side_by_side-bounded pass 0 1 (identity_of pass.cells) es ready (omega (arith, near)) events (nothing-bounded pass ready))
  element-bounded pass (Group After es) ready near events =
      bounded_more (omega arith) (omega arith)
      (after-bounded pass.cells _ _ _ ready.few (omega (arith, near))
      (side_by_side-bounded pass 0 1 (identity_of pass.cells) es ready (omega (arith, near)) events (nothing-bounded pass ready)))
  element-bounded pass (Group Before es) ready near events =
      bounded_more (omega arith) (omega arith)
      (before-bounded pass.cells _ _ _ ready.few (omega (arith, near))
      (side_by_side-bounded pass 0 1 (identity_of pass.cells) es ready (omega (arith, near)) events (nothing-bounded pass ready)))
  element-bounded pass (Span es closing) ready near events =
      bounded_more (omega arith) (omega arith)
      (spanned-bounded pass.cells _ _ (open_in es) _ ready.few (omega (arith, near)) (omega (arith, events, open-few-in es))
      (in_order-bounded pass 0 1 (identity_of pass.cells) es ready (omega (arith, near)) (omega (arith, events)) (nothing-bounded pass ready)))

  -- elements one after another, onto what precedes them
  pub in_order-bounded : (pass : Pass) (k r : ℕ) (before : Table) (es : Elements) → IsReady pass → r + 8 * nodes_among es < 2 ^ 20 → events_among es ≤ 100 →
      IsBoundedTable pass.cells k r before → IsBoundedTable pass.cells (k + added es) (r + 8 * nodes_among es) (in_order pass before es)
  in_order-bounded pass k r before none ready near events h = bounded_more (omega arith) (omega arith) h
  in_order-bounded pass k r before (more e es) ready near events h =
      let some = nodes-some e in
      bounded_more (omega (arith, some)) (omega (arith, some))
      (in_order-bounded pass (k + lost e + 2 ^ 13) (r + (8 * nodes_in e - 1) + 1) _ es ready (omega (arith, near, some)) (omega (arith, events))
      (followed-bounded pass k r before e ready (omega (arith, near)) h
      (element-bounded pass e ready (omega (arith, near)) (omega (arith, events)))))

  -- elements beside each other, and beside the earlier ones
  pub side_by_side-bounded : (pass : Pass) (k r : ℕ) (others : Table) (es : Elements) → IsReady pass → r + 8 * nodes_among es < 2 ^ 20 → events_among es ≤ 100 →
      IsBoundedTable pass.cells k r others → IsBoundedTable pass.cells (k + added es) (r + 8 * nodes_among es) (side_by_side pass others es)
  side_by_side-bounded pass k r others none ready near events h = bounded_more (omega arith) (omega arith) h
  side_by_side-bounded pass k r others (more e es) ready near events h =
      let some = nodes-some e in
      bounded_more (omega (arith, some)) (omega (arith, some))
      (side_by_side-bounded pass (k + lost e + 2 ^ 13) (r + (8 * nodes_in e - 1) + 1) _ es ready (omega (arith, near, some)) (omega (arith, events))
      (beside-bounded pass.cells k r _ _ others (table_of pass e) ready.few (omega (arith, near, some)) h
      (element-bounded pass e ready (omega (arith, near)) (omega (arith, events)))))

-- Elements within the limits of a model.
pub bounded : TablesAreBounded
bounded pass e some few light events groups =
    bounded_more (omega arith) (omega arith) (element-bounded pass e (record { few = few; light = light }) (omega (arith, events, groups)) events)
