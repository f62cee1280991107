-- What the contexts on the way to an event lose and how far they reach, and so the event's parts.
use Rattle.std.proofs.Common.{ℕ, ◌+◌, ◌-◌, ◌*◌, ◌^◌, ◌<◌, ◌≤◌, Bool, true, false, eqb, arith}
use Rattle.std.specs.Prelude.{if◌then◌else◌}
use Rattle.cg_enc.specs.Enclosure.{Enclosure}
use Rattle.cg_table.specs.Table.{Table}
use Rattle.cg_table.specs.Formulas.{identity_of}
use Rattle.cg_table.proofs.WithinLemmas.{IsWithin, within_more, zero-within}
use Rattle.cg_context.specs.Formulas.{root_context, into_sequence_of}
use Rattle.cg_meaning.specs.Tree.{Sequence, Phase, After, Before}
use Rattle.cg_part.specs.Elements.{Element, Event, Group, Span, Elements, none, more, open_in, has}
use Rattle.cg_recipe.specs.Recipe.{Pass, table_of, preceding, preceding_all, part_in_item, part_at, part_in_order, part_beside}
use Rattle.cg_recipe.specs.Bounds.{weight_loss, events_in, events_among, nodes_in, IsBoundedTable, PartsAreBounded}
use Rattle.cg_recipe.proofs.BoundsTables.{bounded_more, beside-bounded}
use Rattle.cg_recipe.proofs.BoundsElements.{IsReady, row-bounded, nothing-bounded, nodes_among, nodes-some, lost, added, open-few-in, followed-bounded, element-bounded, side_by_side-bounded}
use Rattle.cg_recipe.proofs.BoundsContexts.{root-bounded, into_phase-bounded, into_after-bounded, into_before-bounded, back-bounded, back_row-bounded, into_sequence-bounded, into_span-bounded, at_leaf-near, at_member-near, at_end-near}

-- one of two
pick : (b : Bool) {k m : ℕ} {e f : Enclosure} → IsWithin e k m → IsWithin f k m → IsWithin (if b then e else f) k m
pick true h h' = h
pick false h h' = h'

-- greater bounds hold too
near_more : {k r k' r' : ℕ} {e : Enclosure} → k ≤ k' → r ≤ r' → IsWithin e k (r * 2 ^ 31) → IsWithin e k' (r' * 2 ^ 31)
near_more {k = k} {r = r} {k' = k'} {r' = r'} {e = e} le le' h = within_more e k (r * 2 ^ 31) k' (r' * 2 ^ 31) le (omega arith) h

-- the context of what precedes an element
pub preceding-bounded : (pass : Pass) (k r : ℕ) (v : Table) (e : Element) → IsReady pass → r + 8 * nodes_in e < 2 ^ 20 → events_in e ≤ 100 →
    IsBoundedTable pass.cells k r v → IsBoundedTable pass.cells (k + lost e + 2 ^ 13) (r + (8 * nodes_in e - 1) + 1) (preceding pass v e)
preceding-bounded pass k r v (Event number) ready near events h =
    bounded_more (omega arith) (omega arith)
    (back_row-bounded pass.cells k r weight_loss 1 v (pass.rows number) ready.few (omega (arith, near)) h (row-bounded pass number ready))
preceding-bounded pass k r v (Group kind es) ready near events h =
    back-bounded pass.cells k r _ _ v (table_of pass (Group kind es)) ready.few (omega (arith, near)) h
    (element-bounded pass (Group kind es) ready (omega (arith, near)) events)
preceding-bounded pass k r v (Span es closing) ready near events h =
    back-bounded pass.cells k r _ _ v (table_of pass (Span es closing)) ready.few (omega (arith, near)) h
    (element-bounded pass (Span es closing) ready (omega (arith, near)) events)

-- that of what precedes the last items of a Sequence
pub preceding_all-bounded : (pass : Pass) (k r : ℕ) (es : Elements) (x : Table) → IsReady pass → r + 8 * nodes_among es < 2 ^ 20 → events_among es ≤ 100 →
    IsBoundedTable pass.cells k r x → IsBoundedTable pass.cells (k + added es) (r + 8 * nodes_among es) (preceding_all pass es x)
preceding_all-bounded pass k r none x ready near events h = bounded_more (omega arith) (omega arith) h
preceding_all-bounded pass k r (more e es) x ready near events h =
    let some = nodes-some e in
    bounded_more (omega (arith, some)) (omega (arith, some))
    (preceding-bounded pass (k + added es) (r + 8 * nodes_among es) _ e ready (omega (arith, near)) (omega (arith, events))
    (preceding_all-bounded pass k r es x ready (omega (arith, near)) (omega (arith, events)) h))

-- an item with the event: by itself, or an event in it
item-near : (pass : Pass) (event c k r k' r' : ℕ) (before v : Table) (e : Element) → IsReady pass → c < pass.cells →
    IsBoundedTable pass.cells k r before → IsBoundedTable pass.cells k' r' v →
    IsWithin (part_at pass event c e (into_sequence_of before v)) (k + k' + 2 ^ 13 + events_in e * weight_loss + 8 * nodes_in e * 2 ^ 13)
    ((r + r' + 1 + 8 * nodes_in e) * 2 ^ 31) →
    IsWithin (part_in_item pass c before v e (part_at pass event c e (into_sequence_of before v)))
    (k + k' + 2 ^ 13 + events_in e * weight_loss + 8 * nodes_in e * 2 ^ 13) ((r + r' + 1 + 8 * nodes_in e) * 2 ^ 31)
item-near pass event c k r k' r' before v (Event number) ready less h h' own =
    near_more (omega arith) (omega arith)
    (at_member-near pass.cells k r k' r' weight_loss 1 c before v (pass.rows number) ready.few less h h' (row-bounded pass number ready))
item-near pass event c k r k' r' before v (Group kind es) ready less h h' own = own
item-near pass event c k r k' r' before v (Span es closing) ready less h h' own = own

mutual
  -- An event in an element: the context's loss, and what the element itself would lose.
  pub element-near : (pass : Pass) (event c k r : ℕ) (x : Table) (e : Element) → IsReady pass → r + 8 * nodes_in e < 2 ^ 20 → events_in e ≤ 100 →
      c < pass.cells →
      IsBoundedTable pass.cells k r x →
      IsWithin (part_at pass event c e x) (k + events_in e * weight_loss + 8 * nodes_in e * 2 ^ 13) ((r + 8 * nodes_in e) * 2 ^ 31)
  element-near pass event c k r x (Event number) ready near events less h =
      near_more (omega arith) (omega arith) (at_leaf-near pass.cells k r weight_loss 1 c x (pass.rows number) ready.few less h (row-bounded pass number ready))
  element-near pass event c k r x (Group Sequence es) ready near events less h =
      near_more (omega arith) (omega arith)
      (order-near pass event c k r 0 1 x (identity_of pass.cells) es ready (omega (arith, near)) events less h (nothing-bounded pass ready))
  element-near pass event c k r x (Group Phase es) ready near events less h =
      near_more (omega arith) (omega arith)
      (beside-near pass event c k r 0 1 x (identity_of pass.cells) es ready (omega (arith, near)) events less h (nothing-bounded pass ready))
  element-near pass event c k r x (Group After es) ready near events less h =
      near_more (omega arith) (omega arith)
      (beside-near pass event c (k + 2 ^ 13) (r + 1) 0 1 _ (identity_of pass.cells) es ready (omega (arith, near)) events less
      (into_after-bounded pass.cells k r x ready.few (omega (arith, near)) h) (nothing-bounded pass ready))
  element-near pass event c k r x (Group Before es) ready near events less h =
      near_more (omega arith) (omega arith)
      (beside-near pass event c k r 0 1 _ (identity_of pass.cells) es ready (omega (arith, near)) events less
      (into_before-bounded pass.cells k r x ready.few (omega (arith, near)) h) (nothing-bounded pass ready))
  element-near pass event c k r x (Span es closing) ready near events less h =
      pick (eqb event closing)
      (near_more (omega arith) (omega arith)
      (at_end-near pass.cells k r (lost (Span es closing)) (8 * nodes_in (Span es closing) - 1) c x (table_of pass (Span es closing)) ready.few less h
      (element-bounded pass (Span es closing) ready (omega (arith, near)) events)))
      (near_more (omega arith) (omega arith)
      (order-near pass event c (k + 2 ^ 13) (r + 1) 0 1 _ (identity_of pass.cells) es ready (omega (arith, near)) (omega (arith, events)) less
      (into_span-bounded pass.cells k r (open_in es) x ready.few (omega (arith, near)) (omega (arith, events, open-few-in es)) h) (nothing-bounded pass ready)))

  -- an event among items of a Sequence
  order-near : (pass : Pass) (event c k r k' r' : ℕ) (x before : Table) (es : Elements) → IsReady pass → r + r' + 8 * nodes_among es + 2 < 2 ^ 20 →
      events_among es ≤ 100 →
      c < pass.cells → IsBoundedTable pass.cells k r x → IsBoundedTable pass.cells k' r' before →
      IsWithin (part_in_order pass event c before es x) (k + k' + added es + 2 * 2 ^ 13) ((r + r' + 8 * nodes_among es + 2) * 2 ^ 31)
  order-near pass event c k r k' r' x before none ready near events less h h' = zero-within _ _
  order-near pass event c k r k' r' x before (more e es) ready near events less h h' =
      let some = nodes-some e in
      let v = preceding_all-bounded pass k r es x ready (omega (arith, near)) (omega (arith, events)) h in
      pick (has event e)
      (near_more (omega arith) (omega arith)
      (item-near pass event c k' r' (k + added es) (r + 8 * nodes_among es) before (preceding_all pass es x) e ready less h' v
      (element-near pass event c (k' + (k + added es) + 2 ^ 13) (r' + (r + 8 * nodes_among es) + 1) _ e ready (omega (arith, near)) (omega (arith, events)) less
      (into_sequence-bounded pass.cells k' r' (k + added es) (r + 8 * nodes_among es) before _ ready.few (omega (arith, near)) h' v))))
      (near_more (omega (arith, some)) (omega (arith, some))
      (order-near pass event c k r (k' + lost e + 2 ^ 13) (r' + (8 * nodes_in e - 1) + 1) x _ es ready (omega (arith, near, some))
      (omega (arith, events)) less h
      (followed-bounded pass k' r' before e ready (omega (arith, near)) h'
      (element-bounded pass e ready (omega (arith, near)) (omega (arith, events))))))

  -- an event among members of a Phase
  beside-near : (pass : Pass) (event c k r k' r' : ℕ) (x others : Table) (es : Elements) → IsReady pass → r + r' + 8 * nodes_among es + 2 < 2 ^ 20 →
      events_among es ≤ 100 →
      c < pass.cells → IsBoundedTable pass.cells k r x → IsBoundedTable pass.cells k' r' others →
      IsWithin (part_beside pass event c others es x) (k + k' + added es + 2 * 2 ^ 13) ((r + r' + 8 * nodes_among es + 2) * 2 ^ 31)
  beside-near pass event c k r k' r' x others none ready near events less h h' = zero-within _ _
  beside-near pass event c k r k' r' x others (more e es) ready near events less h h' =
      let some = nodes-some e in
      pick (has event e)
      (near_more (omega arith) (omega arith)
      (element-near pass event c (k + (k' + added es) + 2 ^ 13) (r + (r' + 8 * nodes_among es) + 1) _ e ready (omega (arith, near, some))
      (omega (arith, events)) less
      (into_phase-bounded pass.cells k r (k' + added es) (r' + 8 * nodes_among es) x _ ready.few (omega (arith, near, some)) h
      (side_by_side-bounded pass k' r' others es ready (omega (arith, near, some)) (omega (arith, events)) h'))))
      (near_more (omega (arith, some)) (omega (arith, some))
      (beside-near pass event c k r (k' + lost e + 2 ^ 13) (r' + (8 * nodes_in e - 1) + 1) x _ es ready (omega (arith, near, some))
      (omega (arith, events)) less h
      (beside-bounded pass.cells k' r' _ _ others (table_of pass e) ready.few (omega (arith, near, some)) h'
      (element-bounded pass e ready (omega (arith, near)) (omega (arith, events))))))

-- The parts of elements within the limits of a model.
pub parts-bounded : PartsAreBounded
parts-bounded pass event c e some few light events groups less =
    let ready : IsReady pass = record { few = few; light = light } in
    let h = element-near pass event c 0 1 (root_context pass.cells) e ready (omega (arith, events, groups)) events less (root-bounded pass.cells few) in
    let near = within_more (part_at pass event c e (root_context pass.cells)) (0 + events_in e * weight_loss + 8 * nodes_in e * 2 ^ 13)
    ((1 + 8 * nodes_in e) * 2 ^ 31)
    (events_in e * weight_loss + 8 * nodes_in e * 2 ^ 13) ((8 * nodes_in e + 1) * 2 ^ 31) (omega arith) (omega arith) h in
    record { valid = near.valid; lost = near.loss; near = near.near }
