-- Room for what is left on the way down.
use Rattle.std.proofs.Common.{◌≡◌, ℕ, ◌+◌, ◌*◌, ◌^◌, ◌≤◌, Bool, true, false, arith, refl, sym, ◌∙◌}
use Rattle.std.specs.Prelude.{if◌then◌else◌, nat_lt}
use Rattle.cg_enc.specs.Enclosure.{Enclosure, exact_zero}
use Rattle.cg_table.specs.Table.{Table, table_reach}
use Rattle.cg_table.specs.Formulas.{identity_entry, identity_of}
use Rattle.cg_table.specs.Live.{identity_rows_entry, identity_rows_of}
use Rattle.cg_table.proofs.FormulaLemmas.{identity-within}
use Rattle.cg_table.proofs.WithinLemmas.{IsWithin, zero-within}
use Rattle.cg_context.specs.Formulas.{into_phase_of, into_after_of, into_before_of, into_sequence_of, into_span_of}
use Rattle.cg_part.specs.Elements.{Element, Elements, open_in}
use Rattle.cg_recipe.specs.Recipe.{Pass, in_order, side_by_side, preceding_all}
use Rattle.cg_recipe.specs.Bounds.{events_among, nodes_in, IsBoundedTable}
use Rattle.cg_recipe.proofs.BoundsTables.{bounded-table}
use Rattle.cg_recipe.proofs.BoundsElements.{IsReady, added, nothing-bounded, in_order-bounded, side_by_side-bounded, open-few-in}
use Rattle.cg_recipe.proofs.BoundsPath.{preceding_all-bounded}
use Rattle.cg_recipe.proofs.BoundsContexts.{into_phase-bounded, into_after-bounded, into_before-bounded, into_sequence-bounded, into_span-bounded}
use Rattle.cg_message.specs.Pass.{AreSmall, nodes_among, HasRoom, HaveRoom}
use Rattle.cg_message.proofs.AroundLemmas.{SmallAround}
use Rattle.cg_message.proofs.RoomLemmas.{bounded_room, room_bounded, AreBeside}

-- the identity in its first rows
pub rows-bounded : (cells live : ℕ) → cells ≤ 512 → IsBoundedTable cells 0 1 (identity_rows_of cells live)
rows-bounded cells live few =
    bounded-table cells cells 0 66 1 (identity_rows_entry live) refl few (omega arith) (omega arith) (λ a b le less. pick (nat_lt a live) (identity_entry a b) (identity-within a b))
  where
    pick : (b : Bool) (e : Enclosure) → IsWithin e 0 66 → IsWithin (if b then e else exact_zero) 0 66
    pick true e h = h
    pick false e h = zero-within 0 66

-- what precedes the item with the event, and the context of what it ends
pub item_room : (pass : Pass) (live : ℕ) (all us : Elements) (e : Element) (later : Elements) (x before v : Table) → IsReady pass → SmallAround all us e later →
    HasRoom pass.cells (8 * nodes_among all + 3) x → before ≡ in_order pass (identity_rows_of pass.cells live) us → v ≡ preceding_all pass later x →
    HaveRoom pass.cells (8 * nodes_in e + 1) before v
item_room pass live all us e later x before v ready fit room first second =
    rw (first, second)
    (let p = in_order-bounded pass 0 1 (identity_rows_of pass.cells live) us ready (omega (arith, fit.before.events, fit.before.groups)) fit.before.events (rows-bounded pass.cells live ready.few) in
    let q = preceding_all-bounded pass _ (table_reach x) later x ready (omega (arith, room.near, fit.nodes)) fit.behind.events (room_bounded room) in
    record {
      first = bounded_room (omega (arith, fit.before.events, fit.before.groups)) p;
      second = bounded_room (omega (arith, room.near, fit.nodes)) q;
      near = omega (arith, p.reached, q.reached, room.near, fit.nodes);
    })

-- the item's context
pub sequence_room : (cells further : ℕ) (before v inner : Table) → cells ≤ 512 → HaveRoom cells (further + 1) before v → inner ≡ into_sequence_of before v → HasRoom cells further inner
sequence_room cells further before v inner few room is =
    rw is (bounded_room (omega (arith, room.near)) (into_sequence-bounded cells _ (table_reach before) _ (table_reach v) before v few (omega (arith, room.near)) (room_bounded room.first) (room_bounded room.second)))

-- what stands before the member with the event leaves room for what stands behind it
pub earlier_room : (pass : Pass) (further : ℕ) (us : Elements) (nothing t : Table) → IsReady pass → AreSmall us → further ≤ 2 ^ 19 → nothing ≡ identity_of pass.cells → t ≡ side_by_side pass nothing us →
    HasRoom pass.cells further t
earlier_room pass further us nothing t ready fit small empty is =
    rw (is, empty) (bounded_room (omega (arith, small, fit.events, fit.groups))
    (side_by_side-bounded pass 0 1 (identity_of pass.cells) us ready (omega (arith, fit.events, fit.groups)) fit.events (nothing-bounded pass ready)))

-- the table of the others
abbrev others_of : Pass → Elements → Elements → Table
others_of pass us later = side_by_side pass (side_by_side pass (identity_of pass.cells) us) later

-- it reaches little
others-bounded : (pass : Pass) (us later : Elements) → IsReady pass → AreSmall us → AreSmall later →
    IsBoundedTable pass.cells (0 + added us + added later) (1 + 8 * nodes_among us + 8 * nodes_among later) (others_of pass us later)
others-bounded pass us later ready first last =
    side_by_side-bounded pass (0 + added us) (1 + 8 * nodes_among us) _ later ready (omega (arith, first.events, first.groups, last.events, last.groups)) last.events
    (side_by_side-bounded pass 0 1 (identity_of pass.cells) us ready (omega (arith, first.events, first.groups)) first.events (nothing-bounded pass ready))

-- it can be put to a context that has room for it
pub others_beside : (pass : Pass) (us later : Elements) (x others : Table) → IsReady pass → AreSmall us → AreSmall later →
    HasRoom pass.cells (8 * nodes_among us + 8 * nodes_among later + 1) x → others ≡ others_of pass us later → AreBeside x others
others_beside pass us later x others ready first last room is =
    rw is (let own = others-bounded pass us later ready first last in record { cells = room.each ∙ sym own.each; near = omega (arith, own.reached, room.near) })

-- and leaves room for the member with the event
pub phase_room : (pass : Pass) (all us : Elements) (e : Element) (later : Elements) (x inner : Table) → IsReady pass → SmallAround all us e later →
    HasRoom pass.cells (8 * nodes_among all + 3) x → inner ≡ into_phase_of x (others_of pass us later) → HasRoom pass.cells (8 * nodes_in e) inner
phase_room pass all us e later x inner ready fit room is =
    rw is (bounded_room (omega (arith, room.near, fit.nodes))
    (into_phase-bounded pass.cells _ (table_reach x) _ _ x (others_of pass us later) ready.few (omega (arith, room.near, fit.nodes)) (room_bounded room)
    (others-bounded pass us later ready fit.before fit.behind)))

-- the context of the Phase of an After group's members
pub after_room : (cells nodes : ℕ) (x inner : Table) → cells ≤ 512 → HasRoom cells (8 * (1 + nodes)) x → inner ≡ into_after_of x → HasRoom cells (8 * nodes + 3) inner
after_room cells nodes x inner few room is =
    rw is (bounded_room (omega (arith, room.near)) (into_after-bounded cells _ (table_reach x) x few (omega (arith, room.near)) (room_bounded room)))

-- of a Before group
pub before_room : (cells nodes : ℕ) (x inner : Table) → cells ≤ 512 → HasRoom cells (8 * (1 + nodes)) x → inner ≡ into_before_of x → HasRoom cells (8 * nodes + 3) inner
before_room cells nodes x inner few room is =
    rw is (bounded_room (omega (arith, room.near)) (into_before-bounded cells _ (table_reach x) x few (omega (arith, room.near)) (room_bounded room)))

-- that of what stands between two Boundaries
pub span_room : (cells nodes : ℕ) (es : Elements) (x inner : Table) → cells ≤ 512 → events_among es ≤ 100 → HasRoom cells (8 * (1 + nodes)) x → inner ≡ into_span_of x (open_in es) →
    HasRoom cells (8 * nodes + 3) inner
span_room cells nodes es x inner few events room is =
    rw is (bounded_room (omega (arith, room.near)) (into_span-bounded cells _ (table_reach x) (open_in es) x few (omega (arith, room.near)) (omega (arith, events, open-few-in es)) (room_bounded room)))
