-- Elements within limits, and tables that have room for them.
use Rattle.std.proofs.Common.{◌≡◌, ℕ, ◌+◌, ◌-◌, ◌*◌, ◌^◌, ◌<◌, ◌≤◌, arith, subst, sym, ◌∙◌}
use Rattle.cg_meaning.specs.Tree.{Kind}
use Rattle.cg_table.specs.Table.{Table, table_loss, table_reach}
use Rattle.cg_table.specs.Formulas.{identity_of, beside_of}
use Rattle.cg_part.specs.Elements.{Element, Group, Span, Elements, more}
use Rattle.cg_recipe.specs.Recipe.{Pass, followed, table_of, in_order, side_by_side, preceding_all}
use Rattle.cg_recipe.specs.Bounds.{nodes_in, IsBoundedTable}
use Rattle.cg_recipe.proofs.BoundsTables.{beside-bounded}
use Rattle.cg_recipe.proofs.BoundsElements as recipe
use Rattle.cg_recipe.proofs.BoundsElements.{nodes-some, nothing-bounded, followed-bounded, element-bounded, in_order-bounded, side_by_side-bounded}
use Rattle.cg_recipe.proofs.BoundsPath.{preceding_all-bounded}
use Rattle.cg_message.specs.Pass.{IsReady, pass_of, IsSmall, AreSmall, nodes_among, HasRoom}
use Rattle.cg_message.specs.declared.pass.Pass as code

-- a pass that is ready is so for the recipe's tables
pub ready_pass : (pass : code.Pass) → IsReady pass → recipe.IsReady (pass_of pass)
ready_pass pass ready = record { few = ready.few; light = ready.light }

-- the first of elements
pub first_small : {e : Element} {es : Elements} → AreSmall (more e es) → IsSmall e
first_small h = record { events = omega (arith, h.events); groups = omega (arith, h.groups) }

-- and the later ones
pub later_small : {e : Element} {es : Elements} → AreSmall (more e es) → AreSmall es
later_small h = record { events = omega (arith, h.events); groups = omega (arith, h.groups) }

-- those in a group
pub group_small : {e : Element} (kind : Kind) (es : Elements) → e ≡ Group kind es → IsSmall e → AreSmall es
group_small kind es is h =
    let own : IsSmall (Group kind es) = subst IsSmall is h in
    record { events = own.events; groups = omega (arith, own.groups) }

-- those in a span
pub span_small : {e : Element} (es : Elements) (closing : ℕ) → e ≡ Span es closing → IsSmall e → AreSmall es
span_small es closing is h =
    let own : IsSmall (Span es closing) = subst IsSmall is h in
    record { events = omega (arith, own.events); groups = own.groups }

-- room by bounds
pub bounded_room : {cells k r more : ℕ} {t : Table} → r + more < 2 ^ 20 → IsBoundedTable cells k r t → HasRoom cells more t
bounded_room near h = record { table = h.table; each = h.each; near = omega (arith, near, h.reached) }

-- bounds by room
pub room_bounded : {cells more : ℕ} {t : Table} → HasRoom cells more t → IsBoundedTable cells (table_loss t) (table_reach t) t
room_bounded h = record { table = h.table; each = h.each; lost = omega arith; reached = omega arith }

-- room for less
pub room_less : {cells more less : ℕ} {t : Table} → less ≤ more → HasRoom cells more t → HasRoom cells less t
room_less le h = record { table = h.table; each = h.each; near = omega (arith, le, h.near) }

-- A table of this many cells that reaches this far at most.
pub record IsNear (cells reach : ℕ) (t : Table) : Type 0 where
  pub each : t.cells ≡ cells
  pub reached : table_reach t ≤ reach

-- the table of an element
pub element_near : (pass : Pass) (e : Element) → recipe.IsReady pass → IsSmall e → IsNear pass.cells (8 * nodes_in e - 1) (table_of pass e)
element_near pass e ready fit =
    let own = element-bounded pass e ready (omega (arith, fit.events, fit.groups)) fit.events in
    record { each = own.each; reached = own.reached }

-- Two for the same cells, which reach little together.
pub record AreBeside (others table : Table) : Type 0 where
  pub cells : others.cells ≡ table.cells
  pub near : table_reach others + table_reach table < 2 ^ 20

-- one that has room for an element, and the element's table
pub own_beside : (pass : Pass) (e : Element) (others table : Table) → recipe.IsReady pass → IsSmall e → HasRoom pass.cells (8 * nodes_in e) others → table ≡ table_of pass e →
    AreBeside others table
own_beside pass e others table ready fit room is =
    rw is (let own = element_near pass e ready fit in record { cells = room.each ∙ sym own.each; near = omega (arith, own.reached, nodes-some e, room.near) })

-- an element after a table leaves room for what follows
pub followed_room : (pass : Pass) (rest : ℕ) (before : Table) (e : Element) → recipe.IsReady pass → IsSmall e → HasRoom pass.cells (8 * nodes_in e + rest) before →
    HasRoom pass.cells rest (followed pass before e (table_of pass e))
followed_room pass rest before e ready fit room =
    let some = nodes-some e in
    bounded_room (omega (arith, some, room.near))
    (followed-bounded pass _ (table_reach before) before e ready (omega (arith, room.near)) (room_bounded room)
    (element-bounded pass e ready (omega (arith, fit.events, fit.groups)) fit.events))

-- and so does one beside it
pub beside_room : (pass : Pass) (rest : ℕ) (others : Table) (e : Element) → recipe.IsReady pass → IsSmall e → HasRoom pass.cells (8 * nodes_in e + rest) others →
    HasRoom pass.cells rest (beside_of others (table_of pass e))
beside_room pass rest others e ready fit room =
    let some = nodes-some e in
    bounded_room (omega (arith, some, room.near))
    (beside-bounded pass.cells _ (table_reach others) _ _ others (table_of pass e) ready.few (omega (arith, some, room.near)) (room_bounded room)
    (element-bounded pass e ready (omega (arith, fit.events, fit.groups)) fit.events))

-- a segment
pub in_order_near : (pass : Pass) (es : Elements) (nothing t : Table) → recipe.IsReady pass → AreSmall es → nothing ≡ identity_of pass.cells → t ≡ in_order pass nothing es →
    IsNear pass.cells (1 + 8 * nodes_among es) t
in_order_near pass es nothing t ready fit empty is =
    rw (is, empty) (let own = in_order-bounded pass 0 1 (identity_of pass.cells) es ready (omega (arith, fit.events, fit.groups)) fit.events (nothing-bounded pass ready) in
    record { each = own.each; reached = own.reached })

-- the Phase of a group's members
pub side_by_side_near : (pass : Pass) (es : Elements) (nothing t : Table) → recipe.IsReady pass → AreSmall es → nothing ≡ identity_of pass.cells → t ≡ side_by_side pass nothing es →
    IsNear pass.cells (1 + 8 * nodes_among es) t
side_by_side_near pass es nothing t ready fit empty is =
    rw (is, empty) (let own = side_by_side-bounded pass 0 1 (identity_of pass.cells) es ready (omega (arith, fit.events, fit.groups)) fit.events (nothing-bounded pass ready) in
    record { each = own.each; reached = own.reached })

-- the context of what precedes the last items
pub preceding_all_room : (pass : Pass) (rest : ℕ) (es : Elements) (x v : Table) → recipe.IsReady pass → AreSmall es → HasRoom pass.cells (8 * nodes_among es + rest) x →
    v ≡ preceding_all pass es x → HasRoom pass.cells rest v
preceding_all_room pass rest es x v ready fit room is =
    rw is (bounded_room (omega (arith, room.near)) (preceding_all-bounded pass _ (table_reach x) es x ready (omega (arith, room.near)) fit.events (room_bounded room)))
