-- Elements of which one has the event: those before it, that one, and those behind it.
use Rattle.std.proofs.Common.{◌≡◌, ℕ, ◌+◌, ◌≤◌, List, take, drop, true, false, arith, refl, subst}
use Rattle.cg_table.specs.Table.{Table}
use Rattle.cg_context.specs.Formulas.{into_phase_of, into_sequence_of}
use Rattle.cg_part.specs.Elements.{Element, Elements, none, more, has, has_among}
use Rattle.cg_recipe.specs.Recipe.{Pass, followed, table_of, in_order, side_by_side, preceding_all, part_in_item, part_at, part_in_order, part_beside}
use Rattle.cg_table.specs.Formulas.{beside_of}
use Rattle.cg_recipe.specs.Ticks.{item_ticks, beside_ticks}
use Rattle.cg_message.specs.Ticks.{in_order_ticks, side_by_side_ticks, part_ticks, part_in_order_ticks, part_beside_ticks}
use Rattle.cg_recipe.specs.Bounds.{events_in, events_among, groups_in, groups_among, nodes_in}
use Rattle.cg_message.specs.Element.{all_in}
use Rattle.cg_message.specs.declared.element.Element as code
use Rattle.cg_message.specs.Pass.{IsSmall, AreSmall, nodes_among}
use Rattle.cg_message.proofs.ElementLemmas.{joined, all_in-split}
use Rattle.cg_message.proofs.SizeLemmas.{none_has}

-- the event's part among items in order
pub part-in_order : (pass : Pass) (event cell : ℕ) (before : Table) (us later : Elements) (e : Element) (x : Table) → has_among event us ≡ false → has event e ≡ true →
    part_in_order pass event cell before (joined us (more e later)) x
    ≡ part_in_item pass cell (in_order pass before us) (preceding_all pass later x) e (part_at pass event cell e (into_sequence_of (in_order pass before us) (preceding_all pass later x)))
part-in_order pass event cell before none later e x h own = rw own refl
part-in_order pass event cell before (more u us) later e x h own =
    let neither = none_has (has event u) (has_among event us) h in
    rw neither.0 (part-in_order pass event cell (followed pass before u (table_of pass u)) us later e x neither.1 own)

-- and among members beside each other
pub part-beside : (pass : Pass) (event cell : ℕ) (others : Table) (us later : Elements) (e : Element) (x : Table) → has_among event us ≡ false → has event e ≡ true →
    part_beside pass event cell others (joined us (more e later)) x
    ≡ part_at pass event cell e (into_phase_of x (side_by_side pass (side_by_side pass others us) later))
part-beside pass event cell others none later e x h own = rw own refl
part-beside pass event cell others (more u us) later e x h own =
    let neither = none_has (has event u) (has_among event us) h in
    rw neither.0 (part-beside pass event cell (beside_of others (table_of pass u)) us later e x neither.1 own)

-- the products that it takes
pub ticks-in_order : (cells event : ℕ) (us later : Elements) (e : Element) → has_among event us ≡ false → has event e ≡ true →
    part_in_order_ticks cells event (joined us (more e later)) ≡ in_order_ticks cells us + (part_ticks cells event e + item_ticks cells e + in_order_ticks cells later)
ticks-in_order cells event none later e h own = rw own (omega arith)
ticks-in_order cells event (more u us) later e h own =
    let neither = none_has (has event u) (has_among event us) h in
    rw neither.0 (omega (arith, ticks-in_order cells event us later e neither.1 own))

-- and among members beside each other
pub ticks-beside : (cells event : ℕ) (us later : Elements) (e : Element) → has_among event us ≡ false → has event e ≡ true →
    part_beside_ticks cells event (joined us (more e later))
    ≡ side_by_side_ticks cells us + (part_ticks cells event e + beside_ticks cells + side_by_side_ticks cells later)
ticks-beside cells event none later e h own = rw own (omega arith)
ticks-beside cells event (more u us) later e h own =
    let neither = none_has (has event u) (has_among event us) h in
    rw neither.0 (omega (arith, ticks-beside cells event us later e neither.1 own))

-- how many events both have
events-joined : (us vs : Elements) → events_among (joined us vs) ≡ events_among us + events_among vs
events-joined none vs = omega arith
events-joined (more u us) vs = omega (arith, events-joined us vs)

-- and of groups
groups-joined : (us vs : Elements) → groups_among (joined us vs) ≡ groups_among us + groups_among vs
groups-joined none vs = omega arith
groups-joined (more u us) vs = omega (arith, groups-joined us vs)

-- The limits of each, and how many nodes all have.
pub record SmallAround (all us : Elements) (e : Element) (later : Elements) : Type 0 where
  pub before : AreSmall us
  pub own : IsSmall e
  pub behind : AreSmall later
  pub nodes : nodes_among all ≡ nodes_among us + nodes_in e + nodes_among later
  pub events : events_among us + events_in e + events_among later ≤ 100
  pub groups : groups_among us + groups_in e + groups_among later ≤ 61

-- what is within the limits is so in each part
small_joined : (us : Elements) (e : Element) (later : Elements) → AreSmall (joined us (more e later)) → SmallAround (joined us (more e later)) us e later
small_joined us e later h =
    let events = events-joined us (more e later) in
    let groups = groups-joined us (more e later) in
    record {
      before = record { events = omega (arith, events, h.events); groups = omega (arith, groups, h.groups) };
      own = record { events = omega (arith, events, h.events); groups = omega (arith, groups, h.groups) };
      behind = record { events = omega (arith, events, h.events); groups = omega (arith, groups, h.groups) };
      nodes = omega (arith, events, groups);
      events = omega (arith, events, h.events);
      groups = omega (arith, groups, h.groups);
    }

-- of elements that are given in parts
pub small_around : {all us : Elements} {e : Element} {later : Elements} → all ≡ joined us (more e later) → AreSmall all → SmallAround all us e later
small_around {all = all} {us = us} {e = e} {later = later} is h = rw is (small_joined us e later (subst AreSmall is h))

-- The limits of the last of elements, of which there are no more, as of their ticks.
pub record SmallLast (cells : ℕ) (all last : Elements) : Type 0 where
  pub small : AreSmall last
  pub nodes : nodes_among last ≤ nodes_among all
  pub ticks : in_order_ticks cells last ≤ in_order_ticks cells all

-- the products of both
ticks-joined : (cells : ℕ) (us vs : Elements) → in_order_ticks cells (joined us vs) ≡ in_order_ticks cells us + in_order_ticks cells vs
ticks-joined cells none vs = omega arith
ticks-joined cells (more u us) vs = omega (arith, ticks-joined cells us vs)

-- the last of elements
last_joined : (cells : ℕ) (us vs : Elements) → AreSmall (joined us vs) → SmallLast cells (joined us vs) vs
last_joined cells us vs h =
    let events = events-joined us vs in
    let groups = groups-joined us vs in
    record {
      small = record { events = omega (arith, events, h.events); groups = omega (arith, groups, h.groups) };
      nodes = omega (arith, events, groups);
      ticks = omega (arith, ticks-joined cells us vs);
    }

-- those of a list from a place on
pub last_small : (cells : ℕ) (items : List code.Element) (i : ℕ) → AreSmall (all_in items) → SmallLast cells (all_in items) (all_in (drop i items))
last_small cells items i h =
    let split = all_in-split items i in
    rw split (last_joined cells (all_in (take i items)) (all_in (drop i items)) (subst AreSmall split h))
