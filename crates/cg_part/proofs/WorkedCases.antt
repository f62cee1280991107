-- Small models, computed: their tables, and that the totals are those of the definition.
use Rattle.std.proofs.Common.{◌≡◌, ℕ, refl, List, [], ◌∷◌, map, pos}
use Rattle.std.specs.List.{range_with_len}
use Rattle.cg_meaning.specs.Tree.{Tree, Leaf, Boundary, Group, Trees, none, more, Kind, Sequence, Phase, After, Before, Free, Exact}
use Rattle.cg_meaning.specs.Scene.{Scene, scene_on}
use Rattle.cg_meaning.specs.Weights.{Weighting, held_at}
use Rattle.cg_meaning.specs.Posterior.{total, total_at}
use Rattle.cg_part.specs.Part.{part}
use Rattle.cg_part.specs.Elements as element
use Rattle.cg_part.specs.Elements.{Element, Elements, Event, Span, element_of, open_events}
use Rattle.cg_part.specs.Tables.{ExactTable, table_of, table_total, rows_of}

-- each event has the weight 1 at each cell
abbrev ones : Weighting
ones event cell = 1

-- 2001 and 2000
abbrev two_years : Scene
two_years = scene_on (record { oldest = pos 2001; cells = 2 })

-- 2002 to 2000
abbrev three_years : Scene
three_years = scene_on (record { oldest = pos 2002; cells = 3 })

-- the total under the weighting, by tables
abbrev total_by_tables : Scene → Weighting → Tree → ℕ
total_by_tables scene weighting tree = table_total scene.grid.cells (table_of scene.grid.cells (rows_of scene weighting tree) (element_of 0 tree))

-- the totals with the event at each cell, the oldest first
abbrev sums : Scene → ℕ → Tree → List ℕ
sums scene event tree =
    map (λ cell. table_total scene.grid.cells (table_of scene.grid.cells (held_at event cell (rows_of scene ones tree)) (element_of 0 tree)))
    (range_with_len 0 scene.grid.cells)

-- one statement, under the nameless root
abbrev alone : Tree → Tree
alone t = Group Phase [] (more t none)

-- a nameless group
abbrev group : Kind → Trees → Tree
group kind ts = Group kind [] ts

-- an event without a dating
abbrev date : Tree
date = Leaf [] Free

-- a Boundary
abbrev boundary : Tree
boundary = Boundary []

-- a tree's own table, where each event has the weight 1
abbrev tree_table : Scene → Tree → ExactTable
tree_table scene tree = table_of scene.grid.cells (rows_of scene ones tree) (element_of 0 tree)

-- the entries of a table on two cells
abbrev entries : ExactTable → List ℕ
entries t = t 0 0 ∷ t 0 1 ∷ t 1 1 ∷ []

-- Two events: Sequence {A; B}.
abbrev two_events : Tree
two_events = group Sequence (more date (more date none))

two_events-table : (entries (tree_table two_years two_events) ≡ 1 ∷ 2 ∷ 1 ∷ []) × (entries (part two_years ones 0 two_events) ≡ 1 ∷ 2 ∷ 1 ∷ [])
two_events-table = (refl, refl)

two_events-sums : (total_by_tables three_years ones (alone two_events) ≡ 6) × (sums three_years 0 (alone two_events) ≡ 3 ∷ 2 ∷ 1 ∷ [])
two_events-sums = (refl, refl)

-- Phase {A; B}: no order.
abbrev side_by_side : Tree
side_by_side = group Phase (more date (more date none))

side_by_side-table : (entries (tree_table two_years side_by_side) ≡ 1 ∷ 3 ∷ 1 ∷ [])
    × (entries (part two_years ones 0 side_by_side) ≡ 1 ∷ 3 ∷ 1 ∷ [])
side_by_side-table = (refl, refl)

side_by_side-sums : (total_by_tables two_years ones side_by_side ≡ 4) × (sums two_years 0 side_by_side ≡ 2 ∷ 2 ∷ [])
    × (sums two_years 1 side_by_side ≡ 2 ∷ 2 ∷ [])
side_by_side-sums = (refl, refl, refl)

-- After {X} begins nowhere, and reaches X or where the others are.
after-table : (entries (tree_table two_years (group After (more date none))) ≡ 1 ∷ 1 ∷ 2 ∷ [])
    × (entries (part two_years ones 0 (group After (more date none))) ≡ 1 ∷ 1 ∷ 2 ∷ [])
after-table = (refl, refl)

-- Before {Y} reaches nothing.
before-table : (entries (tree_table two_years (group Before (more date none))) ≡ 2 ∷ 0 ∷ 1 ∷ [])
    × (entries (part two_years ones 0 (group Before (more date none))) ≡ 2 ∷ 0 ∷ 1 ∷ [])
before-table = (refl, refl)

-- Sequence {A; After {X}; B}: X is not later than B, and free of A.
abbrev with_after : Tree
with_after = alone (group Sequence (more date (more (group After (more date none)) (more date none))))

with_after-sums : (total_by_tables two_years ones with_after ≡ 5) × (sums two_years 0 with_after ≡ 3 ∷ 2 ∷ [])
    × (sums two_years 1 with_after ≡ 3 ∷ 2 ∷ [])
    × (sums two_years 2 with_after ≡ 1 ∷ 4 ∷ [])
with_after-sums = (refl, refl, refl, refl)

-- Sequence {A; Before {Y}; B}: Y is not earlier than A, and free of B.
abbrev with_before : Tree
with_before = alone (group Sequence (more date (more (group Before (more date none)) (more date none))))

with_before-sums : (total_by_tables two_years ones with_before ≡ 5) × (sums two_years 0 with_before ≡ 4 ∷ 1 ∷ [])
    × (sums two_years 1 with_before ≡ 2 ∷ 3 ∷ [])
    × (sums two_years 2 with_before ≡ 2 ∷ 3 ∷ [])
with_before-sums = (refl, refl, refl, refl)

-- A span: Sequence {Boundary S; A; Boundary E}. The weight of A's span is 2! over its cells.
abbrev span : Tree
span = group Sequence (more boundary (more date (more boundary none)))

span-table : (entries (tree_table two_years span) ≡ 2 ∷ 4 ∷ 2 ∷ []) × (entries (part two_years ones 0 span) ≡ 2 ∷ 4 ∷ 2 ∷ [])
span-table = (refl, refl)

span-sums : (total_by_tables two_years ones (alone span) ≡ 6) × (sums two_years 0 (alone span) ≡ 4 ∷ 2 ∷ [])
    × (sums two_years 1 (alone span) ≡ 3 ∷ 3 ∷ [])
    × (sums two_years 2 (alone span) ≡ 2 ∷ 4 ∷ [])
span-sums = (refl, refl, refl, refl)

-- The same on three years, where a span of three cells has the weight 3! / 3.
span_of_three-sums : (total_by_tables three_years ones (alone span) ≡ 36) × (sums three_years 0 (alone span) ≡ 18 ∷ 12 ∷ 6 ∷ [])
span_of_three-sums = (refl, refl)

-- Nested spans: Sequence {Boundary S; Sequence {Boundary U; A; Boundary V}; Boundary E}. U and V are open.
abbrev nested_spans : Tree
nested_spans = alone (group Sequence (more boundary (more span (more boundary none))))

nested_spans-sums : (open_events (element_of 0 span) ≡ 2) × (total_by_tables two_years ones nested_spans ≡ 22) × (sums two_years 0 nested_spans ≡ 14 ∷ 8 ∷ [])
    × (sums two_years 2 nested_spans ≡ 11 ∷ 11 ∷ [])
nested_spans-sums = (refl, refl, refl, refl)

-- Sequence {A; Boundary S; B; Boundary T; Phase {C; D}; Boundary E; F}: two spans, and events before and behind them.
abbrev two_spans : Tree
two_spans = group Sequence (more date (more boundary (more date (more boundary (more side_by_side (more boundary (more date none)))))))

two_spans-total : total_by_tables two_years ones (alone two_spans) ≡ total (alone two_spans) two_years ones
two_spans-total = refl

-- Sequence {Boundary S; After {X}; Phase {A; Before {Y}}; Boundary E}: only A has the span's weight.
abbrev freed_in_span : Tree
freed_in_span =
    group Sequence (more boundary (more (group After (more date none)) (more (group Phase (more date (more (group Before (more date none)) none))) (more boundary none))))

freed_in_span-total : (total_by_tables two_years ones (alone freed_in_span) ≡ total (alone freed_in_span) two_years ones)
    × (sums two_years 2 (alone freed_in_span) ≡ total_at (alone freed_in_span) two_years ones 2 0 ∷ total_at (alone freed_in_span) two_years ones 2 1 ∷ [])
freed_in_span-total = (refl, refl)

-- Sequence {C_Date of 2001 cal BP; A}: the year is the older cell.
right_year-sums : (total_by_tables two_years ones (alone (group Sequence (more (Leaf [] (Exact (pos 2001))) (more date none)))) ≡ 2)
    × (sums two_years 1 (alone (group Sequence (more (Leaf [] (Exact (pos 2001))) (more date none)))) ≡ 1 ∷ 1 ∷ [])
right_year-sums = (refl, refl)

-- these elements, one by one
abbrev elements : List Element → Elements
elements [] = element.none
elements (e ∷ es) = element.more e (elements es)

-- Sequence {Boundary S; Phase {A; B}; C; Boundary T; D; Boundary E}: S, the span that T closes, and the one that E closes.
abbrev spans_in_turn : Tree
spans_in_turn = group Sequence (more boundary (more side_by_side (more date (more boundary (more date (more boundary none))))))

spans_in_turn-elements : (element_of 0 spans_in_turn
    ≡ element.Group Sequence (elements (
    Event 0 ∷ Span (elements (element.Group Phase (elements (Event 1 ∷ Event 2 ∷ [])) ∷ Event 3 ∷ [])) 4
    ∷ Span (elements (Event 5 ∷ [])) 6 ∷ [])))
    × (open_events (element_of 0 spans_in_turn) ≡ 3)
spans_in_turn-elements = (refl, refl)

spans_in_turn-total : total_by_tables two_years ones spans_in_turn ≡ total spans_in_turn two_years ones
spans_in_turn-total = refl

-- Sequence {A; B}, its events numbered from 7: no span.
two_events-elements : (element_of 7 two_events ≡ element.Group Sequence (elements (Event 7 ∷ Event 8 ∷ [])))
    × (open_events (element_of 7 two_events) ≡ 2)
two_events-elements = (refl, refl)

-- Sequence {A; Boundary S; B; After {X}}: a Boundary that no other one follows begins no span, and X is not open.
abbrev one_boundary : Tree
one_boundary = group Sequence (more date (more boundary (more date (more (group After (more date none)) none))))

one_boundary-elements : (element_of 0 one_boundary
    ≡ element.Group Sequence (elements (Event 0 ∷ Event 1 ∷ Event 2 ∷ element.Group After (elements (Event 3 ∷ [])) ∷ [])))
    × (open_events (element_of 0 one_boundary) ≡ 3)
one_boundary-elements = (refl, refl)
