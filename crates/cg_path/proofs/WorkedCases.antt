-- Small models, computed: contexts, and that the entries they give are the totals with the event at each cell.
use Rattle.std.proofs.Common.{◌≡◌, ℕ, refl, List, [], ◌∷◌, map, pos}
use Rattle.std.specs.List.{range_with_len}
use Rattle.cg_meaning.specs.Tree.{Tree, Leaf, Boundary, Group, Trees, none, more, Kind, Sequence, Phase, After, Before, Free}
use Rattle.cg_meaning.specs.Scene.{Scene, scene_on}
use Rattle.cg_meaning.specs.Weights.{ones}
use Rattle.cg_meaning.specs.Posterior.{total_at}
use Rattle.cg_part.specs.Elements.{element_of}
use Rattle.cg_part.specs.Tables.{row_table, rows_of}
use Rattle.cg_path.specs.Contexts.{ExactContext, root, into_phase, into_after, into_before, back, into_sequence, into_span, at_leaf, at_end}
use Rattle.cg_path.specs.Path.{entry_at}

-- 2001 and 2000
abbrev two_years : Scene
two_years = scene_on (record { oldest = pos 2001; cells = 2 })

-- 2002 to 2000
abbrev three_years : Scene
three_years = scene_on (record { oldest = pos 2002; cells = 3 })

-- an event's entries by contexts, the oldest first
abbrev entries : Scene → ℕ → Tree → List ℕ
entries scene event tree =
    map (λ cell. entry_at scene.grid.cells (rows_of scene ones tree) event cell (element_of 0 tree) root) (range_with_len 0 scene.grid.cells)

-- the sums over the allowed datings with the event at each cell
abbrev sums : Scene → ℕ → Tree → List ℕ
sums scene event tree = map (λ cell. total_at tree scene ones event cell) (range_with_len 0 scene.grid.cells)

-- the coefficients on two cells
abbrev coefficients : ExactContext → List ℕ
coefficients x = x 0 0 ∷ x 0 1 ∷ x 1 1 ∷ []

-- of the two cells of an event
abbrev both : (ℕ → ℕ) → List ℕ
both r = r 0 ∷ r 1 ∷ []

-- the weight 1 at each cell
abbrev ones_row : ℕ → ℕ
ones_row cell = 1

-- a nameless group
abbrev group : Kind → Trees → Tree
group kind ts = Group kind [] ts

-- one statement, under the nameless root
abbrev alone : Tree → Tree
alone t = group Phase (more t none)

-- an event without a dating
abbrev date : Tree
date = Leaf [] Free

-- a Boundary
abbrev boundary : Tree
boundary = Boundary []

-- Two events: Sequence {A; B}.
abbrev two_events : Tree
two_events = group Sequence (more date (more date none))

-- what precedes B, by its row: with A at the oldest cell B has two
behind_first : coefficients (back 2 root (row_table ones_row)) ≡ 2 ∷ 1 ∷ 0 ∷ []
behind_first = refl

-- B's own, behind A's row: where it reaches the youngest cell, A is at either
second_item : (coefficients (into_sequence (row_table ones_row) root) ≡ 1 ∷ 1 ∷ 1 ∷ [])
    × (both (at_leaf (into_sequence (row_table ones_row) root)) ≡ 1 ∷ 2 ∷ [])
second_item = (refl, refl)

two_events-entries : (entries two_years 0 two_events ≡ 2 ∷ 1 ∷ []) × (entries two_years 1 two_events ≡ 1 ∷ 2 ∷ [])
    × (entries three_years 0 (alone two_events) ≡ 3 ∷ 2 ∷ 1 ∷ [])
    × (entries three_years 1 (alone two_events) ≡ 1 ∷ 2 ∷ 3 ∷ [])
two_events-entries = (refl, refl, refl, refl)

-- Phase {A; B}: no order.
abbrev beside_each_other : Tree
beside_each_other = group Phase (more date (more date none))

-- each with the other's row
one_member : coefficients (into_phase 2 root (row_table ones_row)) ≡ 2 ∷ 2 ∷ 0 ∷ []
one_member = refl

beside_each_other-entries : (entries two_years 0 beside_each_other ≡ 2 ∷ 2 ∷ [])
    × (entries two_years 1 beside_each_other ≡ 2 ∷ 2 ∷ [])
    × (entries three_years 1 beside_each_other ≡ 3 ∷ 3 ∷ 3 ∷ [])
beside_each_other-entries = (refl, refl, refl)

-- of the second item of Sequence {A; ..; B}
abbrev in_the_middle : ExactContext
in_the_middle = into_sequence (row_table ones_row) (back 2 root (row_table ones_row))

middle-coefficients : coefficients in_the_middle ≡ 2 ∷ 1 ∷ 1 ∷ []
middle-coefficients = refl

-- Sequence {A; After {X}; B}: X is not later than B, and free of A.
abbrev with_after : Tree
with_after = alone (group Sequence (more date (more (group After (more date none)) (more date none))))

-- from the oldest cell alone
after-coefficients : coefficients (into_after 2 in_the_middle) ≡ 3 ∷ 2 ∷ 0 ∷ []
after-coefficients = refl

with_after-entries : (entries two_years 0 with_after ≡ 3 ∷ 2 ∷ []) × (entries two_years 1 with_after ≡ 3 ∷ 2 ∷ [])
    × (entries two_years 2 with_after ≡ 1 ∷ 4 ∷ [])
with_after-entries = (refl, refl, refl)

-- Sequence {A; Before {Y}; B}: Y is not earlier than A, and free of B.
abbrev with_before : Tree
with_before = alone (group Sequence (more date (more (group Before (more date none)) (more date none))))

-- whatever it reaches
before-coefficients : coefficients (into_before in_the_middle) ≡ 2 ∷ 2 ∷ 1 ∷ []
before-coefficients = refl

with_before-entries : (entries two_years 0 with_before ≡ 4 ∷ 1 ∷ []) × (entries two_years 1 with_before ≡ 2 ∷ 3 ∷ [])
    × (entries two_years 2 with_before ≡ 2 ∷ 3 ∷ [])
with_before-entries = (refl, refl, refl)

-- A span: Sequence {Boundary S; A; Boundary E}. The weight of A's span is 2! over its cells.
abbrev span : Tree
span = group Sequence (more boundary (more date (more boundary none)))

-- of the span behind S, where its pair has the weights 2, 1 and 2
abbrev of_span : ExactContext
of_span = into_sequence (row_table ones_row) root

span-coefficients : (coefficients (into_span 2 of_span 1) ≡ 3 ∷ 1 ∷ 2 ∷ [])
    × (both (at_leaf (into_span 2 of_span 1)) ≡ 3 ∷ 3 ∷ [])
span-coefficients = (refl, refl)

-- at E, by the span's table, whose entries are 2, 2 and 2
end-coefficients : both (at_end of_span (λ a b. 2)) ≡ 2 ∷ 4 ∷ []
end-coefficients = refl

span-entries : (entries two_years 0 (alone span) ≡ 4 ∷ 2 ∷ []) × (entries two_years 1 (alone span) ≡ 3 ∷ 3 ∷ [])
    × (entries two_years 2 (alone span) ≡ 2 ∷ 4 ∷ [])
    × (entries three_years 0 (alone span) ≡ 18 ∷ 12 ∷ 6 ∷ [])
span-entries = (refl, refl, refl, refl)

-- Nested spans: Sequence {Boundary S; Sequence {Boundary U; A; Boundary V}; Boundary E}. U and V are open.
abbrev nested_spans : Tree
nested_spans = alone (group Sequence (more boundary (more span (more boundary none))))

nested_spans-entries : (entries two_years 0 nested_spans ≡ 14 ∷ 8 ∷ []) × (entries two_years 1 nested_spans ≡ 12 ∷ 10 ∷ [])
    × (entries two_years 2 nested_spans ≡ 11 ∷ 11 ∷ [])
    × (entries two_years 3 nested_spans ≡ 10 ∷ 12 ∷ [])
    × (entries two_years 4 nested_spans ≡ 8 ∷ 14 ∷ [])
nested_spans-entries = (refl, refl, refl, refl, refl)

-- Sequence {A; Boundary S; B; Boundary T; Phase {C; D}; Boundary E; F}: two spans, and events before and behind them.
abbrev two_spans : Tree
two_spans = alone (group Sequence (more date (more boundary (more date (more boundary (more beside_each_other (more boundary (more date none))))))))

-- B, its Boundary, and D
two_spans-entries : (entries two_years 2 two_spans ≡ sums two_years 2 two_spans) × (entries two_years 3 two_spans ≡ sums two_years 3 two_spans)
    × (entries two_years 5 two_spans ≡ sums two_years 5 two_spans)
two_spans-entries = (refl, refl, refl)

-- Sequence {Boundary S; After {X}; Phase {A; Before {Y}}; Boundary E}: only A has the span's weight.
abbrev freed_in_span : Tree
freed_in_span =
    alone (group Sequence (more boundary (more (group After (more date none)) (more (group Phase (more date (more (group Before (more date none)) none))) (more boundary none)))))

-- X, Y and E
freed_in_span-entries : (entries two_years 1 freed_in_span ≡ sums two_years 1 freed_in_span)
    × (entries two_years 3 freed_in_span ≡ sums two_years 3 freed_in_span)
    × (entries two_years 4 freed_in_span ≡ sums two_years 4 freed_in_span)
freed_in_span-entries = (refl, refl, refl)
