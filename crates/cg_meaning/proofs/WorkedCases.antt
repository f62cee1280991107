-- Small models, computed: the sums over all allowed datings, and for each printed event those with it at each cell.
use Rattle.std.proofs.Common.{◌≡◌, ℕ, refl, List, [], ◌∷◌, map, pos, Some, None}
use Rattle.std.specs.List.{range_with_len}
use Rattle.cg_meaning.specs.Tree.{Tree, Leaf, Boundary, Group, Trees, none, more, Kind, Sequence, Phase, After, Before, Free, Exact, Normal, Carbon}
use Rattle.cg_meaning.specs.Scene.{Scene, scene_on}
use Rattle.cg_meaning.specs.Weights.{ones, distance_of}
use Rattle.cg_meaning.specs.Posterior.{total, total_at}
use Rattle.cg_meaning.specs.Curve.{Curve, point_at}
use Rattle.cg_meaning.specs.Taylor.{series, denominator, bound_top, bound_bottom}

-- the sum for each cell, the oldest first
abbrev sums : Tree → Scene → ℕ → List ℕ
sums tree scene event = map (λ cell. total_at tree scene ones event cell) (range_with_len 0 scene.grid.cells)

-- the year 2000 cal BP
abbrev one_year : Scene
one_year = scene_on (record { oldest = pos 2000; cells = 1 })

-- 2001 and 2000
abbrev pub two_years : Scene
two_years = scene_on (record { oldest = pos 2001; cells = 2 })

-- 2002 to 2000
abbrev pub three_years : Scene
three_years = scene_on (record { oldest = pos 2002; cells = 3 })

-- one statement, under the nameless root
abbrev pub alone : Tree → Tree
alone t = Group Phase [] (more t none)

-- a nameless group
abbrev pub group : Kind → Trees → Tree
group kind ts = Group kind [] ts

-- an event without a dating
abbrev pub date : Tree
date = Leaf [] Free

-- an event of an exact year in cal BP
abbrev exact : ℕ → Tree
exact year = Leaf [] (Exact (pos year))

-- a Boundary
abbrev pub boundary : Tree
boundary = Boundary []

-- Two events: Sequence {A; B}.
abbrev pub two_events : Tree
two_events = alone (group Sequence (more date (more date none)))

two_events-sums : (total two_events three_years ones ≡ 6) × (sums two_events three_years 0 ≡ 3 ∷ 2 ∷ 1 ∷ [])
two_events-sums = (refl, refl)

-- The same on a grid of one year.
one_year-sums : (total two_events one_year ones ≡ 1) × (sums two_events one_year 0 ≡ 1 ∷ [])
one_year-sums = (refl, refl)

-- A span: Sequence {Boundary S; A; Boundary E}. The weight of A's span is 2! over its cells.
abbrev span : Tree
span = alone (group Sequence (more boundary (more date (more boundary none))))

span-sums : (total span two_years ones ≡ 6) × (sums span two_years 0 ≡ 4 ∷ 2 ∷ []) × (sums span two_years 1 ≡ 3 ∷ 3 ∷ [])
    × (sums span two_years 2 ≡ 2 ∷ 4 ∷ [])
span-sums = (refl, refl, refl, refl)

-- The same on three years, where a span of three cells has the weight 3! / 3.
span_of_three-sums : (total span three_years ones ≡ 36) × (sums span three_years 0 ≡ 18 ∷ 12 ∷ 6 ∷ [])
span_of_three-sums = (refl, refl)

-- Phase {A; B}: no order.
abbrev side_by_side : Tree
side_by_side = alone (group Phase (more date (more date none)))

side_by_side-sums : (total side_by_side two_years ones ≡ 4) × (sums side_by_side two_years 0 ≡ 2 ∷ 2 ∷ [])
    × (sums side_by_side two_years 1 ≡ 2 ∷ 2 ∷ [])
side_by_side-sums = (refl, refl, refl)

-- Sequence {A; After {X}; B}: X is not later than B, and free of A.
abbrev with_after : Tree
with_after = alone (group Sequence (more date (more (group After (more date none)) (more date none))))

with_after-sums : (total with_after two_years ones ≡ 5) × (sums with_after two_years 0 ≡ 3 ∷ 2 ∷ []) × (sums with_after two_years 1 ≡ 3 ∷ 2 ∷ [])
    × (sums with_after two_years 2 ≡ 1 ∷ 4 ∷ [])
with_after-sums = (refl, refl, refl, refl)

-- Sequence {A; Before {Y}; B}: Y is not earlier than A, and free of B.
abbrev with_before : Tree
with_before = alone (group Sequence (more date (more (group Before (more date none)) (more date none))))

with_before-sums : (total with_before two_years ones ≡ 5) × (sums with_before two_years 0 ≡ 4 ∷ 1 ∷ []) × (sums with_before two_years 1 ≡ 2 ∷ 3 ∷ [])
    × (sums with_before two_years 2 ≡ 2 ∷ 3 ∷ [])
with_before-sums = (refl, refl, refl, refl)

-- P of 1999 cal BP before Q of 2009 cal BP: no dating is allowed.
abbrev thirteen_years : Scene
thirteen_years = scene_on (record { oldest = pos 2010; cells = 13 })

wrong_order-sum : total (alone (group Sequence (more (exact 1999) (more (exact 2009) none)))) thirteen_years ones ≡ 0
wrong_order-sum = refl

-- Q before P: one dating is allowed, with Q in 2009 cal BP.
abbrev right_order : Tree
right_order = alone (group Sequence (more (exact 2009) (more (exact 1999) none)))

right_order-sums : (total right_order thirteen_years ones ≡ 1)
    × (sums right_order thirteen_years 0 ≡ 0 ∷ 1 ∷ 0 ∷ 0 ∷ 0 ∷ 0 ∷ 0 ∷ 0 ∷ 0 ∷ 0 ∷ 0 ∷ 0 ∷ 0 ∷ [])
right_order-sums = (refl, refl)

-- An exact year outside the grid: no dating is allowed.
outside-sum : total (alone (exact 1999)) (scene_on (record { oldest = pos 1998; cells = 9 })) ones ≡ 0
outside-sum = refl

-- Nested spans: Sequence {Boundary S; Sequence {Boundary U; A; Boundary V}; Boundary E}. S is 7 times in 11 at the older cell.
abbrev nested_spans : Tree
nested_spans = alone (group Sequence (more boundary (more (group Sequence (more boundary (more date (more boundary none)))) (more boundary none))))

nested_spans-sums : (total nested_spans two_years ones ≡ 22) × (sums nested_spans two_years 0 ≡ 14 ∷ 8 ∷ [])
    × (sums nested_spans two_years 2 ≡ 11 ∷ 11 ∷ [])
nested_spans-sums = (refl, refl, refl)

-- The years 1 BC and AD 1, which are neighbours.
first_year-sums : (total (alone date) (scene_on (record { oldest = pos 1950; cells = 2 })) ones ≡ 2)
    × (sums (alone date) (scene_on (record { oldest = pos 1950; cells = 2 })) 0 ≡ 1 ∷ 1 ∷ [])
first_year-sums = (refl, refl)

-- An empty Phase beside A.
abbrev beside_empty : Tree
beside_empty = group Phase (more (group Phase none) (more date none))

beside_empty-sums : (total beside_empty two_years ones ≡ 2) × (sums beside_empty two_years 0 ≡ 1 ∷ 1 ∷ [])
beside_empty-sums = (refl, refl)

-- Sequence {A; After {X}}: nothing follows the After group.
abbrev after_last : Tree
after_last = alone (group Sequence (more date (more (group After (more date none)) none)))

after_last-sums : (total after_last two_years ones ≡ 4) × (sums after_last two_years 0 ≡ 2 ∷ 2 ∷ [])
after_last-sums = (refl, refl)

-- Sequence {Before {Y}; A}: nothing precedes the Before group.
abbrev before_first : Tree
before_first = alone (group Sequence (more (group Before (more date none)) (more date none)))

before_first-sums : (total before_first two_years ones ≡ 4) × (sums before_first two_years 1 ≡ 2 ∷ 2 ∷ [])
before_first-sums = (refl, refl)

-- a curve of two rows, 2002 cal BP at 2010 ± 0 and 2000 cal BP at 1990 ± 40
abbrev pub falling : Curve
falling =
    record { year = pos 2002; age = pos 2010000; sigma = pos 0 } ∷ record { year = pos 2000; age = pos 1990000; sigma = pos 40000 } ∷ []

-- The curve at its rows.
at_rows : (point_at falling (pos 2002) ≡ Some (record { age = pos 2010000; sigma = pos 0; gap = 1 }))
    × (point_at falling (pos 2000) ≡ Some (record { age = pos 1990000; sigma = pos 40000; gap = 1 }))
at_rows = (refl, refl)

-- Between them, 2000 ± 20 as halves.
between_rows : point_at falling (pos 2001) ≡ Some (record { age = pos 4000000; sigma = pos 40000; gap = 2 })
between_rows = refl

-- Outside them.
outside_rows : (point_at falling (pos 2003) ≡ None) × (point_at falling (pos 1999) ≡ None)
outside_rows = (refl, refl)

-- the years 2003 to 2000 under that curve
abbrev pub under_falling : Scene
under_falling = record { grid = record { oldest = pos 2003; cells = 4 }; curve = falling }

-- A radiocarbon age of 2000 ± 30: at no distance from the middle, and none where the curve has no value.
carbon_distance : (distance_of under_falling (Carbon (pos 2000000) (pos 30000)) 0 ≡ None)
    × (distance_of under_falling (Carbon (pos 2000000) (pos 30000)) 1 ≡ Some (record { p = 100000000; q = 900000000; gap = 1 }))
    × (distance_of under_falling (Carbon (pos 2000000) (pos 30000)) 2 ≡ Some (record { p = 0; q = 5200000000; gap = 2 }))
    × (distance_of under_falling (Carbon (pos 2000000) (pos 30000)) 3 ≡ Some (record { p = 100000000; q = 2500000000; gap = 1 }))
carbon_distance = (refl, refl, refl, refl)

-- A year 2000 ± 5: three years away the square of the distance is 9 / 25.
normal_distance : distance_of under_falling (Normal (pos 2000) (pos 5000)) 0 ≡ Some (record { p = 9000000; q = 25000000; gap = 1 })
normal_distance = refl

-- 1 - 1/4, 1 - 1/4 + 1/32, and 1 - 1/4 + 1/32 - 1/384.
quarter_series : (series 1 4 1 ≡ 3) × (denominator 4 1 ≡ 4) × (series 1 4 2 ≡ 25) × (denominator 4 2 ≡ 32)
    × (series 1 4 3 ≡ 299) × (denominator 4 3 ≡ 384)
quarter_series = (refl, refl, refl, refl, refl, refl)

-- Of a half, halved once: the square of the series at a quarter.
half_bounds : (bound_top 1 2 1 2 ≡ 625) × (bound_bottom 2 1 2 ≡ 1024)
half_bounds = (refl, refl)
