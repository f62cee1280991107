-- Weights at two distances, and the limit of years, computed: what is admitted, and its neighbour that is not.
use Rattle.std.proofs.Common.{◌≡◌, ℕ, ◌+◌, ◌-◌, ◌*◌, ◌^◌, ◌≤◌, refl, ap, arith, lit≤, pos, Some, None}
use Rattle.cg_meaning.specs.Tree.{Normal, Carbon}
use Rattle.cg_meaning.specs.Scene.{Scene, scene_on, scene_of}
use Rattle.cg_meaning.specs.Taylor.{IsHalving, bound_top, bound_bottom}
use Rattle.cg_meaning.specs.Weights.{Distance, IsWeight}
use Rattle.cg_meaning.specs.Cover.{cover_fault, NoCurve, Uncovered, Far}
use Rattle.cg_meaning.proofs.WorkedCases.{falling, under_falling}

-- z = 0, where the variance is 1
abbrev no_distance : Distance
no_distance = record { p = 0; q = 1; gap = 1 }

-- z = 1/4, where the variance is 4
abbrev quarter : Distance
quarter = record { p = 1; q = 4; gap = 1 }

-- Neither is halved.
none_halved : (p q : ℕ) → 4 * p ≤ q * 2 ^ 0 → IsHalving p q 0
none_halved p q small = record { small = small; least = λ k h. omega arith }

no_halving : {m w : ℕ} (distance : Distance) → 4 * distance.p ≤ distance.q * 2 ^ 0 → (weight : IsWeight m w distance) → weight.halvings ≡ 0
no_halving distance small weight = omega (arith, weight.halved.least 0 small)

-- At no distance, of the multiplier 2 ^ 65: one less is a weight, and two less is none.
one_less : IsWeight (2 ^ 65) (2 ^ 65 - 1) no_distance
one_less = record { halvings = 0; halved = none_halved 0 1 (lit≤ tt); lower = lit≤ tt; upper = lit≤ tt }

two_less : IsWeight (2 ^ 65) (2 ^ 65 - 2) no_distance → ⊥
two_less weight =
    let none = no_halving no_distance (lit≤ tt) weight in
    omega (arith, weight.lower, ap (λ h. bound_top 0 1 h 17) none, ap (λ h. bound_bottom 1 h 17) none)

-- One more is none, but of the next multiplier it is a weight.
one_more : IsWeight (2 ^ 65) (2 ^ 65 + 1) no_distance → ⊥
one_more weight =
    let none = no_halving no_distance (lit≤ tt) weight in
    omega (arith, weight.upper, ap (λ h. bound_top 0 1 h 16) none, ap (λ h. bound_bottom 1 h 16) none)

one_more_of_the_next : IsWeight (2 ^ 65 + 1) (2 ^ 65 + 2) no_distance
one_more_of_the_next = record { halvings = 0; halved = none_halved 0 1 (lit≤ tt); lower = lit≤ tt; upper = lit≤ tt }

-- At a quarter, of the multiplier 10 ^ 28: the least weight, and the number before it.
least_weight : IsWeight (10 ^ 28) 4412484512922977014204860078 quarter
least_weight = record { halvings = 0; halved = none_halved 1 4 (lit≤ tt); lower = lit≤ tt; upper = lit≤ tt }

before_the_least : IsWeight (10 ^ 28) 4412484512922977014204860077 quarter → ⊥
before_the_least weight =
    let none = no_halving quarter (lit≤ tt) weight in
    omega (arith, weight.lower, ap (λ h. bound_top 1 4 h 17) none, ap (λ h. bound_bottom 4 h 17) none)

-- The greatest weight there, and the number behind it.
greatest_weight : IsWeight (10 ^ 28) 4412484512922977014444061805 quarter
greatest_weight = record { halvings = 0; halved = none_halved 1 4 (lit≤ tt); lower = lit≤ tt; upper = lit≤ tt }

behind_the_greatest : IsWeight (10 ^ 28) 4412484512922977014444061806 quarter → ⊥
behind_the_greatest weight =
    let none = no_halving quarter (lit≤ tt) weight in
    omega (arith, weight.upper, ap (λ h. bound_top 1 4 h 16) none, ap (λ h. bound_bottom 4 h 16) none)

-- the one cell of a year
abbrev cell_of : ℕ → Scene
cell_of year = scene_on (record { oldest = pos year; cells = 1 })

-- A year 16,384 years away, and one past it.
years_away : (cover_fault (cell_of 18384) (Normal (pos 2000) (pos 5000)) ≡ None)
    × (cover_fault (cell_of 18385) (Normal (pos 2000) (pos 5000)) ≡ Some (Far (pos 18385)))
    × (cover_fault (cell_of 4000) (Normal (pos 20384) (pos 5000)) ≡ None)
    × (cover_fault (cell_of 4000) (Normal (pos 20385) (pos 5000)) ≡ Some (Far (pos 4000)))
years_away = (refl, refl, refl, refl)

-- 2001 cal BP under the falling curve, whose value there is 2000 in halves.
abbrev in_the_middle : Scene
in_the_middle = scene_of (record { oldest = pos 2001; cells = 1 }) falling

-- An age 16,384 years from it, and a thousandth past it.
ages_away : (cover_fault in_the_middle (Carbon (pos 18384000) (pos 30000)) ≡ None)
    × (cover_fault in_the_middle (Carbon (pos 18384001) (pos 30000)) ≡ Some (Far (pos 2001)))
ages_away = (refl, refl)

-- Without a curve, and at a year that it does not reach.
uncovered : (cover_fault (cell_of 2000) (Carbon (pos 2000000) (pos 30000)) ≡ Some NoCurve)
    × (cover_fault under_falling (Carbon (pos 2000000) (pos 30000)) ≡ Some (Uncovered (pos 2003)))
uncovered = (refl, refl)
