-- Ranges, computed.
use Rattle.std.proofs.Common.{◌≡◌, ℕ, List, [], ◌∷◌, refl}
use Rattle.cg_ranges.specs.Cover.{cover}
use Rattle.cg_ranges.specs.Runs.{runs_of}
use Rattle.cg_ranges.specs.Ranges.{ranges_of}

-- a half, a third and a sixth, as of the older of two events on three years
abbrev falling : List (ℕ × ℕ)
falling = (500000, 500001) ∷ (333333, 333334) ∷ (166666, 166667) ∷ []

-- 68.3 % are at the first two cells, and 95.4 % need all.
falling-ranges : (ranges_of falling 683000 ≡ record { sum = 833333; runs = (0, 1) ∷ [] })
    × (ranges_of falling 954000 ≡ record { sum = 999999; runs = (0, 2) ∷ [] })
falling-ranges = (refl, refl)

-- Nothing covers a target of 0, and a target that is reached exactly needs no more.
exact-covers : (cover falling 0 ≡ []) × (cover falling 1 ≡ 0 ∷ []) × (cover falling 500000 ≡ 0 ∷ [])
    × (cover falling 500001 ≡ 0 ∷ 1 ∷ [])
exact-covers = (refl, refl, refl, refl)

-- a quarter at each of four cells
abbrev level : List (ℕ × ℕ)
level = (250000, 250000) ∷ (250000, 250000) ∷ (250000, 250000) ∷ (250000, 250000) ∷ []

-- Of equal lower ends the older cell comes first.
level-covers : (cover level 250000 ≡ 0 ∷ []) × (cover level 683000 ≡ 0 ∷ 1 ∷ 2 ∷ [])
level-covers = (refl, refl)

-- more at every other cell
abbrev comb : List (ℕ × ℕ)
comb = (300000, 300000) ∷ (20000, 20000) ∷ (320000, 320000) ∷ (30000, 30000) ∷ (280000, 280000) ∷ (50000, 50000) ∷ []

-- A cover of three runs, and two more cells that join some of them.
comb-ranges : (ranges_of comb 683000 ≡ record { sum = 900000; runs = (0, 0) ∷ (2, 2) ∷ (4, 4) ∷ [] })
    × (ranges_of comb 951000 ≡ record { sum = 980000; runs = (0, 0) ∷ (2, 5) ∷ [] })
comb-ranges = (refl, refl)

-- Runs are joined over consecutive cells alone.
joined-runs : (runs_of (0 ∷ 1 ∷ 3 ∷ 4 ∷ 5 ∷ 7 ∷ []) ≡ (0, 1) ∷ (3, 5) ∷ (7, 7) ∷ [])
    × (runs_of (2 ∷ []) ≡ (2, 2) ∷ []) × (runs_of [] ≡ [])
joined-runs = (refl, refl, refl)
