-- Boundary pairs, computed: the events are numbered from 0, in the order of the text.
use Rattle.std.proofs.Common.{◌≡◌, refl, [], ◌∷◌, Some, None}
use Rattle.cg_meaning.specs.Tree.{none, more, Sequence, Phase, After, Before}
use Rattle.cg_meaning.specs.Pairs.{boundary_pairs, pair_at, span_weight}
use Rattle.cg_meaning.proofs.WorkedCases.{group, date, boundary}

-- Sequence {Boundary S; Phase {A}; Boundary E}
span-pairs :
    boundary_pairs (group Sequence (more boundary (more (group Phase (more date none)) (more boundary none))))
    ≡ None ∷ Some (0, 2) ∷ None ∷ []
span-pairs = refl

-- Sequence {Boundary S; After {X}; A; Before {Y}; Boundary E}: no pair reaches into an After or a Before group.
freed-pairs :
    boundary_pairs
    (group Sequence (more boundary (more (group After (more date none)) (more date (more (group Before (more date none)) (more boundary none))))))
    ≡ None ∷ None ∷ Some (0, 4) ∷ None ∷ None ∷ []
freed-pairs = refl

-- Sequence {Boundary S; After {Sequence {Boundary U; A; Boundary V}}; Boundary E}: a pair within the After group stays.
own-pairs :
    boundary_pairs
    (group Sequence (more boundary (more (group After (more (group Sequence (more boundary (more date (more boundary none)))) none)) (more boundary none))))
    ≡ None ∷ None ∷ Some (1, 3) ∷ None ∷ None ∷ []
own-pairs = refl

-- Sequence {Boundary S; Sequence {Boundary U; A}; Sequence {B; Boundary V}; Boundary E}: one side alone is no pair, and the
-- outer pair stays.
one_sided-pairs :
    boundary_pairs
    (group Sequence (more boundary (more (group Sequence (more boundary (more date none))) (more (group Sequence (more date (more boundary none))) (more boundary none)))))
    ≡ None ∷ Some (0, 5) ∷ Some (0, 5) ∷ Some (0, 5) ∷ Some (0, 5) ∷ None ∷ []
one_sided-pairs = refl

-- Sequence {A; Boundary S; B; Boundary T; C; Boundary E; D}: the nearest Boundary on each side, and none outside.
nearest-pairs :
    boundary_pairs (group Sequence (more date (more boundary (more date (more boundary (more date (more boundary (more date none))))))))
    ≡ None ∷ None ∷ Some (1, 3) ∷ None ∷ Some (3, 5) ∷ None ∷ None ∷ []
nearest-pairs = refl

-- The first and the third of three events are at the cells 5 and 7, and on a grid of 4 years three cells have the weight 4! / 3.
span-weight : (pair_at (5 ∷ 6 ∷ 7 ∷ []) (Some (0, 2)) ≡ Some (5, 7)) × (span_weight 4 (Some (5, 7)) ≡ 8)
span-weight = (refl, refl)
