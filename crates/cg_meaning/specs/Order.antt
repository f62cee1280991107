-- Which events must not be later than which.
use Rattle.std.specs.Prelude.{ℕ, Bool, true, false, not, ◌&&◌, ◌||◌, ◌==◌, nat_lt, nat_le, List, [], ◌∷◌, if◌then◌else◌}
use Rattle.std.specs.List.{list_all, list_any, zip}
use Rattle.cg_meaning.specs.Tree.{Kind, Sequence, Phase, After, Before, Step}

abbrev pub is_sequence : Kind → Bool
is_sequence Sequence = true
is_sequence Phase = false
is_sequence After = false
is_sequence Before = false

abbrev pub is_after : Kind → Bool
is_after Sequence = false
is_after Phase = false
is_after After = true
is_after Before = false

abbrev pub is_before : Kind → Bool
is_before Sequence = false
is_before Phase = false
is_before After = false
is_before Before = true

-- whether a path passes a Before group, and an After group
abbrev pub passes_before : List Step → Bool
passes_before path = list_any (λ step. is_before step.kind) path

abbrev pub passes_after : List Step → Bool
passes_after path = list_any (λ step. is_after step.kind) path

-- Whether the event at the first path must not be later than the one at the second. Their nearest common
-- ancestor is where the paths part. It is a Sequence, the first event stands in the earlier member, no
-- Before group stands between it and that Sequence, and no After group between the second and that Sequence.
abbrev pub precedes : List Step → List Step → Bool
precedes [] q = false
precedes (s ∷ p) [] = false
precedes (s ∷ p) (t ∷ q) = if s.place == t.place then precedes p q
    else (is_sequence s.kind && nat_lt s.place t.place && not (passes_before p) && not (passes_after q))

-- the cells of two events keep the order
abbrev pub keeps_order : List Step × ℕ → List Step × ℕ → Bool
keeps_order x y = not (precedes x.0 y.0) || nat_le x.1 y.1

-- a cell for each event, in which each two events keep the order
abbrev pub is_ordered : List (List Step) → List ℕ → Bool
is_ordered paths cells = let placed = zip paths cells in list_all (λ x. list_all (λ y. keeps_order x y) placed) placed
