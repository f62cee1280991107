-- The events among the nodes of a model, counted in the order of the text.
use Rattle.std.specs.Prelude.{ℕ, Bool, true, false, List, take, count_by, slice_get, Option, Some, None, if◌then◌else◌}
use Rattle.cg_meaning.specs.Tree.{Tree, Leaf, Boundary, Group}

-- leaves and Boundaries
abbrev pub is_event : Tree → Bool
is_event (Leaf name dating) = true
is_event (Boundary name) = true
is_event (Group kind name ts) = false

-- an event's number is how many events stand before it; a group has none
abbrev pub number_if : Option Tree → ℕ → Option ℕ
number_if None before = None
number_if (Some t) before = if is_event t then Some before else None

-- the number of the event at a place among nodes
abbrev pub number_at : List Tree → ℕ → Option ℕ
number_at nodes place = number_if (slice_get nodes place) (count_by is_event (take place nodes))
