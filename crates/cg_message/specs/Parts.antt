-- Messages by place, and which of them are got first. chron's own.
use Rattle.std.specs.Prelude.{◌≡◌, ℕ, ◌+◌, ◌<◌, ◌≤◌, List, [], length, map, slice_index_or, Option, Some, None, option_map}
use Rattle.cg_curve.specs.Curves.{NamedCurve}
use Rattle.cg_meaning.specs.Tree.{Dating, Free, Exact, Normal, Carbon, Tree}
use Rattle.cg_meaning.specs.Tree.{Leaf, Boundary, Group, Trees, none, more, count, nodes_of, nodes_of_all}
use Rattle.cg_meaning.specs.Scene.{Grid}
use Rattle.cg_code.specs.Content as content
use Rattle.cg_code.specs.Content.{Content}
use Rattle.cg_message.specs.Value.{Seen, message_of}

-- what slots hold, one for each place
abbrev pub seen_in : {A : Type 0} → (A → Seen) → List (Option A) → List (Option Seen)
seen_in seen slots = map (λ slot. option_map seen slot) slots

-- the message at a place, none where there is none
abbrev pub part_at : List (Option Seen) → ℕ → Option Seen
part_at parts place = slice_index_or parts place None

-- Messages by place, and what they are asked for: a grid, curves, and the number of the curve.
pub record Shelf : Type 0 where
  pub parts : List (Option Seen)
  pub grid : Grid
  pub curves : List NamedCurve
  pub curve : ℕ

-- the message of this content stands at the place
abbrev pub StandsAt : Shelf → ℕ → Content → Type 0
StandsAt shelf place content = part_at shelf.parts place ≡ Some (message_of shelf.curves content shelf.grid shelf.curve)

-- only a dating with an error has a row worth a message; the others' rows are made on the spot
abbrev pub IsRowGot : Shelf → ℕ → Dating → Type 0
IsRowGot shelf place Free = Unit {0}
IsRowGot shelf place (Exact year) = Unit {0}
IsRowGot shelf place (Normal year error) = StandsAt shelf place (content.Row (Normal year error))
IsRowGot shelf place (Carbon age error) = StandsAt shelf place (content.Row (Carbon age error))

-- the node at a place is got: a leaf's row, or a group's table
abbrev pub IsGot : Shelf → ℕ → Tree → Type 0
IsGot shelf place (Leaf name dating) = IsRowGot shelf place dating
IsGot shelf place (Boundary name) = Unit {0}
IsGot shelf place (Group kind name ts) = StandsAt shelf place (content.Table (Group kind name ts))

-- how many nodes it has, itself included
abbrev pub size_of : Tree → ℕ
size_of tree = length (nodes_of tree)

-- each of these members, of which the first is at this place
abbrev pub AreGot : Shelf → ℕ → Trees → Type 0
AreGot shelf place none = Unit {0}
AreGot shelf place (more t ts) = IsGot shelf place t × AreGot shelf (place + size_of t) ts

-- each member of a group at this place
abbrev pub MembersAreGot : Shelf → ℕ → Tree → Type 0
MembersAreGot shelf place (Leaf name dating) = Unit {0}
MembersAreGot shelf place (Boundary name) = Unit {0}
MembersAreGot shelf place (Group kind name ts) = AreGot shelf (place + 1) ts

-- the event is one of a node's, whose events are numbered from this number
abbrev pub IsAmong : ℕ → ℕ → Tree → Type 0
IsAmong event number tree = (number ≤ event) × (event < number + count tree)

-- On the way down to an event each member that neither is nor has the event is got, and so is the event's own row.
abbrev mutual
  pub IsWayGot : Shelf → ℕ → ℕ → ℕ → Tree → Type 0
  IsWayGot shelf event number place (Leaf name dating) = IsRowGot shelf place dating
  IsWayGot shelf event number place (Boundary name) = Unit {0}
  IsWayGot shelf event number place (Group kind name ts) = AreWayGot shelf event number (place + 1) ts

  -- among members
  pub AreWayGot : Shelf → ℕ → ℕ → ℕ → Trees → Type 0
  AreWayGot shelf event number place none = Unit {0}
  AreWayGot shelf event number place (more t ts) =
      (IsAmong event number t → IsWayGot shelf event number place t) × (¬ IsAmong event number t → IsGot shelf place t)
      × AreWayGot shelf event (number + count t) (place + size_of t) ts

-- the node at a place in the text
abbrev pub node_at : Trees → ℕ → Tree
node_at top place = slice_index_or (nodes_of_all top) place (Boundary [])
