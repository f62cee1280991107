-- Links that thread three lists of slots. chron's own.
use Rattle.std.specs.Prelude.{◌≡◌, ◌≢◌, ◌↔◌, ℕ, zero, suc, ◌+◌, ◌≤◌, nat_lt, true, List, [], ◌∷◌, length, slice_index, slice_index_or, Option, Some, None, if◌then◌else◌}
use Rattle.cg_rings.specs.declared.which.Which.{Which}
use Rattle.cg_rings.specs.declared.which.Which.TheVariants.{Free, Claimed, Ready}
use Rattle.cg_rings.specs.Links.{Arrows}
use Rattle.cg_rings.specs.Lists.{Lists, list_in, has}

-- the node that closes a list's ring: the nodes from the number of slots on
abbrev pub end_of : ℕ → Which → ℕ
end_of slots Free = slots
end_of slots Claimed = slots + 1
end_of slots Ready = slots + 2

-- the slots from a node on, up to an end, at most so many
abbrev pub walk : ℕ → List ℕ → ℕ → ℕ → List ℕ
walk slots next zero node = []
walk slots next (suc most) node = if nat_lt node slots then node ∷ walk slots next most (slice_index next node) else []

-- the slots of a list, from its end round
abbrev pub ring : ℕ → List ℕ → Which → List ℕ
ring slots next list = walk slots next slots (slice_index next (end_of slots list))

-- the lists that the links thread
abbrev pub seen : ℕ → Arrows → Lists
seen slots arrows = record {
  slots = slots;
  free = ring slots arrows.next Free;
  claimed = ring slots arrows.next Claimed;
  ready = ring slots arrows.next Ready;
}

-- from a node through the list to another node, both ways
abbrev pub Linked : Arrows → ℕ → List ℕ → ℕ → Type 0
Linked arrows before [] after = (slice_index arrows.next before ≡ after) × (slice_index arrows.prev after ≡ before)
Linked arrows before (x ∷ xs) after =
    (slice_index arrows.next before ≡ x) × (slice_index arrows.prev x ≡ before) × Linked arrows x xs after

-- a slot is none of these
abbrev pub IsOut : ℕ → List ℕ → Type 0
IsOut slot [] = Unit {0}
IsOut slot (x ∷ xs) = (x ≢ slot) × IsOut slot xs

-- no slot stands twice
abbrev pub IsOnce : List ℕ → Type 0
IsOnce [] = Unit {0}
IsOnce (x ∷ xs) = IsOut x xs × IsOnce xs

-- the links go round through the list and its end; it has the slots that are noted to be in it, each once
pub record IsRing (slots : ℕ) (arrows : Arrows) (notes : List (Option Which)) (list : Which) (xs : List ℕ) :
    Type 0 where
  pub linked : Linked arrows (end_of slots list) xs (end_of slots list)
  pub once : IsOnce xs
  pub noted : (slot : ℕ) → (has slot xs ≡ true) ↔ (slice_index_or notes slot None ≡ Some list)

-- the links thread these lists, and the notes tell each slot's list
pub record AreRings (arrows : Arrows) (notes : List (Option Which)) (lists : Lists) : Type 0 where
  pub few : lists.slots ≤ 256
  pub slots : length notes ≡ lists.slots
  pub nodes : length arrows.next ≡ lists.slots + 3
  pub nodes_back : length arrows.prev ≡ lists.slots + 3
  pub rings : (list : Which) → IsRing lists.slots arrows notes list (list_in lists list)
