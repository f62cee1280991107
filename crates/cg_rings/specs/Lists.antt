-- Three lists of slots as contracts see them. chron's own.
use Rattle.std.specs.Prelude.{◌≡◌, ◌==◌, ℕ, ◌<◌, ◌≤◌, Bool, true, not, List, ◌∷◌, Option, Some, None, if◌then◌else◌}
use Rattle.std.specs.List.{filter, list_any, IsDistinct}
use Rattle.cg_rings.specs.declared.which.Which.{Which}
use Rattle.cg_rings.specs.declared.which.Which.TheVariants.{Free, Claimed, Ready}

-- the slots from 0 to below a number, of which some are in a list
pub record Lists : Type 0 where
  pub slots : ℕ
  pub free : List ℕ
  pub claimed : List ℕ
  pub ready : List ℕ

-- the slots of a list
abbrev pub list_in : Lists → Which → List ℕ
list_in lists Free = lists.free
list_in lists Claimed = lists.claimed
list_in lists Ready = lists.ready

-- whether a slot is among these
abbrev pub has : ℕ → List ℕ → Bool
has slot xs = list_any (λ other. slot == other) xs

-- the list that a slot is in
abbrev pub list_of : Lists → ℕ → Option Which
list_of lists slot =
    if has slot lists.free then Some Free
    else (if has slot lists.claimed then Some Claimed else (if has slot lists.ready then Some Ready else None))

-- these slots but one
abbrev pub without : ℕ → List ℕ → List ℕ
without slot xs = filter (λ other. not (slot == other)) xs

-- the lists with a slot taken out
abbrev pub unlinked : ℕ → Lists → Lists
unlinked slot lists = record {
  slots = lists.slots;
  free = without slot lists.free;
  claimed = without slot lists.claimed;
  ready = without slot lists.ready;
}

-- the lists with a slot at the front of one
abbrev pub pushed : Which → ℕ → Lists → Lists
pushed Free slot lists = record lists { free = slot ∷ lists.free }
pushed Claimed slot lists = record lists { claimed = slot ∷ lists.claimed }
pushed Ready slot lists = record lists { ready = slot ∷ lists.ready }

-- at most 256 slots; each list has slots that are in no other, and none twice
pub record AreApart (lists : Lists) : Type 0 where
  pub few : lists.slots ≤ 256
  pub known : (list : Which) (slot : ℕ) → has slot (list_in lists list) ≡ true → slot < lists.slots
  pub apart : (list : Which) (slot : ℕ) → has slot (list_in lists list) ≡ true → list_of lists slot ≡ Some list
  pub once : (list : Which) → IsDistinct (λ a b. a == b) (list_in lists list)
