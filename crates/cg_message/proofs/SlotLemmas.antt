-- Slots, one of which is set.
use Rattle.std.proofs.Common.{◌≡◌, ◌≢◌, ℕ, ◌<◌, List, length, set, get_or, Option, None, option_map, sym, ap, ◌∙◌}
use Rattle.std.proofs.Math.ListN.{get_or-map}
use Rattle.std.proofs.lemmas.List.{get_or-set_same, get_or-set_other}
use Rattle.cg_message.specs.Value.{Seen}
use Rattle.cg_message.specs.Parts.{part_at, seen_in}

-- what a place has, by its slot
pub part_at-slot : {A : Type 0} (f : A → Seen) (slots : List (Option A)) (place : ℕ) → part_at (seen_in f slots) place ≡ option_map f (get_or slots place None)
part_at-slot f slots place = get_or-map (λ slot. option_map f slot) slots place None

-- the place that is set
pub part_at-set : {A : Type 0} (f : A → Seen) (slots : List (Option A)) (place : ℕ) (slot : Option A) → place < length slots →
    part_at (seen_in f (set slots place slot)) place ≡ option_map f slot
part_at-set f slots place slot inside = part_at-slot f (set slots place slot) place ∙ ap (option_map f) (get_or-set_same slots place slot None inside)

-- all others
pub part_at-others : {A : Type 0} (f : A → Seen) (slots : List (Option A)) (place other : ℕ) (slot : Option A) → other ≢ place →
    part_at (seen_in f (set slots place slot)) other ≡ part_at (seen_in f slots) other
part_at-others f slots place other slot elsewhere =
    part_at-slot f (set slots place slot) other ∙ ap (option_map f) (get_or-set_other slots place other slot None elsewhere) ∙ sym (part_at-slot f slots other)
