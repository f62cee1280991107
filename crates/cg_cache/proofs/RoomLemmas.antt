-- How many slots the lists have together, and where there is room.
use Rattle.std.proofs.Common.{◌≡◌, ℕ, ◌+◌, ◌-◌, ◌<◌, ◌≤◌, true, false, eqb, List, [], ◌∷◌, ◌++◌, inl, inr, length, refl, ap, sym, ◌∙◌, Some, None, Option, IsSome, MatchOption, length-append, arith}
use Rattle.std.proofs.lemmas.Bool.{false≢true, or_left, or_right, or_cases, cases_eq}
use Rattle.std.proofs.lemmas.Map.Steps.{length-le_from_distinct_below, le-length_from_below}
use Rattle.std.specs.List.{slice_get, IsDistinct}
use Rattle.cg_rings.specs.declared.which.Which.{Which}
use Rattle.cg_rings.specs.declared.which.Which.TheVariants.{Free, Claimed, Ready}
use Rattle.cg_rings.specs.Lists.{Lists, list_of, has, AreApart}
use Rattle.cg_rings.proofs.SlotLemmas.{has_else, has_from_get}
use Rattle.cg_rings.proofs.CallerLemmas.{has_of, not_has}
use Rattle.cg_cache.specs.Slots.{IsRoom}
use Rattle.cg_cache.proofs.MapLemmas.{distinct_more, distinct_both, has_append}

-- what is there is a list
pub some_is : (o : Option Which) → IsSome o → (k : Which) × (o ≡ Some k)
some_is (Some k) h = (k, refl)
some_is None h = absurd (false≢true h)

-- a list with some elements has a last
last_there : (x : ℕ) (xs : List ℕ) → slice_get (x ∷ xs) (length xs) ≡ None → ⊥
last_there x [] e = cc
last_there x (y ∷ ys) e = last_there y ys e

module _ (r : Lists) (a : AreApart r) where
  -- the slots that aren't free
  abbrev used : List ℕ
  used = r.ready ++ r.claimed

  -- a ready slot isn't claimed
  ready_claimed : (x : ℕ) → has x r.ready ≡ true → has x r.claimed ≡ false
  ready_claimed x h = not_has r x Ready Claimed a (a.apart Ready x h) (λ e. cc)

  -- they are among the slots
  used_below : (x : ℕ) → has x used ≡ true → x < r.slots
  used_below x h =
      elim (or_cases (has x r.ready) (has x r.claimed) (sym (has_append x r.ready r.claimed) ∙ h)) [
        | inl k ↦ a.known Ready x k
        | inr k ↦ a.known Claimed x k
      ]

  -- a free slot isn't among them
  used_apart : (x : ℕ) → list_of r x ≡ Some Free → has x used ≡ false
  used_apart x e =
      has_append x r.ready r.claimed ∙ rw (not_has r x Free Ready a e (λ e. cc), not_has r x Free Claimed a e (λ e. cc)) refl

  -- with one slot left out they are fewer than all
  few_below : (x : ℕ) (xs : List ℕ) → IsDistinct eqb xs → has x xs ≡ false → x < r.slots → ((y : ℕ) → has y xs ≡ true → y < r.slots) → length xs < r.slots
  few_below x xs d out here below =
      let l = length-le_from_distinct_below (x ∷ xs) r.slots (distinct_more x xs out d) (λ y h. elim (cases_eq y x) [ inl e ↦ omega arith | inr ne ↦ below y (sym (has_else y x xs ne) ∙ h) ]) in
      omega arith

  -- a free slot has room
  pub room_free : (x : ℕ) → slice_get r.free 0 ≡ Some x → IsRoom r x
  room_free x e =
      let here = has_from_get x r.free 0 e in
      let free = a.apart Free x here in
      let d = distinct_both r.ready r.claimed (a.once Ready) (a.once Claimed) ready_claimed in
      let few = few_below x used d (used_apart x free) (a.known Free x here) used_below in
      let sum : length used ≡ length r.ready + length r.claimed = length-append r.ready r.claimed in
      record { some = omega arith; room = inl (free, omega arith) }

  module _ (listed : (x : ℕ) → x < r.slots → IsSome (list_of r x)) (no_free : slice_get r.free 0 ≡ None) where
    -- a list without a first has nothing
    empty_has : (xs : List ℕ) (x : ℕ) → slice_get xs 0 ≡ None → has x xs ≡ false
    empty_has [] x e = refl
    empty_has (y ∷ ys) x e = cc

    -- each slot in a list is used where none is free
    used_case : (x : ℕ) (k : Which) → list_of r x ≡ Some k → has x used ≡ true
    used_case x Free e = let h = has_of r x Free e in absurd (false≢true (sym (empty_has r.free x no_free) ∙ h))
    used_case x Claimed e = has_append x r.ready r.claimed ∙ or_right (has x r.ready) (has x r.claimed) (has_of r x Claimed e)
    used_case x Ready e = has_append x r.ready r.claimed ∙ or_left (has x r.ready) (has x r.claimed) (has_of r x Ready e)

    -- so all are used
    all_used : r.slots ≤ length r.ready + length r.claimed
    all_used =
        let l = le-length_from_below used r.slots (λ x h. (let s = some_is (list_of r x) (listed x h) in used_case x s.0 s.1)) in
        let sum : length used ≡ length r.ready + length r.claimed = length-append r.ready r.claimed in
        omega arith

    -- the last ready slot has room where none is free
    pub room_ready : (x : ℕ) → slice_get r.ready (length r.ready - 1) ≡ Some x → IsRoom r x
    room_ready x e =
        let here = has_from_get x r.ready (length r.ready - 1) e in
        let few = few_below x r.claimed (a.once Claimed) (ready_claimed x here) (a.known Ready x here) (a.known Claimed) in
        record { some = few; room = inr (e, all_used) }

    -- a list without a last is empty
    none_ready : (xs : List ℕ) → slice_get xs (length xs - 1) ≡ None → length xs ≡ 0
    none_ready [] e = refl
    none_ready (x ∷ xs) e =
        let place : length (x ∷ xs) - 1 ≡ length xs = omega arith in
        absurd (last_there x xs (sym (ap (slice_get (x ∷ xs)) place) ∙ e))

    -- without a free and a ready slot all are claimed
    pub no_room : slice_get r.ready (length r.ready - 1) ≡ None → r.slots ≤ length r.claimed
    no_room e = let z = none_ready r.ready e in let l = all_used in omega arith

    -- the last of the ready slots, where there is one
    pub room_last : (o : Option ℕ) → o ≡ slice_get r.ready (length r.ready - 1) → MatchOption o (r.slots ≤ length r.claimed) (λ x. IsRoom r x)
    room_last None e = no_room (sym e)
    room_last (Some x) e = room_ready x (sym e)
