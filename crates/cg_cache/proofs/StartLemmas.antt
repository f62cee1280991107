-- A cache with all slots free.
use Rattle.std.proofs.Common.{◌≡◌, ℕ, zero, suc, ◌+◌, ◌<◌, ◌≤◌, true, eqb, List, [], map, length, refl, ap, sym, ◌∙◌, Some, None, inl, inr, arith}
use Rattle.std.specs.List.{All, range_with_len}
use Rattle.std.proofs.lemmas.Bool.{false≢true, cases_lt, cases_eq, or_left, or_right, eq-eqb}
use Rattle.std.proofs.lemmas.List.{get_or-map, get_or_past, length-map}
use Rattle.cg_rings.specs.declared.which.Which.{Which}
use Rattle.cg_rings.specs.declared.which.Which.TheVariants.{Free, Claimed, Ready}
use Rattle.cg_rings.specs.Lists.{Lists, list_of, has, AreApart}
use Rattle.cg_rings.proofs.CallerLemmas.{has_of}
use Rattle.cg_cache.specs.Slots.{Held, Seen, nothing, at, cached_of, Fits, IsCache}

-- a number of a range is in it
range_has : (x a n : ℕ) → a ≤ x → x < a + n → has x (range_with_len a n) ≡ true
range_has x a zero l h = absurd (omega arith)
range_has x a (suc n) l h =
    elim (cases_eq x a) [
      | inl e ↦ or_left (eqb x a) (has x (range_with_len (a + 1) n)) (eq-eqb x a e)
      | inr ne ↦ or_right (eqb x a) (has x (range_with_len (a + 1) n)) (range_has x (a + 1) n (omega arith) (omega arith))
    ]

module _ {X O : Type 0} (f : X → Held O) (empty : X) (none : f empty ≡ nothing) (origin : O) (n : ℕ) (r : Lists) (xs : List X) (e : r ≡ record { slots = n; free = range_with_len 0 n; claimed = []; ready = [] }) (a : AreApart r) (count : length xs ≡ n) (all : All (λ x. x ≡ empty) xs) where
  -- the cache at the start
  abbrev start : Seen O
  start = record { origin = origin; rings = r; slots = map f xs }

  -- each slot holds nothing
  at_nothing : (x : ℕ) → at (map f xs) x ≡ nothing
  at_nothing x =
      elim (cases_lt x (length xs)) [
        | inl l ↦ get_or-map f xs x empty nothing l ∙ (ap f (all x empty l) ∙ none)
        | inr past ↦ (let long : length (map f xs) ≤ x = simp length-map past in get_or_past (map f xs) x nothing long)
      ]

  -- and is free
  free_has : (x : ℕ) → x < r.slots → list_of r x ≡ Some Free
  free_has x l =
      let slots : r.slots ≡ n = ap (λ s. s.slots) e in
      let h : has x r.free ≡ true = ap (λ s. has x s.free) e ∙ range_has x 0 n (omega arith) (omega arith) in
      a.apart Free x h

  -- as it should
  start_fits : (x : ℕ) (k : Which) → list_of r x ≡ Some k → Fits origin k (at (map f xs) x)
  start_fits x Free was = ap (λ h. h.code) (at_nothing x)
  start_fits x Claimed was = absurd (false≢true (ap (λ s. has x s.claimed) (sym e) ∙ has_of r x Claimed was))
  start_fits x Ready was = absurd (false≢true (ap (λ s. has x s.ready) (sym e) ∙ has_of r x Ready was))

  -- it is a cache
  pub start_is : IsCache start
  start_is =
      let slots : r.slots ≡ n = ap (λ s. s.slots) e in
      let size : length (map f xs) ≡ length xs = simp length-map refl in
      record {
        apart = a;
        count = size ∙ (count ∙ sym slots);
        listed = λ x l. rw (free_has x l) refl;
        fits = start_fits;
        once = λ c x y p q. (let gone : None ≡ Some c = sym (ap (λ h. h.code) (at_nothing x)) ∙ p in cc);
      }

  -- without a code
  pub start_cached : cached_of start ≡ record { capacity = n; ready = []; claimed = [] }
  start_cached = rw e refl
