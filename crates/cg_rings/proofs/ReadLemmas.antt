-- What is read off the links: the lists themselves, a first, a last and a next slot, and the list of a slot.
use Rattle.std.proofs.Common.{◌≡◌, ◌↔◌, ℕ, zero, suc, ◌+◌, ◌-◌, ◌<◌, ◌≤◌, Bool, true, false, cond, ltb, eqb, List, [], ◌∷◌, length, get_or, set, refl, ap, sym, ◌∙◌, subst, Some, None, Option, IsSome, arith, add-one}
use Rattle.std.proofs.lemmas.Bool.{false≢true, lt-ltb, le-ltb}
use Rattle.std.proofs.lemmas.Map.Steps.{length-le_from_distinct_below}
use Rattle.std.specs.List.{slice_get}
use Rattle.cg_rings.specs.declared.which.Which.{Which}
use Rattle.cg_rings.specs.declared.which.Which.TheVariants.{Free, Claimed, Ready}
use Rattle.cg_rings.specs.Links.{Arrows, joined}
use Rattle.cg_rings.specs.Lists.{Lists, list_in, list_of, has, AreApart, unlinked, pushed}
use Rattle.cg_rings.specs.Threaded.{end_of, walk, ring, seen, Linked, AreRings}
use Rattle.cg_rings.proofs.SlotLemmas.{has_front, has_from_get, has_without_same, distinct_from_once}
use Rattle.cg_rings.proofs.RingLemmas.{known, end_past, noted_known, unlinked_rings, pushed_rings}
use Rattle.std.proofs.lemmas.Bool.{or_right}

module _ (n : ℕ) (a : Arrows) where
  -- a walk sees the list that is linked
  walk_linked : (before after most : ℕ) (xs : List ℕ) → ((x : ℕ) → has x xs ≡ true → x < n) → n ≤ after → Linked a before xs after → length xs ≤ most → walk n a.next most (get_or a.next before 0) ≡ xs
  walk_linked before after zero [] below past l most = refl
  walk_linked before after zero (x ∷ xs) below past l most = absurd (omega arith)
  walk_linked before after (suc most) [] below past l short =
      let e : n ≤ get_or a.next before 0 = subst (λ (m : ℕ). n ≤ m) (sym l.0) past in
      rw (le-ltb (get_or a.next before 0) n e) refl
  walk_linked before after (suc most) (x ∷ xs) below past l short =
      let here = below x (has_front x xs) in
      let rest = walk_linked x after most xs (λ y h. below y (or_right (eqb y x) (has y xs) h)) past l.2 (omega arith) in
      rw (l.0, lt-ltb x n here) (ap (λ ys. x ∷ ys) rest)

  -- the node after another, where it is a slot, is first
  slot_first : (before after : ℕ) (xs : List ℕ) → ((x : ℕ) → has x xs ≡ true → x < n) → n ≤ after → Linked a before xs after → cond (ltb (get_or a.next before 0) n) (Some (get_or a.next before 0)) None ≡ slice_get xs 0
  slot_first before after [] below past l = rw (l.0, le-ltb after n past) refl
  slot_first before after (x ∷ xs) below past l = rw (l.0, lt-ltb x n (below x (has_front x xs))) refl

  -- the node after a slot of the list is the next one, if it is a slot
  slot_next : (x before after : ℕ) (xs : List ℕ) (k : ℕ) → ((y : ℕ) → has y xs ≡ true → y < n) → n ≤ after → Linked a before xs after → slice_get xs k ≡ Some x → cond (ltb (get_or a.next x 0) n) (Some (get_or a.next x 0)) None ≡ slice_get xs (k + 1)
  slot_next x before after [] k below past l e = cc
  slot_next x before after (y ∷ ys) zero below past l e =
      let same : y ≡ x = cc in
      subst (λ (z : ℕ). cond (ltb (get_or a.next z 0) n) (Some (get_or a.next z 0)) None ≡ slice_get ys 0) same (slot_first y after ys (λ z h. below z (or_right (eqb z y) (has z ys) h)) past l.2)
  slot_next x before after (y ∷ ys) (suc k) below past l e =
      let more : k + 1 ≡ suc k = omega arith in
      rw add-one (slot_next x y after ys k (λ z h. below z (or_right (eqb z y) (has z ys) h)) past l.2 e ∙ ap (slice_get ys) more)

  -- the node before the end is the last slot
  last_is : (before after x : ℕ) (xs : List ℕ) → Linked a before (x ∷ xs) after → slice_get (x ∷ xs) (length xs) ≡ Some (get_or a.prev after 0)
  last_is before after x [] l = ap (λ m. Some m) (sym l.2.1)
  last_is before after x (y ∷ ys) l = last_is x after y ys l.2

  -- so it is where the list may be empty
  slot_last : (before after : ℕ) (xs : List ℕ) → ((x : ℕ) → has x xs ≡ true → x < n) → n ≤ before → Linked a before xs after → cond (ltb (get_or a.prev after 0) n) (Some (get_or a.prev after 0)) None ≡ slice_get xs (length xs - 1)
  slot_last before after [] below past l = rw (l.1, le-ltb before n past) refl
  slot_last before after (x ∷ xs) below past l =
      let e = last_is before after x xs l in
      let h = has_from_get (get_or a.prev after 0) (x ∷ xs) (length xs) e in
      let place : length (x ∷ xs) - 1 ≡ length xs = omega arith in
      rw (lt-ltb (get_or a.prev after 0) n (below (get_or a.prev after 0) h), place) (sym e)

module _ (a : Arrows) (notes : List (Option Which)) (lists : Lists) (r : AreRings a notes lists) where
  -- a slot in a list is one of the slots
  pub below : (k : Which) (x : ℕ) → has x (list_in lists k) ≡ true → x < lists.slots
  below k x h = known lists.slots a notes r.slots k (list_in lists k) x (r.rings k) h

  -- the walk from the end of a list sees that list
  ring_is : (k : Which) → ring lists.slots a.next k ≡ list_in lists k
  ring_is k =
      let own = r.rings k in
      walk_linked lists.slots a (end_of lists.slots k) (end_of lists.slots k) lists.slots (list_in lists k) (below k) (end_past lists.slots k) own.linked
      (length-le_from_distinct_below (list_in lists k) lists.slots (distinct_from_once (list_in lists k) own.once) (below k))

  -- the links show the lists
  pub seen_is : seen lists.slots a ≡ lists
  seen_is = let f = ring_is Free in let c = ring_is Claimed in let d = ring_is Ready in rw (f, c, d) refl

  -- so does the view of the fields
  pub shown : seen (length notes) a ≡ lists
  shown = rw r.slots seen_is

  -- so the fields keep the invariant
  pub kept : AreRings a notes (seen (length notes) a)
  kept = subst (λ (v : Lists). AreRings a notes v) (sym shown) r

  -- the first slot of a list
  pub first_slot : (k : Which) → cond (ltb (get_or a.next (end_of lists.slots k) 0) lists.slots) (Some (get_or a.next (end_of lists.slots k) 0)) None ≡ slice_get (list_in lists k) 0
  first_slot k = slot_first lists.slots a (end_of lists.slots k) (end_of lists.slots k) (list_in lists k) (below k) (end_past lists.slots k) ((r.rings k).linked)

  -- the last slot of a list
  pub last_slot : (k : Which) → cond (ltb (get_or a.prev (end_of lists.slots k) 0) lists.slots) (Some (get_or a.prev (end_of lists.slots k) 0)) None ≡ slice_get (list_in lists k) (length (list_in lists k) - 1)
  last_slot k = slot_last lists.slots a (end_of lists.slots k) (end_of lists.slots k) (list_in lists k) (below k) (end_past lists.slots k) ((r.rings k).linked)

  -- the slot after one
  pub next_slot : (k : Which) (x place : ℕ) → slice_get (list_in lists k) place ≡ Some x → cond (ltb (get_or a.next x 0) lists.slots) (Some (get_or a.next x 0)) None ≡ slice_get (list_in lists k) (place + 1)
  next_slot k x place e = slot_next lists.slots a x (end_of lists.slots k) (end_of lists.slots k) (list_in lists k) place (below k) (end_past lists.slots k) ((r.rings k).linked) e

-- tests of the three lists that agree with a note
list_from : (o : Option Which) (f c d : Bool) → (f ≡ true) ↔ (o ≡ Some Free) → (c ≡ true) ↔ (o ≡ Some Claimed) → (d ≡ true) ↔ (o ≡ Some Ready) → cond f (Some Free) (cond c (Some Claimed) (cond d (Some Ready) None)) ≡ o
list_from o true c d F C D = sym (F.0 refl)
list_from o false true d F C D = sym (C.0 refl)
list_from o false false true F C D = sym (D.0 refl)
list_from None false false false F C D = refl
list_from (Some Free) false false false F C D = absurd (false≢true (F.1 refl))
list_from (Some Claimed) false false false F C D = absurd (false≢true (C.1 refl))
list_from (Some Ready) false false false F C D = absurd (false≢true (D.1 refl))

-- the note of a slot is its list
pub noted_is : (a : Arrows) (notes : List (Option Which)) (lists : Lists) → AreRings a notes lists → (x : ℕ) → list_of lists x ≡ get_or notes x None
noted_is a notes lists r x =
    list_from (get_or notes x None) (has x lists.free) (has x lists.claimed) (has x lists.ready) ((r.rings Free).noted x) ((r.rings Claimed).noted x) ((r.rings Ready).noted x)

-- what callers may know
pub apart_rings : (a : Arrows) (notes : List (Option Which)) (lists : Lists) → AreRings a notes lists → AreApart lists
apart_rings a notes lists r = record {
  few = r.few;
  known = below a notes lists r;
  apart = λ k x h. noted_is a notes lists r x ∙ ((r.rings k).noted x).0 h;
  once = λ k. distinct_from_once (list_in lists k) ((r.rings k).once);
}

-- the rings of the fields are those of the value that the fields are seen as
pub now : (a : Arrows) (notes : List (Option Which)) (lists : Lists) → AreRings a notes (seen (length notes) a) → seen (length notes) a ≡ lists → AreRings a notes lists
now a notes lists r e = subst (λ (v : Lists). AreRings a notes v) e r

-- what is noted is a list
some_noted : (o : Option Which) → IsSome o → (k : Which) × (o ≡ Some k)
some_noted (Some k) h = (k, refl)
some_noted None h = absurd (false≢true h)

-- a slot in a list is noted
pub is_noted : (a : Arrows) (notes : List (Option Which)) (lists : Lists) (x : ℕ) → AreRings a notes lists → IsSome (list_of lists x) → (k : Which) × (get_or notes x None ≡ Some k)
is_noted a notes lists x r h = let s = some_noted (list_of lists x) h in (s.0, sym (noted_is a notes lists r x) ∙ s.1)

-- it is one of the slots
pub is_slot : (a : Arrows) (notes : List (Option Which)) (lists : Lists) (x : ℕ) → AreRings a notes lists → IsSome (list_of lists x) → x < length notes
is_slot a notes lists x r h = let s = is_noted a notes lists x r h in noted_known notes x s.0 s.1

-- and has its links
pub is_node : (a : Arrows) (notes : List (Option Which)) (lists : Lists) (x : ℕ) → AreRings a notes lists → IsSome (list_of lists x) → x < length a.next
is_node a notes lists x r h = let s = is_slot a notes lists x r h in let l = r.slots in let m = r.nodes in omega arith

-- the fields after a slot is taken out
pub after_unlink : (a b : Arrows) (notes : List (Option Which)) (lists : Lists) (x p q : ℕ) → AreRings a notes lists → IsSome (list_of lists x) → p ≡ get_or a.prev x 0 → q ≡ get_or a.next x 0 → p < length a.next → q < length a.next → b ≡ joined p q a → AreRings b (set notes x None) (unlinked x lists)
after_unlink a b notes lists x p q r h pe qe pl ql e =
    let s = is_noted a notes lists x r h in
    subst (λ (d : Arrows). AreRings d (set notes x None) (unlinked x lists)) (sym e) (unlinked_rings a notes lists x p q s.0 r s.1 pe qe pl ql)

-- the fields after a slot is put at the front of a list
pub after_push : (a b d : Arrows) (notes : List (Option Which)) (lists : Lists) (k : Which) (x s f : ℕ) → AreRings a notes lists → x < lists.slots → list_of lists x ≡ None → s ≡ end_of lists.slots k → f ≡ get_or a.next s 0 → f < length a.next → b ≡ joined s x a → d ≡ joined x f b → AreRings d (set notes x (Some k)) (pushed k x lists)
after_push a b d notes lists k x s f r here none se fe fl be de =
    let free = sym (noted_is a notes lists r x) ∙ none in
    let first : f ≡ get_or a.next (end_of lists.slots k) 0 = fe ∙ ap (λ m. get_or a.next m 0) se in
    let e : d ≡ joined x f (joined (end_of lists.slots k) x a) = de ∙ (ap (joined x f) be ∙ ap (λ m. joined x f (joined m x a)) se) in
    subst (λ (g : Arrows). AreRings g (set notes x (Some k)) (pushed k x lists)) (sym e) (pushed_rings a notes lists k x f r here free first fl)

-- a slot that was taken out is in no list
pub out_after : (x : ℕ) (lists : Lists) → list_of (unlinked x lists) x ≡ None
out_after x lists = rw (has_without_same x lists.free, has_without_same x lists.claimed, has_without_same x lists.ready) refl
