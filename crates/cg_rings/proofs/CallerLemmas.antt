-- For callers: the list of a slot, and what a move to a front leaves.
use Rattle.std.proofs.Common.{◌≡◌, ◌≢◌, ℕ, ◌<◌, Bool, true, false, cond, refl, sym, ◌∙◌, Some, None}
use Rattle.std.proofs.lemmas.Bool.{false_from_ne_true}
use Rattle.cg_rings.specs.declared.which.Which.{Which}
use Rattle.cg_rings.specs.declared.which.Which.TheVariants.{Free, Claimed, Ready}
use Rattle.cg_rings.specs.Lists.{Lists, list_in, list_of, has, without, unlinked, pushed, AreApart}
use Rattle.cg_rings.proofs.SlotLemmas.{out_from_has, has_front, has_else, has_without_other, without_out}

-- the first list that has a slot has it
has_from : (k : Which) (f c d : Bool) → cond f (Some Free) (cond c (Some Claimed) (cond d (Some Ready) None)) ≡ Some k → (elim k as (λ _. Bool) [ Free ↦ f | Claimed ↦ c | Ready ↦ d ]) ≡ true
has_from Free true c d e = refl
has_from Claimed true c d e = cc
has_from Ready true c d e = cc
has_from Free false true d e = cc
has_from Claimed false true d e = refl
has_from Ready false true d e = cc
has_from Free false false true e = cc
has_from Claimed false false true e = cc
has_from Ready false false true e = refl
has_from Free false false false e = cc
has_from Claimed false false false e = cc
has_from Ready false false false e = cc

module _ (lists : Lists) (x : ℕ) where
  -- the list of a slot has it
  pub has_of : (k : Which) → list_of lists x ≡ Some k → has x (list_in lists k) ≡ true
  has_of Free e = has_from Free (has x lists.free) (has x lists.claimed) (has x lists.ready) e
  has_of Claimed e = has_from Claimed (has x lists.free) (has x lists.claimed) (has x lists.ready) e
  has_of Ready e = has_from Ready (has x lists.free) (has x lists.claimed) (has x lists.ready) e

  -- and no other
  pub not_has : (k other : Which) → AreApart lists → list_of lists x ≡ Some k → k ≢ other → has x (list_in lists other) ≡ false
  not_has k other a e ne =
      false_from_ne_true (has x (list_in lists other)) (λ h. let s : Some k ≡ Some other = sym e ∙ a.apart other x h in ne (cc))

  -- so each other list stays as it is where the slot is taken out
  pub stays : (k other : Which) → AreApart lists → list_of lists x ≡ Some k → k ≢ other → without x (list_in lists other) ≡ list_in lists other
  stays k other a e ne = without_out x (list_in lists other) (out_from_has x (list_in lists other) (not_has k other a e ne))

  -- a slot in a list is one of the slots
  pub slot_known : (k : Which) → AreApart lists → list_of lists x ≡ Some k → x < lists.slots
  slot_known k a e = a.known k x (has_of k e)

  -- after a move to a front
  pub slots_moved : (k : Which) → (pushed k x (unlinked x lists)).slots ≡ lists.slots
  slots_moved Free = refl
  slots_moved Claimed = refl
  slots_moved Ready = refl

  -- the front of a list is in it
  front_has : (k : Which) → has x (list_in (pushed k x (unlinked x lists)) k) ≡ true
  front_has Free = has_front x (without x lists.free)
  front_has Claimed = has_front x (without x lists.claimed)
  front_has Ready = has_front x (without x lists.ready)

  -- the slot is in the list to whose front it went
  pub list_of_moved : (k : Which) → AreApart (pushed k x (unlinked x lists)) → list_of (pushed k x (unlinked x lists)) x ≡ Some k
  list_of_moved k a = a.apart k x (front_has k)

  -- and another is where it was
  pub list_of_other : (k : Which) (y : ℕ) → y ≢ x → list_of (pushed k x (unlinked x lists)) y ≡ list_of lists y
  list_of_other Free y ne =
      rw (has_else y x (without x lists.free) ne, has_without_other y x lists.free ne, has_without_other y x lists.claimed ne, has_without_other y x lists.ready ne) refl
  list_of_other Claimed y ne =
      rw (has_else y x (without x lists.claimed) ne, has_without_other y x lists.free ne, has_without_other y x lists.claimed ne, has_without_other y x lists.ready ne) refl
  list_of_other Ready y ne =
      rw (has_else y x (without x lists.ready) ne, has_without_other y x lists.free ne, has_without_other y x lists.claimed ne, has_without_other y x lists.ready ne) refl
