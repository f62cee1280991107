-- What a slot with a code, or that there is none, says of the lists.
use Rattle.std.proofs.Common.{◌≡◌, ◌≢◌, ℕ, ◌<◌, true, false, eqb, List, [], ◌∷◌, inl, inr, map, length, refl, ap, sym, ◌∙◌, Some, None, bytes_eq, arith}
use Rattle.std.proofs.lemmas.Bool.{false≢true, cases_lt, false_from_ne_true, or_right, cases_eq, eq-eqb, ne_eqb}
use Rattle.std.proofs.lemmas.List.{get_or_past}
use Rattle.std.proofs.lemmas.Slice.Eq.{bytes_eq-Decides}
use Rattle.cg_rings.specs.declared.which.Which.{Which}
use Rattle.cg_rings.specs.declared.which.Which.TheVariants.{Free, Claimed, Ready}
use Rattle.cg_rings.specs.Lists.{list_in, list_of, has}
use Rattle.cg_rings.proofs.SlotLemmas.{has_front, has_else}
use Rattle.cg_rings.proofs.CallerLemmas.{has_of}
use Rattle.cg_cache.specs.Cached.{stands, owner}
use Rattle.cg_cache.specs.Slots.{Seen, nothing, at, code_at, claim_at, cached_of, IsCache}
use Rattle.cg_cache.proofs.MapLemmas.{none_passes, one_passes}
use Rattle.cg_cache.proofs.RoomLemmas.{some_is}
use Rattle.cg_cache.proofs.ChangeLemmas.{code_is, filled, tests}

-- a code that no slot has is nobody's
owner_none : (c : List ℕ) (f : ℕ → List ℕ × ℕ) (xs : List ℕ) → ((x : ℕ) → has x xs ≡ true → bytes_eq c ((f x).0) ≡ false) → owner c (map f xs) ≡ None
owner_none c f [] no_code = refl
owner_none c f (x ∷ xs) no_code =
    rw (no_code x (has_front x xs)) (owner_none c f xs (λ y h. no_code y (or_right (eqb y x) (has y xs) h)))

-- a code that just one slot has is the claim of its seat
owner_some : (c : List ℕ) (f : ℕ → List ℕ × ℕ) (x : ℕ) (xs : List ℕ) → has x xs ≡ true → ((y : ℕ) → has y xs ≡ true → bytes_eq c ((f y).0) ≡ eqb x y) → owner c (map f xs) ≡ Some (f x).1
owner_some c f x [] h same = absurd (false≢true h)
owner_some c f x (y ∷ ys) h same =
    elim (cases_eq x y) [
      | inl e ↦ rw (same y (has_front y ys) ∙ eq-eqb x y e) (ap (λ z. Some (f z).1) (sym e))
      | inr ne ↦ rw (same y (has_front y ys) ∙ ne_eqb x y ne) (owner_some c f x ys (sym (has_else x y ys ne) ∙ h) (λ z k. same z (or_right (eqb z y) (has z ys) k)))
    ]

module _ {O : Type 0} (s : Seen O) (i : IsCache s) where
  -- a code that isn't in the slots of a list isn't read there
  differs : (c : List ℕ) (k : Which) → k ≢ Free → ((y : ℕ) → list_of s.rings y ≡ Some k → (at s.slots y).code ≢ Some c) → (y : ℕ) → has y (list_in s.rings k) ≡ true → bytes_eq c (code_at s.slots y) ≡ false
  differs c k ne no_code y h =
      let was = i.apart.apart k y h in
      let f = filled s.origin k (at s.slots y) ne (i.fits y k was) in
      false_from_ne_true (bytes_eq c (code_at s.slots y)) (λ e. no_code y was (f.1 ∙ ap (λ d. Some d) (sym ((bytes_eq-Decides c (code_at s.slots y)).0 e ∙ code_is (at s.slots y) f.0 f.1))))

  -- so it isn't ready
  pub not_ready : (c : List ℕ) → ((y : ℕ) → list_of s.rings y ≡ Some Ready → (at s.slots y).code ≢ Some c) → stands c (cached_of s).ready ≡ false
  not_ready c no_code = none_passes (λ other. bytes_eq c other) (code_at s.slots) s.rings.ready (differs c Ready (λ n. cc) no_code)

  -- or isn't claimed
  pub not_claimed : (c : List ℕ) → ((y : ℕ) → list_of s.rings y ≡ Some Claimed → (at s.slots y).code ≢ Some c) → owner c (cached_of s).claimed ≡ None
  not_claimed c no_code = owner_none c (claim_at s.slots) s.rings.claimed (differs c Claimed (λ n. cc) no_code)

  -- a code in a slot of the ready ones is ready
  pub is_ready : (c : List ℕ) (x : ℕ) → list_of s.rings x ≡ Some Ready → (at s.slots x).code ≡ Some c → stands c (cached_of s).ready ≡ true
  is_ready c x was e =
      one_passes (λ other. bytes_eq c other) (code_at s.slots) x s.rings.ready (has_of s.rings x Ready was)
      ((bytes_eq-Decides c (code_at s.slots x)).1 (sym (code_is (at s.slots x) c e)))

  -- a code in a slot of the claims is claimed, by the slot's seat
  pub is_claimed : (c : List ℕ) (x : ℕ) → list_of s.rings x ≡ Some Claimed → (at s.slots x).code ≡ Some c → owner c (cached_of s).claimed ≡ Some (at s.slots x).seat
  is_claimed c x was e =
      owner_some c (claim_at s.slots) x s.rings.claimed (has_of s.rings x Claimed was) (λ y h. tests s i c x y Claimed e (λ n. cc) h)

  -- a slot with a code has its place
  pub held_known : (c : List ℕ) (y : ℕ) → (at s.slots y).code ≡ Some c → y < s.rings.slots
  held_known c y e =
      let n = i.count in
      elim (cases_lt y (length s.slots)) [
        | inl l ↦ omega arith
        | inr past ↦ (let gone : None ≡ Some c = sym (ap (λ m. m.code) (get_or_past s.slots y nothing past)) ∙ e in cc)
      ]

  -- a code that is neither ready nor claimed is in no slot
  module _ (c : List ℕ) (ready : stands c (cached_of s).ready ≡ false) (claimed : owner c (cached_of s).claimed ≡ None) where
    -- by the list of the slot
    none_case : (y : ℕ) (k : Which) → list_of s.rings y ≡ Some k → (at s.slots y).code ≢ Some c
    none_case y Free was e = let gone : None ≡ Some c = sym (i.fits y Free was) ∙ e in cc
    none_case y Claimed was e = let there : None ≡ Some (at s.slots y).seat = sym claimed ∙ is_claimed c y was e in cc
    none_case y Ready was e = false≢true (sym ready ∙ is_ready c y was e)

    -- in no slot at all
    pub nowhere : (y : ℕ) → (at s.slots y).code ≢ Some c
    nowhere y e = let k = some_is (list_of s.rings y) (i.listed y (held_known c y e)) in none_case y k.0 k.1 e
