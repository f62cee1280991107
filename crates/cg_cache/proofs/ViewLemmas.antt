-- The fields of a cache after a slot got a content and went to the front of a list.
use Rattle.std.proofs.Common.{◌≡◌, ◌↔◌, ℕ, ◌<◌, false, List, inl, inr, map, length, set, get_or, refl, ap, sym, ◌∙◌, subst, Some, None, Option, IsSome, option_map, ◌-◌, arith}
use Rattle.std.proofs.lemmas.Bool.{false≢true}
use Rattle.std.proofs.lemmas.List.{map-set, set-get_or, get_or-map, length-map}
use Rattle.cg_rings.specs.declared.which.Which.{Which}
use Rattle.cg_rings.specs.declared.which.Which.TheVariants.{Free, Claimed, Ready}
use Rattle.cg_rings.specs.Lists.{Lists, list_of, unlinked, pushed, AreApart}
use Rattle.cg_rings.proofs.SlotLemmas.{has_from_get}
use Rattle.cg_cache.specs.Cached.{after_claim, after_publish, after_give_back, stands, owner, Hit, Mine}
use Rattle.cg_cache.specs.Slots.{Held, Seen, nothing, at, cached_of, Fits, IsCache, IsRoom}
use Rattle.cg_cache.proofs.RoomLemmas.{some_is}
use Rattle.cg_cache.proofs.ChangeLemmas.{put, put_stays, cached_used, cached_ready, cached_free, cached_mine}
use Rattle.cg_cache.proofs.FoundLemmas.{nowhere}

-- a slot for which there is room is in a list
pub room_listed : (r : Lists) (x : ℕ) → AreApart r → IsRoom r x → (j : Which) × (list_of r x ≡ Some j)
room_listed r x a room =
    elim room.room [
      | inl free ↦ (Free, free.0)
      | inr last ↦ (Ready, a.apart Ready x (has_from_get x r.ready (length r.ready - 1) last.0))
    ]

module _ {X O : Type 0} (f : X → Held O) (origin : O) (r s : Lists) (xs : List X) where
  -- the cache before
  abbrev before : Seen O
  before = record { origin = origin; rings = r; slots = map f xs }

  -- with another entry in a slot
  abbrev after : X → ℕ → Seen O
  after e x = record { origin = origin; rings = s; slots = map f (set xs x e) }

  -- the entry is put, and the slot goes to the front
  after_is : (k : Which) (e : X) (x : ℕ) → s ≡ pushed k x (unlinked x r) → after e x ≡ put k x (f e) before
  after_is k e x m = rw (m, map-set f xs x e) refl

  module _ (i : IsCache before) where
    -- the cache stays one
    stays_one : (k j : Which) (e : X) (x : ℕ) → s ≡ pushed k x (unlinked x r) → AreApart s → list_of r x ≡ Some j → Fits origin k (f e) → ((c : List ℕ) (y : ℕ) → (f e).code ≡ Some c → (at (map f xs) y).code ≡ Some c → x ≡ y) → IsCache (after e x)
    stays_one k j e x m apart was fits fresh =
        subst (λ (t : Seen O). IsCache t) (sym (after_is k e x m)) (put_stays before i k x (f e) j was (subst (λ (t : Lists). AreApart t) m apart) fits fresh)

    -- a claim in a slot for which there is room
    pub claimed_after : (e : X) (x seat : ℕ) (c : List ℕ) → IsRoom r x → stands c (cached_of before).ready ≡ false → owner c (cached_of before).claimed ≡ None → (f e).code ≡ Some c → (f e).seat ≡ seat → (f e).payload ≡ None → s ≡ pushed Claimed x (unlinked x r) → AreApart s → IsCache (after e x) × (cached_of (after e x) ≡ after_claim (cached_of before) seat c Mine)
    claimed_after e x seat c room ready claimed own of none m apart =
        let j = room_listed r x i.apart room in
        let fresh : (d : List ℕ) (y : ℕ) → (f e).code ≡ Some d → (at (map f xs) y).code ≡ Some d → x ≡ y = λ d y p q. absurd (nowhere before i c ready claimed y (q ∙ (sym p ∙ own))) in
        (stays_one Claimed j.0 e x m apart j.1 (c, own, none) fresh, ap cached_of (after_is Claimed e x m) ∙ cached_mine before i c seat x (f e) own of room)

    module _ (x : ℕ) (c : List ℕ) (was : list_of r x ≡ Some Claimed) (here : (at (map f xs) x).code ≡ Some c) where
      -- a claim becomes ready
      pub ready_after : (e : X) → (f e).code ≡ Some c → (f e).payload ≡ Some (c, origin) → s ≡ pushed Ready x (unlinked x r) → AreApart s → IsCache (after e x) × (cached_of (after e x) ≡ after_publish (cached_of before) c)
      ready_after e own payload m apart =
          let fresh : (d : List ℕ) (y : ℕ) → (f e).code ≡ Some d → (at (map f xs) y).code ≡ Some d → x ≡ y = λ d y p q. i.once c x y here (q ∙ (sym p ∙ own)) in
          (stays_one Ready Claimed e x m apart was (c, own, payload) fresh, ap cached_of (after_is Ready e x m) ∙ cached_ready before i c x (f e) was here own)

      -- a claim becomes free
      pub free_after : (e : X) → (f e).code ≡ None → s ≡ pushed Free x (unlinked x r) → AreApart s → IsCache (after e x) × (cached_of (after e x) ≡ after_give_back (cached_of before) c)
      free_after e own m apart =
          let fresh : (d : List ℕ) (y : ℕ) → (f e).code ≡ Some d → (at (map f xs) y).code ≡ Some d → x ≡ y = λ d y p q. (let gone : None ≡ Some d = sym own ∙ p in cc) in
          (stays_one Free Claimed e x m apart was own fresh, ap cached_of (after_is Free e x m) ∙ cached_free before i c x (f e) was here)

    -- the same entries in other lists
    abbrev moved : Seen O
    moved = record { origin = origin; rings = s; slots = map f xs }

    -- a ready payload goes to the front
    pub used_after : (x : ℕ) (c : List ℕ) → list_of r x ≡ Some Ready → (at (map f xs) x).code ≡ Some c → s ≡ pushed Ready x (unlinked x r) → AreApart s → IsCache moved × (cached_of moved ≡ after_claim (cached_of before) 0 c Hit)
    used_after x c was here m apart =
        let same : put Ready x (at (map f xs) x) before ≡ moved = rw (m, set-get_or (map f xs) x nothing) refl in
        let fresh : (d : List ℕ) (y : ℕ) → (at (map f xs) x).code ≡ Some d → (at (map f xs) y).code ≡ Some d → x ≡ y = λ d y p q. i.once d x y p q in
        let kept = put_stays before i Ready x (at (map f xs) x) Ready was (subst (λ (t : Lists). AreApart t) m apart) (i.fits x Ready was) fresh in
        let show : moved ≡ record { origin = origin; rings = pushed Ready x (unlinked x r); slots = map f xs } = rw m refl in
        (subst (λ (t : Seen O). IsCache t) same kept, ap cached_of show ∙ cached_used before i c x was here)

-- by the list of the slot
free_case : {O : Type 0} (t : Seen O) → IsCache t → (x : ℕ) (k : Which) → list_of t.rings x ≡ Some k → (at t.slots x).code ≡ None → list_of t.rings x ≡ Some Free
free_case t i x Free was none = was
free_case t i x Claimed was none = let f = i.fits x Claimed was in let there : None ≡ Some f.0 = sym none ∙ f.1 in cc
free_case t i x Ready was none = let f = i.fits x Ready was in let there : None ≡ Some f.0 = sym none ∙ f.1 in cc

-- a slot has no code exactly where it is free
pub free_exactly : {O : Type 0} (t : Seen O) → IsCache t → (x : ℕ) → x < t.rings.slots → ((at t.slots x).code ≡ None) ↔ (list_of t.rings x ≡ Some Free)
free_exactly t i x l = ((λ none. (let k = some_is (list_of t.rings x) (i.listed x l) in free_case t i x k.0 k.1 none)), (λ was. i.fits x Free was))

-- no code as seen is no code
no_code : {A B : Type 0} (f : A → B) (o : Option A) → option_map f o ≡ None → o ≡ None
no_code f None e = refl
no_code f (Some a) e = cc

-- and what holds exactly for the one holds for the other
pub none_exactly : {A B : Type 0} (f : A → B) (o : Option A) (p : Option B) (Q : Type 0) → option_map f o ≡ p → ((p ≡ None) ↔ Q) → (o ≡ None) ↔ Q
none_exactly f o p Q e h = ((λ none. h.0 (sym e ∙ ap (option_map f) none)), (λ q. no_code f o (e ∙ h.1 q)))

-- a cache as it is seen
pub still : {O : Type 0} (s t : Seen O) → IsCache s → s ≡ t → IsCache t
still {O = O} s t i e = subst (λ (u : Seen O). IsCache u) e i

-- what isn't there isn't something
pub none_some : {A : Type 0} (o : Option A) → o ≡ None → IsSome o → ⊥
none_some None e h = false≢true h
none_some (Some a) e h = cc

-- the content of a slot is that of its entry
pub entry_at : {X O : Type 0} (f : X → Held O) (origin : O) (r : Lists) (xs : List X) → IsCache (record { origin = origin; rings = r; slots = map f xs }) → (x : ℕ) (e : X) → x < r.slots → e ≡ get_or xs x e → at (map f xs) x ≡ f e
entry_at f origin r xs i x e l is =
    let n = i.count in
    let size : length (map f xs) ≡ length xs = simp length-map refl in
    let known : x < length xs = omega arith in
    get_or-map f xs x e nothing known ∙ ap f (sym is)

-- two readings, one after another
pub map_through : {A B C : Type 0} (n : B → A) (h : A → C) (o : Option B) → option_map (λ b. h (n b)) o ≡ option_map h (option_map n o)
map_through n h None = refl
map_through n h (Some b) = refl

-- what is seen as something is there
pub not_none : {A B : Type 0} (f : A → B) (o : Option A) (b : B) → option_map f o ≡ Some b → o ≡ None → ⊥
not_none f None b e n = cc
not_none f (Some a) b e n = cc

-- and is seen as itself
pub some_of : {A B : Type 0} (f : A → B) (o : Option A) (a : A) (b : B) → option_map f o ≡ Some b → o ≡ Some a → f a ≡ b
some_of f o a b e s = let t : Some (f a) ≡ Some b = sym (ap (option_map f) s) ∙ e in cc
