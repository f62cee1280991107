-- The place of a code among the slots.
use Rattle.std.proofs.Common.{◌≡◌, ◌≢◌, ℕ, zero, suc, ◌+◌, ◌<◌, ◌≤◌, Bool, true, false, cond, List, [], ◌∷◌, inl, inr, map, length, get_or, refl, ap, sym, ◌∙◌, Some, None, Option, arith}
use Rattle.std.specs.List.{position, position_from}
use Rattle.std.proofs.lemmas.Bool.{false≢true, cases_lt}
use Rattle.std.proofs.lemmas.List.{get_or-map, get_or_past, length-map}
use Rattle.std.proofs.lemmas.List.Quantifiers.{position-Some}
use Rattle.std.proofs.lemmas.Iterator.Adapters.{position_from-zero}
use Rattle.std.proofs.lemmas.Slice.Eq.{bytes_eq-Decides}
use Rattle.cg_rings.specs.declared.which.Which.{Which}
use Rattle.cg_rings.specs.Lists.{list_of}
use Rattle.cg_cache.specs.Slots.{Held, Seen, nothing, at, has_code, IsCache}

module _ {X : Type 0} (t : X → Bool) (d : X) where
  -- one element, which is the place or not
  none_step : (i : ℕ) (x : X) (xs : List X) (b : Bool) → (position_from t (i + 1) xs ≡ None → (y : ℕ) → y < length xs → t (get_or xs y d) ≡ false) → t x ≡ b → cond b (Some i) (position_from t (i + 1) xs) ≡ None → (y : ℕ) → y < length (x ∷ xs) → t (get_or (x ∷ xs) y d) ≡ false
  none_step i x xs true rest is e zero l = cc
  none_step i x xs true rest is e (suc y) l = cc
  none_step i x xs false rest is e zero l = is
  none_step i x xs false rest is e (suc y) l = rest e y (omega arith)

  -- no place from here on
  none_from : (i : ℕ) (xs : List X) → position_from t i xs ≡ None → (y : ℕ) → y < length xs → t (get_or xs y d) ≡ false
  none_from i [] e y l = absurd (omega arith)
  none_from i (x ∷ xs) e y l = none_step i x xs (t x) (none_from (i + 1) xs) refl e y l

  -- no place at all: no element passes
  pub none_passes : (xs : List X) → position t xs ≡ None → (y : ℕ) → y < length xs → t (get_or xs y d) ≡ false
  none_passes xs e = none_from 0 xs (sym (position_from-zero t xs) ∙ e)

-- a test that passes
is_code : (c : List ℕ) (o : Option (List ℕ)) → has_code c o ≡ true → o ≡ Some c
is_code c None e = absurd (false≢true e)
is_code c (Some b) e = ap (λ x. Some x) (sym ((bytes_eq-Decides c b).0 e))

-- and one that fails
is_not : (c : List ℕ) (o : Option (List ℕ)) → has_code c o ≡ false → o ≢ Some c
is_not c None e h = cc
is_not c (Some b) e h = let same : c ≡ b = cc in false≢true (sym e ∙ (bytes_eq-Decides c b).1 same)

module _ {X O : Type 0} (f : X → Held O) (d : X) (c : List ℕ) (xs : List X) where
  -- the entry at the place has the code
  pub place_some : (j : ℕ) → position (λ x. has_code c (f x).code) xs ≡ Some j → (j < length xs) × ((at (map f xs) j).code ≡ Some c)
  place_some j e =
      let p = position-Some (λ (x : X). has_code c (f x).code) xs j d e in
      (p.0, ap (λ h. h.code) (get_or-map f xs j d nothing p.0) ∙ is_code c (f (get_or xs j d)).code p.1)

  -- no entry has it
  pub place_none : position (λ x. has_code c (f x).code) xs ≡ None → (y : ℕ) → (at (map f xs) y).code ≢ Some c
  place_none e y h =
      elim (cases_lt y (length xs)) [
        | inl l ↦ is_not c (f (get_or xs y d)).code (none_passes (λ (x : X). has_code c (f x).code) d xs e y l) (sym (ap (λ m. m.code) (get_or-map f xs y d nothing l)) ∙ h)
        | inr past ↦ (
            let long : length (map f xs) ≤ y = simp length-map past in
            let gone : None ≡ Some c = sym (ap (λ m. m.code) (get_or_past (map f xs) y nothing long)) ∙ h in
            cc
            )
      ]

-- a code that stands elsewhere isn't in a slot of the list
pub elsewhere : {O : Type 0} (s : Seen O) (i : IsCache s) (c : List ℕ) (k : Which) (place : ℕ) → (at s.slots place).code ≡ Some c → list_of s.rings place ≢ Some k → (y : ℕ) → list_of s.rings y ≡ Some k → (at s.slots y).code ≢ Some c
elsewhere s i c k place here ne y was e = ne (ap (list_of s.rings) (i.once c place y here e) ∙ was)
