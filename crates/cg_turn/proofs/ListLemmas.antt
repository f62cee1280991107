-- Lists of views after a change, and what is counted over them.
use Rattle.std.proofs.Common.{◌≡◌, ◌≢◌, ℕ, zero, suc, ◌+◌, ◌≤◌, ◌⊎◌, List, [], ◌∷◌, ◌++◌, length, set, refl, ap, sym, subst, ◌∙◌, inl, inr, ⊎_elim, arith}
use mathlib.Core.Option.{some, some-injective, some-ne-none}
use lib.ListN.{get_elem?}
use Rattle.atomic_table.proofs.Lists.{at_set}
use Rattle.cg_turn.specs.Phases.{total}

module _ {A : Type 0} where
  -- a change of one view changes the total by what that view adds
  pub total_set : (f : A → ℕ) (vs : List A) (i : ℕ) (v w : A) → get_elem? vs i ≡ some v
      → total f (set vs i w) + f v ≡ total f vs + f w
  total_set f [] i v w at = absurd (some-ne-none v (sym at))
  total_set f (x ∷ xs) zero v w at = let e : f x ≡ f v = ap f (some-injective x v at) in omega arith
  total_set f (x ∷ xs) (suc i) v w at = let h = total_set f xs i v w at in omega arith

  -- one element more adds what it counts
  pub total_snoc : (f : A → ℕ) (vs : List A) (w : A) → total f (vs ++ w ∷ []) ≡ total f vs + f w
  total_snoc f [] w = omega arith
  total_snoc f (x ∷ xs) w = let h = total_snoc f xs w in omega arith

  -- what counts less in each place counts less in all
  pub total_le : (f g : A → ℕ) (vs : List A) → ((v : A) → f v ≤ g v) → total f vs ≤ total g vs
  total_le f g [] h = omega arith
  total_le f g (x ∷ xs) h = let a = h x in let b = total_le f g xs h in omega arith

  -- one place counts at most what all do
  pub total_at : (f : A → ℕ) (vs : List A) (i : ℕ) (v : A) → get_elem? vs i ≡ some v → f v ≤ total f vs
  total_at f [] i v at = absurd (some-ne-none v (sym at))
  total_at f (x ∷ xs) zero v at = let e : f x ≡ f v = ap f (some-injective x v at) in omega arith
  total_at f (x ∷ xs) (suc i) v at = let h = total_at f xs i v at in omega arith

  -- two places count at most what all do
  pub total_two : (f : A → ℕ) (vs : List A) (i j : ℕ) (v w : A) → i ≢ j → get_elem? vs i ≡ some v
      → get_elem? vs j ≡ some w → f v + f w ≤ total f vs
  total_two f [] i j v w ne a b = absurd (some-ne-none v (sym a))
  total_two f (x ∷ xs) zero zero v w ne a b = absurd (ne refl)
  total_two f (x ∷ xs) zero (suc j) v w ne a b = let e : f x ≡ f v = ap f (some-injective x v a) in let h = total_at f xs j w b in omega arith
  total_two f (x ∷ xs) (suc i) zero v w ne a b = let e : f x ≡ f w = ap f (some-injective x w b) in let h = total_at f xs i v a in omega arith
  total_two f (x ∷ xs) (suc i) (suc j) v w ne a b = let h = total_two f xs i j v w (λ e. ne (ap suc e)) a b in omega arith

  -- a place of a list with one element more
  pub at_more : (l : List A) (a b : A) (j : ℕ) → get_elem? (l ++ a ∷ []) j ≡ some b
      → (get_elem? l j ≡ some b) ⊎ ((j ≡ length l) × (a ≡ b))
  at_more [] a b zero e = inr (refl, some-injective a b e)
  at_more [] a b (suc j) e = absurd (some-ne-none b (sym e))
  at_more (x ∷ xs) a b zero e = inl e
  at_more (x ∷ xs) a b (suc j) e = ⊎_elim (λ h. inl h) (λ h. inr (ap suc h.0, h.1)) (at_more xs a b j e)

  -- so is each place
  abbrev pub Each : (A → Type 0) → List A → Type 0
  Each P vs = (j : ℕ) (v : A) → get_elem? vs j ≡ some v → P v

  -- so are each two places
  abbrev pub Pairs : (A → A → Type 0) → List A → Type 0
  Pairs R vs = (i j : ℕ) (v w : A) → i ≢ j → get_elem? vs i ≡ some v → get_elem? vs j ≡ some w → R v w

  -- each place after one has changed
  pub each_set : (P Q : A → Type 0) (vs : List A) (id : ℕ) (w : A) → Each P vs → Q w
      → ((j : ℕ) (v : A) → j ≢ id → get_elem? vs j ≡ some v → P v → Q v) → Each Q (set vs id w)
  each_set P Q vs id w all here keep j v at = ⊎_elim (λ h. subst Q h.1 here) (λ h. keep j v h.0 h.1 (all j v h.1)) (at_set vs id j w v at)

  -- each two places after one has changed
  pub pairs_set : (R : A → A → Type 0) (vs : List A) (id : ℕ) (w : A) → Pairs R vs
      → ((j : ℕ) (v : A) → j ≢ id → get_elem? vs j ≡ some v → R w v × R v w) → Pairs R (set vs id w)
  pairs_set R vs id w all new i j a b ne at bt =
      ⊎_elim
      (λ h. ⊎_elim (λ k. absurd (ne (h.0 ∙ sym k.0))) (λ k. subst (λ x. R x b) h.1 ((new j b k.0 k.1).0)) (at_set vs id j w b bt))
      (λ h. ⊎_elim (λ k. subst (λ x. R a x) k.1 ((new i a h.0 h.1).1)) (λ k. all i j a b ne h.1 k.1) (at_set vs id j w b bt))
      (at_set vs id i w a at)

  -- each place with one element more
  pub each_more : (P : A → Type 0) (vs : List A) (w : A) → Each P vs → P w → Each P (vs ++ w ∷ [])
  each_more P vs w all here j v at = ⊎_elim (λ h. all j v h) (λ h. subst P h.1 here) (at_more vs w v j at)

  -- each two places with one element more
  pub pairs_more : (R : A → A → Type 0) (vs : List A) (w : A) → Pairs R vs
      → ((j : ℕ) (v : A) → get_elem? vs j ≡ some v → R w v × R v w) → Pairs R (vs ++ w ∷ [])
  pairs_more R vs w all new i j a b ne at bt =
      ⊎_elim
      (λ h. ⊎_elim (λ k. all i j a b ne h k) (λ k. subst (λ x. R a x) k.1 ((new i a h).1)) (at_more vs w b j bt))
      (λ h. ⊎_elim (λ k. subst (λ x. R x b) h.1 ((new j b k).0)) (λ k. absurd (ne (h.0 ∙ sym k.0))) (at_more vs w b j bt))
      (at_more vs w a i at)

  -- each place of one element
  pub each_one : (P : A → Type 0) (w : A) → P w → Each P (w ∷ [])
  each_one P w here zero v at = subst P (some-injective w v at) here
  each_one P w here (suc j) v at = absurd (some-ne-none v (sym at))

  -- each two places of one element
  pub pairs_one : (R : A → A → Type 0) (w : A) → Pairs R (w ∷ [])
  pairs_one R w zero zero a b ne at bt = absurd (ne refl)
  pairs_one R w zero (suc j) a b ne at bt = absurd (some-ne-none b (sym bt))
  pairs_one R w (suc i) j a b ne at bt = absurd (some-ne-none a (sym at))
