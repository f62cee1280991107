-- Views of a list, one of which has changed.
use Rattle.std.proofs.Common.{◌≡◌, ℕ, zero, suc, ◌≤◌, List, [], ◌∷◌, set, refl, ap, sym, subst, ◌∙◌, arith}
use mathlib.Core.Option.{some, some-injective, some-ne-none}
use lib.ListN.{get_elem?}
use Rattle.cg_turn.specs.declared.view.View.{View}
use Rattle.cg_turn.specs.Phases.{ticketed, live}
use Rattle.cg_turn.specs.Rule.{Apart}

module _ {G E : Type 0} where
  -- the element that was set
  pub set_there : (l : List (View G E)) (i : ℕ) (v w : View G E) → get_elem? l i ≡ some v
      → get_elem? (set l i w) i ≡ some w
  set_there [] i v w e = absurd (some-ne-none v (sym e))
  set_there (x ∷ xs) zero v w e = refl
  set_there (x ∷ xs) (suc i) v w e = set_there xs i v w e

  -- one element at one place
  pub one_view : (vs : List (View G E)) (i j : ℕ) (u v : View G E) → get_elem? vs i ≡ some u → get_elem? vs j ≡ some v
      → i ≡ j → u ≡ v
  one_view vs i j u v a b e = some-injective u v (sym a ∙ (ap (get_elem? vs) e ∙ b))

  -- a view with the number and the tickets of another stands apart as that one does
  pub as_before : (v w u : View G E) → Apart v u → w.number ≡ v.number → (1 ≤ live w.phase → 1 ≤ live v.phase)
      → (1 ≤ ticketed w.phase → (1 ≤ ticketed v.phase) × (w.ticket ≡ v.ticket)) → Apart w u
  as_before v w u h n l t = record {
    numbers = λ a b e. h.numbers (l a) b (sym n ∙ e);
    tickets = λ a b e. h.tickets ((t a).0) b (sym ((t a).1) ∙ e);
  }

  -- the same with the two the other way round
  pub as_before_turned : (v w u : View G E) → Apart u v → w.number ≡ v.number → (1 ≤ live w.phase → 1 ≤ live v.phase)
      → (1 ≤ ticketed w.phase → (1 ≤ ticketed v.phase) × (w.ticket ≡ v.ticket)) → Apart u w
  as_before_turned v w u h n l t = record {
    numbers = λ a b e. h.numbers a (l b) (e ∙ n);
    tickets = λ a b e. h.tickets a ((t b).0) (e ∙ (t b).1);
  }

-- what holds of the first and of the others
pub gone_cons : {X : Type 0} (x : X) (xs : List X) (P : X → Type 0) → P x
    → ((k : ℕ) (y : X) → get_elem? xs k ≡ some y → P y) → (k : ℕ) (y : X) → get_elem? (x ∷ xs) k ≡ some y → P y
gone_cons x xs P here all zero y e = subst P (some-injective x y e) here
gone_cons x xs P here all (suc k) y e = all k y e

-- what is not 1 or more is 0
pub none_of : (n : ℕ) → (1 ≤ n → ⊥) → n ≡ 0
none_of zero h = refl
none_of (suc n) h = absurd (h (omega arith))
