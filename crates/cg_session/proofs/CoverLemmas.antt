-- The first fault among datings, one by one.
use Rattle.std.proofs.Common.{◌≡◌, ℕ, zero, suc, ◌+◌, ◌≤◌, List, [], ◌∷◌, drop, length, ap, arith, Some, None}
use Rattle.std.specs.Prelude.{slice_get}
use Rattle.std.proofs.lemmas.List.{drop_all}
use Rattle.cg_meaning.specs.Tree.{Dating}
use Rattle.cg_meaning.specs.Scene.{Scene}
use Rattle.cg_meaning.specs.Cover.{or_fault, cover_fault, first_fault}

pub drop-slice_get : {A : Type 0} (xs : List A) (n : ℕ) (x : A) → slice_get xs n ≡ Some x → drop n xs ≡ x ∷ drop (n + 1) xs
drop-slice_get [] n x is = absurd (cc)
drop-slice_get (y ∷ ys) zero x is = let same : y ≡ x = cc in ap (λ z. z ∷ ys) same
drop-slice_get (y ∷ ys) (suc n) x is = let next : suc n + 1 ≡ suc (n + 1) = omega arith in rw next (drop-slice_get ys n x is)

-- the first fault from a dating on is its own, or else that of those behind it
pub fault-at : (scene : Scene) (datings : List Dating) (n : ℕ) (dating : Dating) → slice_get datings n ≡ Some dating →
    first_fault scene (drop n datings) ≡ or_fault (cover_fault scene dating) (first_fault scene (drop (n + 1) datings))
fault-at scene datings n dating is = ap (λ ds. first_fault scene ds) (drop-slice_get datings n dating is)

-- past the last dating there is none
pub fault-end : (scene : Scene) (datings : List Dating) (n : ℕ) → length datings ≤ n → first_fault scene (drop n datings) ≡ None
fault-end scene datings n past = ap (λ ds. first_fault scene ds) (drop_all n datings past)
