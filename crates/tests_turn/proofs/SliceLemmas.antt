-- What is written back to a `Vec` that was lent as a slice.
use Rattle.std.proofs.Common.{◌≡◌, ℕ, List, [], ◌∷◌, ◌++◌, take, drop, length, refl, ap}

module _ {A : Type 0} where
  -- the front of a list
  ahead : (xs ys : List A) → take (length xs) (xs ++ ys) ≡ xs
  ahead [] ys = refl
  ahead (x ∷ xs) ys = ap (λ (zs : List A). x ∷ zs) (ahead xs ys)

  -- the whole list is written
  pub written : (new old : List A) (len : ℕ) → len ≡ length new → take len (new ++ drop (length new) old) ≡ new
  written new old len is = rw is (ahead new (drop (length new) old))
