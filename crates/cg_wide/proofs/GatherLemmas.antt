-- Rows that are computed each by itself, and what they are one behind the other.
use Rattle.std.proofs.Common.{◌≡◌, ℕ, zero, suc, ◌+◌, ◌-◌, ◌++◌, ◌<◌, List, [], ◌∷◌, length, map, get_or, refl, sym, ap, subst, ◌∙◌, arith, add-one, append_assoc, append-nil}
use Rattle.std.specs.Prelude.{IfOk, MatchResult, Ok, Err, Result}
use Rattle.std.specs.List.{AllZip, Contains, flat_map, range_with_len}
use Rattle.std.proofs.lemmas.List.{ext_get_or}
use Rattle.std.proofs.lemmas.List.FromFn.{get_or-map-range_with_len, length-map-range_with_len}
use Rattle.cg_enc.specs.Enclosure.{Enclosure, exact_zero}
use Rattle.cg_table.specs.Table.{row, rows}

-- a list that has at each cell what the formula gives there is the row
pub whole-row : (cells a : ℕ) (f : ℕ → ℕ → Enclosure) (sums : List Enclosure) → length sums ≡ cells - a → ((i : ℕ) → i < cells - a → get_or sums i exact_zero ≡ f a (a + i)) → sums ≡ row cells f a
whole-row cells a f sums long each =
    let width : length (row cells f a) ≡ cells - a = length-map-range_with_len (f a) a (cells - a) in
    ext_get_or exact_zero sums (row cells f a) (long ∙ sym width)
    (λ i less.
    let within : i < cells - a = omega (arith, long, less) in
    each i within ∙ sym (get_or-map-range_with_len (f a) a (cells - a) i (a + i) exact_zero within refl))

module _ {V : Type 0} (E : Type 0) (items : V → List Enclosure) (cells : ℕ) (f : ℕ → ℕ → Enclosure) where
  -- what a task gives of its row
  abbrev pub IsRow : ℕ → Result V E → Type 0
  IsRow a r = IfOk r (λ v. items v ≡ row cells f a)

  -- the rows from a on, behind those before it
  behind : (a n : ℕ) (ys : List V) → AllZip IsRow (range_with_len a n) (map Ok ys) → rows cells f a ++ flat_map items ys ≡ rows cells f (a + n)
  behind a zero [] h = let none : a + 0 ≡ a = omega arith in rw none (append-nil (rows cells f a))
  behind a zero (y ∷ ys) h = absurd h
  behind a (suc n) [] h = absurd h
  behind a (suc n) (y ∷ ys) h =
      let next : a + 1 + n ≡ a + suc n = omega arith in
      let more : rows cells f a ++ row cells f a ≡ rows cells f (a + 1) = rw add-one refl in
      ap (λ (r : List Enclosure). rows cells f a ++ (r ++ flat_map items ys)) h.0 ∙ sym (append_assoc (rows cells f a) (row cells f a) (flat_map items ys))
      ∙ ap (λ (r : List Enclosure). r ++ flat_map items ys) more ∙ behind (a + 1) n ys h.1 ∙ ap (rows cells f) next

  -- all of them, as tasks gave them
  pub gathered : (n : ℕ) (xs : List (Result V E)) (ys : List V) → xs ≡ map Ok ys → AllZip IsRow (range_with_len 0 n) xs → flat_map items ys ≡ rows cells f n
  gathered n xs ys is h =
      let all : 0 + n ≡ n = omega arith in
      behind 0 n ys (subst (AllZip IsRow (range_with_len 0 n)) is h) ∙ ap (rows cells f) all

  -- where none of them failed
  pub all-gathered : {W : Type 0} (lists : W → List V) (n : ℕ) (xs : List (Result V E)) (r : Result W E) →
      MatchResult r (λ w. (ys : List V) × (xs ≡ map Ok ys) × (lists w ≡ ys)) (λ e. Contains xs (Err e)) → AllZip IsRow (range_with_len 0 n) xs → IfOk r (λ w. flat_map items (lists w) ≡ rows cells f n)
  all-gathered lists n xs (Ok w) made h = ap (flat_map items) made.2 ∙ gathered n xs made.0 made.1 h
  all-gathered lists n xs (Err e) made h = tt
