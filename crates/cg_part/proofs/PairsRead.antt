-- Boundary pairs by numbers, read as cells, are those member by member.
use Rattle.std.proofs.Common.{◌≡◌, ℕ, zero, suc, ◌+◌, ◌*◌, List, [], ◌∷◌, ◌++◌, length, take, drop, map, get_or, Option, Some, None, refl, sym, ap, ap₂, ◌∙◌, arith}
use Rattle.std.proofs.lemmas.List.{map-append}
use Rattle.std.specs.Prelude.{option_map}
use Rattle.cg_meaning.specs.Tree.{Tree, Trees, Leaf, Boundary, Group, none, more, Sequence, Phase, After, Before, count, count_all}
use Rattle.cg_meaning.specs.Sums.{product_by}
use Rattle.cg_meaning.specs.Pairs.{boundary_after, pair_of, pairs_of, pairs_of_all, pairs_in_sequence, boundary_pairs, pair_at, span_weight}
use Rattle.cg_part.proofs.CellPairs.{first, boundary_at, pairs_at, pairs_at_all, pairs_at_sequence}

-- the cells of so many events from this number on
abbrev pub cells_from : (ℕ → ℕ) → ℕ → ℕ → List ℕ
cells_from cell number zero = []
cells_from cell number (suc n) = cell number ∷ cells_from cell (number + 1) n

-- the cells of a pair
abbrev pub pair_by : (ℕ → ℕ) → Option (ℕ × ℕ) → Option (ℕ × ℕ)
pair_by cell None = None
pair_by cell (Some pair) = Some (cell pair.0, cell pair.1)

pub length-cells_from : (cell : ℕ → ℕ) (number n : ℕ) → length (cells_from cell number n) ≡ n
length-cells_from cell number zero = refl
length-cells_from cell number (suc n) = omega (arith, length-cells_from cell (number + 1) n)

-- the first m, and those behind them
taken : (cell : ℕ → ℕ) (number m n : ℕ) → cells_from cell number m ≡ take m (cells_from cell number (m + n))
taken cell number zero n = refl
taken cell number (suc m) n =
    let more : suc (m + n) ≡ suc m + n = omega arith in
    ap (λ cells. cell number ∷ cells) (taken cell (number + 1) m n) ∙ ap (λ k. take (suc m) (cells_from cell number k)) more

dropped : (cell : ℕ → ℕ) (number m n : ℕ) → cells_from cell (number + m) n ≡ drop m (cells_from cell number (m + n))
dropped cell number zero n = let same : number + 0 ≡ number = omega arith in let all : n ≡ 0 + n = omega arith in ap₂ (λ j k. cells_from cell j k) same all
dropped cell number (suc m) n =
    let next : number + suc m ≡ number + 1 + m = omega arith in
    let more : suc (m + n) ≡ suc m + n = omega arith in
    ap (λ j. cells_from cell j n) next ∙ dropped cell (number + 1) m n ∙ ap (λ k. drop (suc m) (cells_from cell number k)) more

-- the first cell
first-read : (cell : ℕ → ℕ) (number n : ℕ) → Some (cell number) ≡ first (cells_from cell number (1 + n))
first-read cell number n = let more : suc n ≡ 1 + n = omega arith in ap (λ k. first (cells_from cell number k)) more

-- the next Boundary
boundary-read : (cell : ℕ → ℕ) (number : ℕ) (ts : Trees) →
    option_map cell (boundary_after number ts) ≡ boundary_at ts (cells_from cell number (count_all ts))
boundary-read cell number none = refl
boundary-read cell number (more (Boundary name) ts) = first-read cell number (count_all ts)
boundary-read cell number (more (Leaf name d) ts) =
    boundary-read cell (number + 1) ts ∙ ap (λ cells. boundary_at ts cells) (dropped cell number 1 (count_all ts))
boundary-read cell number (more (Group kind name us) ts) =
    boundary-read cell (number + count_all us) ts ∙ ap (λ cells. boundary_at ts cells) (dropped cell number (count_all us) (count_all ts))

-- the Boundaries on each side
pair-read : (cell : ℕ → ℕ) (before after : Option ℕ) (outer : Option (ℕ × ℕ)) →
    pair_by cell (pair_of before after outer) ≡ pair_of (option_map cell before) (option_map cell after) (pair_by cell outer)
pair-read cell (Some a) (Some b) outer = refl
pair-read cell (Some a) None outer = refl
pair-read cell None after outer = refl

-- those of a member of a Sequence, whose m events stand before the later members
member_pair-read : (cell : ℕ → ℕ) (outer : Option (ℕ × ℕ)) (before : Option ℕ) (number m : ℕ) (ts : Trees) →
    pair_by cell (pair_of before (boundary_after (number + m) ts) outer)
    ≡ pair_of (option_map cell before) (boundary_at ts (drop m (cells_from cell number (m + count_all ts)))) (pair_by cell outer)
member_pair-read cell outer before number m ts =
    pair-read cell before (boundary_after (number + m) ts) outer
    ∙ ap (λ next. pair_of (option_map cell before) next (pair_by cell outer))
    (boundary-read cell (number + m) ts ∙ ap (λ cells. boundary_at ts cells) (dropped cell number m (count_all ts)))

mutual
  -- The pairs by numbers, read as cells.
  pub pairs-read : (cell : ℕ → ℕ) (outer : Option (ℕ × ℕ)) (number : ℕ) (t : Tree) →
      map (pair_by cell) (pairs_of outer number t) ≡ pairs_at (pair_by cell outer) t (cells_from cell number (count t))
  pairs-read cell outer number (Leaf name d) = refl
  pairs-read cell outer number (Boundary name) = refl
  pairs-read cell outer number (Group Sequence name ts) = pairs-read_sequence cell outer None number ts
  pairs-read cell outer number (Group Phase name ts) = pairs-read_all cell outer number ts
  pairs-read cell outer number (Group After name ts) = pairs-read_all cell None number ts
  pairs-read cell outer number (Group Before name ts) = pairs-read_all cell None number ts

  pairs-read_all : (cell : ℕ → ℕ) (outer : Option (ℕ × ℕ)) (number : ℕ) (ts : Trees) →
      map (pair_by cell) (pairs_of_all outer number ts) ≡ pairs_at_all (pair_by cell outer) ts (cells_from cell number (count_all ts))
  pairs-read_all cell outer number none = refl
  pairs-read_all cell outer number (more t ts) =
      map-append (pair_by cell) (pairs_of outer number t) (pairs_of_all outer (number + count t) ts)
      ∙ ap₂ (λ ps qs. ps ++ qs)
      (pairs-read cell outer number t ∙ ap (λ cells. pairs_at (pair_by cell outer) t cells) (taken cell number (count t) (count_all ts)))
      (pairs-read_all cell outer (number + count t) ts
      ∙ ap (λ cells. pairs_at_all (pair_by cell outer) ts cells) (dropped cell number (count t) (count_all ts)))

  pairs-read_sequence : (cell : ℕ → ℕ) (outer : Option (ℕ × ℕ)) (before : Option ℕ) (number : ℕ) (ts : Trees) →
      map (pair_by cell) (pairs_in_sequence outer before number ts)
      ≡ pairs_at_sequence (pair_by cell outer) (option_map cell before) ts (cells_from cell number (count_all ts))
  pairs-read_sequence cell outer before number none = refl
  pairs-read_sequence cell outer before number (more (Boundary name) ts) =
      ap (λ ps. pair_by cell outer ∷ ps)
      (pairs-read_sequence cell outer (Some number) (number + 1) ts
      ∙ ap₂ (λ next cells. pairs_at_sequence (pair_by cell outer) next ts cells) (first-read cell number (count_all ts)) (dropped cell number 1 (count_all ts)))
  pairs-read_sequence cell outer before number (more (Leaf name d) ts) =
      ap₂ (λ p ps. p ∷ ps) (member_pair-read cell outer before number 1 ts)
      (pairs-read_sequence cell outer before (number + 1) ts
      ∙ ap (λ cells. pairs_at_sequence (pair_by cell outer) (option_map cell before) ts cells) (dropped cell number 1 (count_all ts)))
  pairs-read_sequence cell outer before number (more (Group kind name us) ts) =
      let t = Group kind name us in
      let pair = pair_of before (boundary_after (number + count_all us) ts) outer in
      map-append (pair_by cell) (pairs_of pair number t) (pairs_in_sequence outer before (number + count_all us) ts)
      ∙ ap₂ (λ ps qs. ps ++ qs)
      (pairs-read cell pair number (Group kind name us)
      ∙ ap₂ (λ p cells. pairs_at p t cells) (member_pair-read cell outer before number (count_all us) ts) (taken cell number (count_all us) (count_all ts)))
      (pairs-read_sequence cell outer before (number + count_all us) ts
      ∙ ap (λ cells. pairs_at_sequence (pair_by cell outer) (option_map cell before) ts cells) (dropped cell number (count_all us) (count_all ts)))

-- the cells from the next number on
cells_from-next : (cell : ℕ → ℕ) (number n : ℕ) → cells_from cell (suc number) n ≡ cells_from (λ k. cell (suc k)) number n
cells_from-next cell number zero = refl
cells_from-next cell number (suc n) =
    let next : suc number + 1 ≡ suc (number + 1) = omega arith in
    ap (λ cells. cell (suc number) ∷ cells) (ap (λ j. cells_from cell j n) next ∙ cells_from-next cell (number + 1) n)

-- all cells of a list
pub cells_from-all : (cells : List ℕ) → cells_from (λ k. get_or cells k 0) 0 (length cells) ≡ cells
cells_from-all [] = refl
cells_from-all (c ∷ cs) = ap (λ rest. c ∷ rest) (cells_from-next (λ k. get_or (c ∷ cs) k 0) 0 (length cs) ∙ cells_from-all cs)

-- a pair, read in a list
pub pair_by-at : (cells : List ℕ) (pair : Option (ℕ × ℕ)) → pair_by (λ k. get_or cells k 0) pair ≡ pair_at cells pair
pair_by-at cells None = refl
pair_by-at cells (Some pair) = refl

-- a product over pairs that are read
pub spans-read : (g : ℕ) (cells : List ℕ) (pairs : List (Option (ℕ × ℕ))) →
    product_by (λ pair. span_weight g (pair_at cells pair)) pairs ≡ product_by (λ pair. span_weight g pair) (map (pair_by (λ k. get_or cells k 0)) pairs)
spans-read g cells [] = refl
spans-read g cells (p ∷ ps) = ap₂ (λ a b. a * b) (ap (λ pair. span_weight g pair) (sym (pair_by-at cells p))) (spans-read g cells ps)

-- The span weights of a node, member by member.
pub spans-from : (g : ℕ) (cells : List ℕ) (outer : Option (ℕ × ℕ)) (number : ℕ) (t : Tree) →
    product_by (λ pair. span_weight g (pair_at cells pair)) (pairs_of outer number t)
    ≡ product_by (λ pair. span_weight g pair) (pairs_at (pair_at cells outer) t (cells_from (λ k. get_or cells k 0) number (count t)))
spans-from g cells outer number t =
    spans-read g cells (pairs_of outer number t)
    ∙ ap (λ pairs. product_by (λ pair. span_weight g pair) pairs) (pairs-read (λ k. get_or cells k 0) outer number t)
    ∙ ap (λ p. product_by (λ pair. span_weight g pair) (pairs_at p t (cells_from (λ k. get_or cells k 0) number (count t)))) (pair_by-at cells outer)

-- Those of a dating.
pub spans-at : (g : ℕ) (t : Tree) (cells : List ℕ) → length cells ≡ count t →
    product_by (λ pair. span_weight g (pair_at cells pair)) (boundary_pairs t) ≡ product_by (λ pair. span_weight g pair) (pairs_at None t cells)
spans-at g t cells each =
    spans-from g cells None 0 t
    ∙ ap (λ own. product_by (λ pair. span_weight g pair) (pairs_at None t own))
    (ap (λ n. cells_from (λ k. get_or cells k 0) 0 n) (sym each) ∙ cells_from-all cells)
