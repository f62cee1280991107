-- Lower ends with their cells, and the order in which cells are taken. chron's own.
use Rattle.std.specs.Prelude.{ℕ, List, AllPairs, IsTrue}
use Rattle.std.specs.List.Sorted.{IsPermutation}
use Rattle.std.specs.declared.cmp.Reverse.{Reverse}
use Rattle.cg_ranges.specs.Cover.{cells_of, comes_before}

abbrev pub lower_of : Reverse ℕ × ℕ → ℕ
lower_of end = end.0.0

abbrev pub cell_of : Reverse ℕ × ℕ → ℕ
cell_of end = end.1

-- all cells, each before those that it comes before
pub record IsInOrder (pairs : List (ℕ × ℕ)) (cells : List ℕ) : Type 0 where
  pub all : IsPermutation (cells_of pairs) cells
  pub order : AllPairs (λ first second. IsTrue (comes_before pairs first second)) cells
