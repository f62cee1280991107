-- Rows of cells.
use Rattle.std.proofs.Common.{ℕ, ◌<◌, map, arith, subst, sym}
use Rattle.std.specs.List.{All, range_with_len}
use Rattle.std.proofs.lemmas.List.Elements.{All-from_get_or}
use Rattle.std.proofs.lemmas.List.FromFn.{get_or-map-range_with_len, length-map-range_with_len}
use Rattle.cg_enc.specs.Enclosure.{Enclosure, exact_zero}

-- what holds at each cell holds of the row
pub All-cells : (P : Enclosure → Type 0) (n : ℕ) (f : ℕ → Enclosure) → ((c : ℕ) → c < n → P (f c)) → All P (map f (range_with_len 0 n))
All-cells P n f h = All-from_get_or P (map f (range_with_len 0 n)) exact_zero
    (λ c less. let inside : c < n = omega (arith, less, length-map-range_with_len f 0 n) in
    subst P (sym (get_or-map-range_with_len f 0 n c c exact_zero inside (omega arith))) (h c inside))
