-- One line more.
use Rattle.std.proofs.Common.{◌≡◌, ℕ, ◌+◌, List, ◌∷◌, ◌++◌, drop, sym, ap, ap₂, ◌∙◌, add-one, append_assoc, drop-cons, Some, ℤ}
use Rattle.std.specs.Prelude.{slice_get}
use Rattle.std.specs.List.{flat_map}
use Rattle.std.proofs.lemmas.Option.{slice_get_within, get_or_from_slice_get}
use Rattle.cg_meaning.specs.Scene.{Grid, year_of}
use Rattle.cg_report.specs.Texts.{pair_line, pair_lines}

from_place : (pairs : List (ℕ × ℕ)) (place : ℕ) (pair : ℕ × ℕ) → slice_get pairs place ≡ Some pair →
    drop place pairs ≡ pair ∷ drop (place + 1) pairs
from_place pairs place pair is =
    let first = get_or_from_slice_get pairs place pair pair is in
    let behind = ap (λ k. drop k pairs) (sym (add-one place)) in
    drop-cons pairs place pair (slice_get_within pairs place pair is) ∙ ap₂ (λ p ps. p ∷ ps) first behind

-- the line of a pair behind the text so far, and the lines that are left, are all
pub next_pair : (grid : Grid) (pairs : List (ℕ × ℕ)) (cell : ℕ) (pair : ℕ × ℕ) (year : ℤ) (old new all : List ℕ) →
    slice_get pairs cell ≡ Some pair → year ≡ year_of grid cell → new ≡ old ++ pair_line year pair →
    old ++ pair_lines grid cell (drop cell pairs) ≡ all →
    new ++ pair_lines grid (cell + 1) (drop (cell + 1) pairs) ≡ all
next_pair grid pairs cell pair year old new all is place line so_far =
    let written = line ∙ ap (λ y. old ++ pair_line y pair) place in
    ap (λ text. text ++ pair_lines grid (cell + 1) (drop (cell + 1) pairs)) written
    ∙ append_assoc old (pair_line (year_of grid cell) pair) (pair_lines grid (cell + 1) (drop (cell + 1) pairs))
    ∙ ap (λ rest. old ++ pair_lines grid cell rest) (sym (from_place pairs cell pair is))
    ∙ so_far

-- the same of a run, of which each has this text
pub next_run : (text : ℕ × ℕ → List ℕ) (runs : List (ℕ × ℕ)) (number : ℕ) (run : ℕ × ℕ) (old new all : List ℕ) →
    slice_get runs number ≡ Some run → new ≡ old ++ text run →
    old ++ flat_map text (drop number runs) ≡ all →
    new ++ flat_map text (drop (number + 1) runs) ≡ all
next_run text runs number run old new all is line so_far =
    ap (λ written. written ++ flat_map text (drop (number + 1) runs)) line
    ∙ append_assoc old (text run) (flat_map text (drop (number + 1) runs))
    ∙ ap (λ rest. old ++ flat_map text rest) (sym (from_place runs number run is))
    ∙ so_far
