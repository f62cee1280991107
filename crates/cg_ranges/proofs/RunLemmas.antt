-- Runs, cell by cell from the oldest.
use Rattle.std.proofs.Common.{◌≡◌, ℕ, zero, suc, ◌+◌, ◌<◌, Bool, true, false, cond, eqb, eq-eqb, ne_eqb, List, [], ◌∷◌, ◌++◌, length, get_or, set, refl, sym, ap, ◌∙◌, arith, zero-add}
use Rattle.std.specs.List.{All, filter, range_with_len}
use Rattle.std.proofs.lemmas.Bool.{eqb-true}
use Rattle.std.proofs.lemmas.List.{append-nil, map-id}
use Rattle.std.proofs.lemmas.List.Elements.{All-nil, All-cons, All-head, All-tail, All-filter, All-from_get_or, filter-append}
use Rattle.std.proofs.lemmas.List.FromFn.{map-range_with_len_more, length-range_with_len, get_or-range_with_len}
use Rattle.cg_ranges.specs.Runs.{with_cell, runs_of, IsRunOf}

-- a cell behind these runs
abbrev then_cell : List (ℕ × ℕ) → ℕ → List (ℕ × ℕ)
then_cell [] cell = (cell, cell) ∷ []
then_cell (run ∷ []) cell = cond (eqb cell (run.1 + 1)) ((run.0, cell) ∷ []) (run ∷ (cell, cell) ∷ [])
then_cell (run ∷ next ∷ others) cell = run ∷ then_cell (next ∷ others) cell

by_tests : (first cell : ℕ) (run : ℕ × ℕ) (a b : Bool) → eqb cell (run.1 + 1) ≡ a → eqb run.0 (first + 1) ≡ b →
    with_cell first (then_cell (run ∷ []) cell) ≡ then_cell (with_cell first (run ∷ [])) cell
by_tests first cell run true true d e = rw (d, e, d) refl
by_tests first cell run true false d e = rw (d, e, d) refl
by_tests first cell run false true d e = rw (d, e, d) refl
by_tests first cell run false false d e = rw (d, e, d) refl

by_test : (first cell : ℕ) (run next : ℕ × ℕ) (others : List (ℕ × ℕ)) (b : Bool) → eqb run.0 (first + 1) ≡ b →
    with_cell first (then_cell (run ∷ next ∷ others) cell) ≡ then_cell (with_cell first (run ∷ next ∷ others)) cell
by_test first cell run next others true e = rw e refl
by_test first cell run next others false e = rw e refl

-- a cell in front and one behind
both_ends : (first cell : ℕ) (runs : List (ℕ × ℕ)) → with_cell first (then_cell runs cell) ≡ then_cell (with_cell first runs) cell
both_ends first cell [] = refl
both_ends first cell (run ∷ []) = by_tests first cell run (eqb cell (run.1 + 1)) (eqb run.0 (first + 1)) refl refl
both_ends first cell (run ∷ next ∷ others) = by_test first cell run next others (eqb run.0 (first + 1)) refl

runs_of-then : (cells : List ℕ) (cell : ℕ) → runs_of (cells ++ cell ∷ []) ≡ then_cell (runs_of cells) cell
runs_of-then [] cell = refl
runs_of-then (first ∷ cells) cell = ap (with_cell first) (runs_of-then cells cell) ∙ both_ends first cell (runs_of cells)

then_cell-joins : (runs : List (ℕ × ℕ)) (cell i : ℕ) (d : ℕ × ℕ) → i + 1 ≡ length runs → (get_or runs i d).1 + 1 ≡ cell →
    set runs i ((get_or runs i d).0, cell) ≡ then_cell runs cell
then_cell-joins [] cell i d last e = absurd (omega arith)
then_cell-joins (run ∷ []) cell zero d last e = rw (eq-eqb cell (run.1 + 1) (sym e)) refl
then_cell-joins (run ∷ []) cell (suc i) d last e = absurd (omega arith)
then_cell-joins (run ∷ next ∷ others) cell zero d last e = absurd (omega arith)
then_cell-joins (run ∷ next ∷ others) cell (suc i) d last e =
    ap (λ (runs : List (ℕ × ℕ)). run ∷ runs) (then_cell-joins (next ∷ others) cell i d (omega arith) e)

then_cell-begins : (runs : List (ℕ × ℕ)) (cell : ℕ) → ((i : ℕ) (d : ℕ × ℕ) → i + 1 ≡ length runs → (get_or runs i d).1 + 1 ≡ cell → ⊥) →
    runs ++ (cell, cell) ∷ [] ≡ then_cell runs cell
then_cell-begins [] cell apart = refl
then_cell-begins (run ∷ []) cell apart =
    rw (ne_eqb cell (run.1 + 1) (λ e. apart 0 run (omega arith) (sym e))) refl
then_cell-begins (run ∷ next ∷ others) cell apart =
    ap (λ (runs : List (ℕ × ℕ)). run ∷ runs)
    (then_cell-begins (next ∷ others) cell (λ i d last e. apart (suc i) d (omega arith) e))

-- one more cell lengthens the last run
pub runs_of-joins : (cells : List ℕ) (runs : List (ℕ × ℕ)) (cell i : ℕ) (d : ℕ × ℕ) → runs ≡ runs_of cells → i + 1 ≡ length runs →
    (get_or runs i d).1 + 1 ≡ cell → set runs i ((get_or runs i d).0, cell) ≡ runs_of (cells ++ cell ∷ [])
runs_of-joins cells runs cell i d is last e =
    then_cell-joins runs cell i d last e ∙ ap (λ (r : List (ℕ × ℕ)). then_cell r cell) is ∙ sym (runs_of-then cells cell)

-- or begins one
pub runs_of-begins : (cells : List ℕ) (runs : List (ℕ × ℕ)) (cell : ℕ) → runs ≡ runs_of cells →
    ((i : ℕ) (d : ℕ × ℕ) → i + 1 ≡ length runs → (get_or runs i d).1 + 1 ≡ cell → ⊥) →
    runs ++ (cell, cell) ∷ [] ≡ runs_of (cells ++ cell ∷ [])
runs_of-begins cells runs cell is apart =
    then_cell-begins runs cell apart ∙ ap (λ (r : List (ℕ × ℕ)). then_cell r cell) is ∙ sym (runs_of-then cells cell)

within_by : (n cell : ℕ) (run : ℕ × ℕ) (others : List (ℕ × ℕ)) (b : Bool) → eqb run.0 (cell + 1) ≡ b → cell < n →
    All (IsRunOf n) (run ∷ others) → All (IsRunOf n) (with_cell cell (run ∷ others))
within_by n cell run others true e less all =
    let head : IsRunOf n run = All-head (IsRunOf n) run others all in
    let same : run.0 ≡ cell + 1 = eqb-true run.0 (cell + 1) e in
    let longer : IsRunOf n (cell, run.1) = record { ordered = omega (arith, head.ordered); within = head.within } in
    rw e (All-cons (IsRunOf n) (cell, run.1) others longer (All-tail (IsRunOf n) run others all))
within_by n cell run others false e less all =
    let alone : IsRunOf n (cell, cell) = record { ordered = omega arith; within = less } in
    rw e (All-cons (IsRunOf n) (cell, cell) (run ∷ others) alone all)

with_cell-within : (n cell : ℕ) (runs : List (ℕ × ℕ)) → cell < n → All (IsRunOf n) runs → All (IsRunOf n) (with_cell cell runs)
with_cell-within n cell [] less all =
    let alone : IsRunOf n (cell, cell) = record { ordered = omega arith; within = less } in
    All-cons (IsRunOf n) (cell, cell) [] alone (All-nil (IsRunOf n))
with_cell-within n cell (run ∷ others) less all = within_by n cell run others (eqb run.0 (cell + 1)) refl less all

-- the ends of runs are cells
pub runs_of-within : (n : ℕ) (cells : List ℕ) → All (λ cell. cell < n) cells → All (IsRunOf n) (runs_of cells)
runs_of-within n [] all = All-nil (IsRunOf n)
runs_of-within n (cell ∷ cells) all =
    with_cell-within n cell (runs_of cells) (All-head (λ c. c < n) cell cells all)
    (runs_of-within n cells (All-tail (λ c. c < n) cell cells all))

-- the cells that pass, one more cell on
range_more : (n : ℕ) → range_with_len 0 (n + 1) ≡ range_with_len 0 n ++ n ∷ []
range_more n =
    sym (map-id (range_with_len 0 (n + 1))) ∙ map-range_with_len_more (λ c. c) 0 n n (zero-add n)
    ∙ ap (λ (cells : List ℕ). cells ++ n ∷ []) (map-id (range_with_len 0 n))

pub filter-range_more : (p : ℕ → Bool) (n : ℕ) →
    filter p (range_with_len 0 (n + 1)) ≡ filter p (range_with_len 0 n) ++ cond (p n) (n ∷ []) []
filter-range_more p n = ap (filter p) (range_more n) ∙ filter-append p (range_with_len 0 n) (n ∷ [])

pub filter-range_yes : (p : ℕ → Bool) (n : ℕ) → p n ≡ true → filter p (range_with_len 0 (n + 1)) ≡ filter p (range_with_len 0 n) ++ n ∷ []
filter-range_yes p n pass = filter-range_more p n ∙ ap (λ (b : Bool). filter p (range_with_len 0 n) ++ cond b (n ∷ []) []) pass

pub filter-range_no : (p : ℕ → Bool) (n : ℕ) → p n ≡ false → filter p (range_with_len 0 (n + 1)) ≡ filter p (range_with_len 0 n)
filter-range_no p n fail =
    filter-range_more p n ∙ ap (λ (b : Bool). filter p (range_with_len 0 n) ++ cond b (n ∷ []) []) fail ∙ append-nil (filter p (range_with_len 0 n))

pub range-within : (n : ℕ) → All (λ cell. cell < n) (range_with_len 0 n)
range-within n =
    All-from_get_or (λ cell. cell < n) (range_with_len 0 n) 0
    (λ i less. let below : i < n = omega (arith, length-range_with_len 0 n) in omega (arith, get_or-range_with_len 0 n i 0 below))

pub filter-within : (p : ℕ → Bool) (n : ℕ) → All (λ cell. cell < n) (filter p (range_with_len 0 n))
filter-within p n = All-filter p (λ cell. cell < n) (range_with_len 0 n) (range-within n)
