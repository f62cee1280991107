-- The row of weights encloses every admitted list, of which there are some.
use Rattle.std.proofs.Common.{◌≡◌, ℕ, ◌+◌, ◌*◌, ◌^◌, ◌<◌, Bool, true, false, cond, IsFalse, List, [], ◌∷◌, ◌++◌, length, map, Option, Some, None, refl, sym, subst, ◌∙◌, arith, ℤ, All, lit<}
use Rattle.std.specs.List.{range_with_len}
use Rattle.std.specs.Ordering.{int_eq}
use Rattle.std.proofs.lemmas.List.FromFn.{get_or-map-range_with_len, length-map-range_with_len, map-range_with_len_more}
use Rattle.cg_enc.specs.Enclosure.{Enclosure, exact_zero, IsEnclosure, IsExponent, Encloses, HasLoss}
use Rattle.cg_enc.specs.Rounding.{of_whole}
use Rattle.cg_enc.proofs.WholeNumbers.{zero-encloses, zero-IsEnclosure, of_whole_encloses, of_whole_exact, of_whole-exponent}
use Rattle.cg_table.specs.Table.{row_entry}
use Rattle.cg_table.proofs.LossLemmas.{greatest_loss-least}
use Rattle.cg_table.proofs.ReachLemmas.{greatest_reach-least}
use Rattle.cg_meaning.specs.Tree.{Dating, Free, Exact, Normal, Carbon}
use Rattle.cg_meaning.specs.Scene.{Scene, admits, year_of}
use Rattle.cg_meaning.specs.Weights.{Distance, distance_of, IsWeightAt, AreWeights, IsAdmitted}
use Rattle.cg_meaning.specs.Cover.{IsCovered}
use Rattle.cg_meaning.specs.Sums.{sum_below}
use Rattle.cg_model.specs.Limits.{IsInRange}
use Rattle.cg_like.specs.Likelihood.{likelihood_or, weight_at, weights_of, EnclosesWeights, IsLikelihood, HasWeights}
use Rattle.cg_like.proofs.LikelihoodLemmas.{IsSmall, whole-IsFull, more_loss, more_exponent, likelihood-IsSmall, likelihood-encloses}
use Rattle.cg_like.proofs.ExistenceLemmas.{IsMeasuredAt, enough_at, weight_for_at, weight_for_at-IsWeightAt, each_below_sum}
use Rattle.cg_like.proofs.MeasuredLemmas.{IsOnCurve, AreMeasured, normal_measured, carbon_measured_all}

-- ---- the entries of a row

entry-is : (f : ℕ → Enclosure) (cells cell : ℕ) → cell < cells → row_entry (map f (range_with_len 0 cells)) cell ≡ f cell
entry-is f cells cell less = get_or-map-range_with_len f 0 cells cell cell exact_zero less (omega arith)

within : (f : ℕ → Enclosure) (cells cell : ℕ) → cell < length (map f (range_with_len 0 cells)) → cell < cells
within f cells cell less = omega (arith, length-map-range_with_len f 0 cells)

All-entries : (P : Enclosure → Type 0) (f : ℕ → Enclosure) (cells : ℕ) → ((cell : ℕ) → cell < cells → P (f cell)) → All P (map f (range_with_len 0 cells))
All-entries P f cells h = λ i d less.
    let inside = within f cells i less in
    subst P (sym (get_or-map-range_with_len f 0 cells i i d inside (omega arith))) (h i inside)

-- what a row of small entries is, once it is known what they enclose
small_row : (scene : Scene) (dating : Dating) → ((cell : ℕ) → cell < scene.grid.cells → IsSmall (weight_at scene dating cell))
    → ((cell : ℕ) → cell < scene.grid.cells → IsFalse (admits scene.grid dating cell) → weight_at scene dating cell ≡ exact_zero)
    → ((weights : ℕ → ℕ) → IsAdmitted scene dating weights → EnclosesWeights scene dating (weights_of scene dating) weights)
    → IsLikelihood scene dating (weights_of scene dating)
small_row scene dating small none encloses =
    let f : ℕ → Enclosure = weight_at scene dating in
    let cells : ℕ = scene.grid.cells in
    record {
      each = length-map-range_with_len f 0 cells;
      entries = record {
        valid = All-entries IsEnclosure f cells (λ cell less. (small cell less).valid);
        near = All-entries (λ e. IsExponent (2 ^ 60) e.exp) f cells (λ cell less. more_exponent (f cell).exp (2 ^ 31) (2 ^ 60) (omega arith) (small cell less).exponent);
      };
      zero = λ cell less out. entry-is f cells cell less ∙ none cell less out;
      encloses = encloses;
      loss = greatest_loss-least (weights_of scene dating) (9 * 2 ^ 30 + 16) (All-entries (λ e. HasLoss e (9 * 2 ^ 30 + 16)) f cells (λ cell less. (small cell less).loss));
      reach = greatest_reach-least (weights_of scene dating) 1 (All-entries (λ e. IsExponent (1 * 2 ^ 31) e.exp) f cells (λ cell less. (small cell less).exponent));
    }

-- a row encloses weights where each entry does
encloses_weights : (scene : Scene) (dating : Dating) (weights : ℕ → ℕ) (m : ℕ) → 0 < m
    → ((cell : ℕ) → cell < scene.grid.cells → Encloses (weight_at scene dating cell) (cond (admits scene.grid dating cell) (weights cell) 0) m)
    → EnclosesWeights scene dating (weights_of scene dating) weights
encloses_weights scene dating weights m some h = record {
  multiplier = m;
  some = some;
  encloses = record {
    at = λ cell less.
        let inside = within (weight_at scene dating) scene.grid.cells cell less in
        rw (entry-is (weight_at scene dating) scene.grid.cells cell inside) (h cell inside);
  };
}

-- ---- datings without an error

one_small : IsSmall (of_whole 1)
one_small = record {
  valid = (whole-IsFull 1 (lit< tt) (lit< tt)).valid;
  loss = more_loss (of_whole 1) 0 (9 * 2 ^ 30 + 16) (omega arith) (of_whole_exact 1 (lit< tt));
  exponent = more_exponent (of_whole 1).exp 66 (2 ^ 31) (omega arith) (of_whole-exponent 1 (lit< tt));
}

zero_small : IsSmall exact_zero
zero_small = record { valid = zero-IsEnclosure; loss = omega arith; exponent = (omega arith, omega arith) }

one_encloses : (w : ℕ) → w ≡ 1 → Encloses (of_whole 1) w 1
one_encloses w e = rw e (of_whole_encloses 1 (lit< tt))

-- 1 where the dating admits the cell, else 0
unit_small : (b : Bool) → IsSmall (cond b (of_whole 1) exact_zero)
unit_small true = one_small
unit_small false = zero_small

unit_zero : (b : Bool) → IsFalse b → cond b (of_whole 1) exact_zero ≡ exact_zero
unit_zero true out = absurd (cc)
unit_zero false out = refl

unit_encloses : (b : Bool) (w : ℕ) → w ≡ 1 → Encloses (cond b (of_whole 1) exact_zero) (cond b w 0) 1
unit_encloses true w e = one_encloses w e
unit_encloses false w e = zero-encloses 0 1 refl

free_row : (scene : Scene) → IsLikelihood scene Free (weights_of scene Free)
free_row scene =
    small_row scene Free (λ cell less. one_small) (λ cell less out. absurd (cc))
    (λ weights ones. encloses_weights scene Free weights 1 (lit< tt) (λ cell less. one_encloses (weights cell) (ones cell less)))

exact_row : (scene : Scene) (year : ℤ) → IsLikelihood scene (Exact year) (weights_of scene (Exact year))
exact_row scene year =
    small_row scene (Exact year) (λ cell less. unit_small (int_eq (year_of scene.grid cell) year)) (λ cell less out. unit_zero (int_eq (year_of scene.grid cell) year) out)
    (λ weights ones. encloses_weights scene (Exact year) weights 1 (lit< tt) (λ cell less. unit_encloses (int_eq (year_of scene.grid cell) year) (weights cell) (ones cell less)))

-- ---- datings with an error

measured_small : (found : Option Distance) → IsMeasuredAt found → IsSmall (likelihood_or found)
measured_small None m = absurd m
measured_small (Some d) m = likelihood-IsSmall d m

measured_encloses : (found : Option Distance) (m w : ℕ) → IsMeasuredAt found → IsWeightAt m w found → Encloses (likelihood_or found) w m
measured_encloses None m w measured is = absurd measured
measured_encloses (Some d) m w measured is = likelihood-encloses d m w measured is

normal_row : (scene : Scene) (year error : ℤ) → AreMeasured scene (Normal year error) → IsLikelihood scene (Normal year error) (weights_of scene (Normal year error))
normal_row scene year error measured =
    let d : Dating = Normal year error in
    small_row scene d (λ cell less. measured_small (distance_of scene d cell) (measured cell less)) (λ cell less out. absurd (cc))
    (λ weights are. encloses_weights scene d weights are.multiplier are.some
    (λ cell less. measured_encloses (distance_of scene d cell) are.multiplier (weights cell) (measured cell less) (are.each cell less)))

carbon_row : (scene : Scene) (age error : ℤ) → AreMeasured scene (Carbon age error) → IsLikelihood scene (Carbon age error) (weights_of scene (Carbon age error))
carbon_row scene age error measured =
    let d : Dating = Carbon age error in
    small_row scene d (λ cell less. measured_small (distance_of scene d cell) (measured cell less)) (λ cell less out. absurd (cc))
    (λ weights are. encloses_weights scene d weights are.multiplier are.some
    (λ cell less. measured_encloses (distance_of scene d cell) are.multiplier (weights cell) (measured cell less) (are.each cell less)))

-- ---- some weights are admitted

some_weights : (scene : Scene) (dating : Dating) → AreMeasured scene dating → (weights : ℕ → ℕ) × AreWeights scene dating weights
some_weights scene dating measured =
    let found : ℕ → Option Distance = distance_of scene dating in
    let m : ℕ = sum_below scene.grid.cells (λ cell. enough_at (found cell)) + 1 in (
      λ cell. weight_for_at m (found cell),
      record {
        multiplier = m;
        some = omega arith;
        each = λ cell less. weight_for_at-IsWeightAt m (found cell) (measured cell less) (omega (arith, each_below_sum scene.grid.cells (λ cell. enough_at (found cell)) cell less));
      },
    )

-- ---- all datings

pub weights-IsLikelihood : (scene : Scene) (dating : Dating) → IsOnCurve scene.curve dating → IsInRange dating → IsCovered scene dating → IsLikelihood scene dating (weights_of scene dating)
weights-IsLikelihood scene Free curve ranged covered = free_row scene
weights-IsLikelihood scene (Exact year) curve ranged covered = exact_row scene year
weights-IsLikelihood scene (Normal year error) curve ranged covered = normal_row scene year error (normal_measured scene year error ranged covered)
weights-IsLikelihood scene (Carbon age error) curve ranged covered = carbon_row scene age error (carbon_measured_all scene age error curve ranged covered)

pub weights-HasWeights : (scene : Scene) (dating : Dating) → IsOnCurve scene.curve dating → IsInRange dating → IsCovered scene dating → HasWeights scene dating
weights-HasWeights scene Free curve ranged covered = record { weights = λ cell. 1; admitted = λ cell less. refl }
weights-HasWeights scene (Exact year) curve ranged covered = record { weights = λ cell. 1; admitted = λ cell less. refl }
weights-HasWeights scene (Normal year error) curve ranged covered =
    let w = some_weights scene (Normal year error) (normal_measured scene year error ranged covered) in record { weights = w.0; admitted = w.1 }
weights-HasWeights scene (Carbon age error) curve ranged covered =
    let w = some_weights scene (Carbon age error) (carbon_measured_all scene age error curve ranged covered) in record { weights = w.0; admitted = w.1 }

-- ---- as the code finds it

-- one more cell
pub row_more : (scene : Scene) (dating : Dating) (row : List Enclosure) (e : Enclosure) (cell : ℕ) → row ≡ map (weight_at scene dating) (range_with_len 0 cell)
    → e ≡ weight_at scene dating cell → row ++ e ∷ [] ≡ map (weight_at scene dating) (range_with_len 0 (cell + 1))
row_more scene dating row e cell is this = rw (is, this) (sym (map-range_with_len_more (weight_at scene dating) 0 cell cell (omega arith)))

-- where there is no distance, the weight is 1 at the cells that the dating admits, and 0 at others
pub unit_weight : (scene : Scene) (dating : Dating) (cell : ℕ) → IsOnCurve scene.curve dating → IsInRange dating → IsCovered scene dating → cell < scene.grid.cells
    → None ≡ distance_of scene dating cell → weight_at scene dating cell ≡ cond (admits scene.grid dating cell) (of_whole 1) exact_zero
unit_weight scene Free cell curve ranged covered less none = refl
unit_weight scene (Exact year) cell curve ranged covered less none = refl
unit_weight scene (Normal year error) cell curve ranged covered less none = absurd (cc)
unit_weight scene (Carbon age error) cell curve ranged covered less none =
    absurd (subst (λ (found : Option Distance). IsMeasuredAt found) (sym none) (carbon_measured_all scene age error curve ranged covered cell less))
