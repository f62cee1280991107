-- The pairs of a row.
use Rattle.std.proofs.Common.{◌≡◌, ℕ, ◌+◌, ◌*◌, ◌^◌, ◌<◌, ◌≤◌, Bool, true, false, eqb, ◌⊎◌, List, [], ◌∷◌, length, map, take, get_or, Some, None, inl, inr, arith, refl}
use Rattle.std.specs.List.{All, list_all, sum_by}
use Rattle.std.specs.Option.{IfSome}
use Rattle.std.proofs.lemmas.Bool.{cases_eq, eqb-true, eq-eqb}
use Rattle.std.proofs.lemmas.List.{get_or-map, length-map, take_all}
use Rattle.std.proofs.lemmas.List.Elements.{All-map}
use Rattle.std.proofs.lemmas.List.Sums.{AllPass-from_list_all, list_all-from_AllPass, sum_by-cons}
use Rattle.cg_enc.specs.Enclosure.{Enclosure, exact_zero, IsEnclosure, IsZero, HasLoss}
use Rattle.cg_enc.specs.Rounding.{ppm_above}
use Rattle.cg_enc.proofs.Shares.{Shared, ppm-ordered}
use Rattle.cg_table.specs.Losses.{greatest_loss, greatest_reach}
use Rattle.cg_table.proofs.LossLemmas.{greatest_loss-HasLoss, HasLoss-more}
use Rattle.cg_table.proofs.ReachLemmas.{greatest_reach-IsExponent}
use Rattle.cg_table.specs.Table.{EnclosesRow}
use Rattle.cg_marginal.specs.Finished.{whole_of, ppm_pair, finished, ArePartsOf}
use Rattle.cg_marginal.specs.Pairs.{IsPair, ArePairs}
use Rattle.cg_marginal.proofs.WholeLemmas.{whole-IsZero, whole-IsFirm, whole-HasLoss, part-IsEnclosure, upper-reach, entry-parts, sum_by-total}
use Rattle.cg_marginal.proofs.WidthLemmas.{ppm-close}

-- none where all are zero, and only there
pub finished-impossible : (row : List Enclosure) → All IsZero row → finished row ≡ None
unfolding finished
finished-impossible row zeros =
    let all : list_all (λ entry. eqb entry.hi 0) row ≡ true = list_all-from_AllPass (λ entry. eqb entry.hi 0) row (λ i d less. eq-eqb (get_or row i d).hi 0 (zeros i d less)) in
    rw all refl

by_test : (row : List Enclosure) (b : Bool) → list_all (λ entry. eqb entry.hi 0) row ≡ b → (All IsZero row) ⊎ (finished row ≡ Some (map (ppm_pair (whole_of row)) row))
unfolding finished
by_test row true e = inl (λ i d less. eqb-true (get_or row i d).hi 0 (AllPass-from_list_all (λ entry. eqb entry.hi 0) row e i d less))
by_test row false e = inr (rw e refl)

pub finished-pairs : (row : List Enclosure) → All IsEnclosure row → 0 < (whole_of row).hi → finished row ≡ Some (map (ppm_pair (whole_of row)) row)
finished-pairs row v some =
    elim (by_test row (list_all (λ entry. eqb entry.hi 0) row) refl) [
      | inl zeros ↦ absurd (omega (arith, some, (whole-IsZero row v).1 zeros))
      | inr pairs ↦ pairs
    ]

pub impossible-finished : (row : List Enclosure) → finished row ≡ None → All IsZero row
impossible-finished row none =
    elim (by_test row (list_all (λ entry. eqb entry.hi 0) row) refl) [
      | inl zeros ↦ zeros
      | inr pairs ↦ absurd (cc)
    ]

-- a row whose parts are told
pub record IsTold (row : List Enclosure) : Type 0 where
  pub valid : All IsEnclosure row
  pub few : length row ≤ 512
  pub loss : greatest_loss row < 2 ^ 41
  pub some : 0 < (whole_of row).hi

IsPair-entry : (row : List Enclosure) → IsTold row → (i : ℕ) (d : Enclosure) → i < length row → IsPair (ppm_pair (whole_of row) (get_or row i d))
IsPair-entry row told i d less =
    let whole = whole_of row in
    let entry = get_or row i d in
    let k : ℕ = greatest_loss row + 3 * length row in
    let firm = whole-IsFirm row told.valid told.few told.loss told.some in
    let s : Shared entry whole = record { part = told.valid i d less; whole = part-IsEnclosure row (length row) told.valid (omega arith); firm = firm } in
    let ordered = ppm-ordered entry whole s in
    let small : 1000000 * (2 * k) ≤ 2 ^ 62 = omega (arith, told.few, told.loss) in
    let lost : HasLoss entry k = HasLoss-more entry (greatest_loss row) k (omega arith) (greatest_loss-HasLoss row i d less) in
    record { ordered = ordered.0; whole = ordered.1; close = ppm-close entry whole k s lost (whole-HasLoss row told.valid) small }

sum_by-map : {X Y : Type 0} (f : Y → ℕ) (g : X → Y) (xs : List X) → sum_by f (map g xs) ≡ sum_by (λ x. f (g x)) xs
sum_by-map f g [] = refl
sum_by-map f g (x ∷ xs) = rw (sum_by-cons f (g x) (map g xs), sum_by-cons (λ x. f (g x)) x xs, sum_by-map f g xs) refl

pub ArePairs-told : (row : List Enclosure) → IsTold row → ArePairs (map (ppm_pair (whole_of row)) row)
ArePairs-told row told =
    let firm = whole-IsFirm row told.valid told.few told.loss told.some in
    let reach = upper-reach row (greatest_reach row * 2 ^ 31) told.valid firm (λ i less. (greatest_reach-IsExponent row i exact_zero less).1) in
    record {
      each = All-map IsPair (ppm_pair (whole_of row)) row (IsPair-entry row told);
      reach = rw (sum_by-map (λ pair. pair.1) (ppm_pair (whole_of row)) row, sum_by-total (λ entry. ppm_above entry (whole_of row)) row exact_zero) reach;
    }

-- the same at the end of a loop over the cells
pub ArePairs-made : (row : List Enclosure) (whole : Enclosure) (index : ℕ) (pairs : List (ℕ × ℕ)) → IsTold row → whole ≡ whole_of row → length row ≤ index →
    pairs ≡ map (ppm_pair whole) (take index row) → ArePairs pairs
ArePairs-made row whole index pairs told e past made = rw (made, e, take_all index row past) (ArePairs-told row told)

pub ArePartsOf-told : (row : List Enclosure) (x : ℕ → ℕ) (d : ℕ) → IsTold row → 0 < d → EnclosesRow row x d → ArePartsOf x (length row) (map (ppm_pair (whole_of row)) row)
ArePartsOf-told row x d told some h =
    let firm = whole-IsFirm row told.valid told.few told.loss told.some in
    record {
      each = length-map row (ppm_pair (whole_of row));
      lower = λ cell less. rw (get_or-map (ppm_pair (whole_of row)) row cell exact_zero (0, 0) less) (entry-parts row x d cell told.valid firm some h less).0;
      upper = λ cell less. rw (get_or-map (ppm_pair (whole_of row)) row cell exact_zero (0, 0) less) (entry-parts row x d cell told.valid firm some h less).1;
    }

pub finished-told : (row : List Enclosure) (x : ℕ → ℕ) (d : ℕ) → All IsEnclosure row → length row ≤ 512 → greatest_loss row < 2 ^ 41 → 0 < d → EnclosesRow row x d →
    IfSome (finished row) (ArePartsOf x (length row))
finished-told row x d v few loss some h =
    elim (cases_eq (whole_of row).hi 0) [
      | inl z ↦ rw (finished-impossible row ((whole-IsZero row v).0 z)) _
      | inr n ↦
          let full : 0 < (whole_of row).hi = omega arith in
          rw (finished-pairs row v full) (ArePartsOf-told row x d (record { valid = v; few = few; loss = loss; some = full }) some h)
    ]

pub finished-length : (row : List Enclosure) → IfSome (finished row) (λ pairs. length pairs ≡ length row)
finished-length row =
    elim (by_test row (list_all (λ entry. eqb entry.hi 0) row) refl) [
      | inl zeros ↦ rw (finished-impossible row zeros) _
      | inr pairs ↦ rw pairs (length-map row (ppm_pair (whole_of row)))
    ]
