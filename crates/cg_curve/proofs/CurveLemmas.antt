-- Good rows of a whole file are a curve, the oldest first.
use Rattle.std.proofs.Common.{◌≡◌, ℕ, zero, suc, ◌<◌, ◌≤◌, ◌⊎◌, inl, inr, Bool, true, false, cond, List, [], ◌∷◌, length, refl, sym, subst, arith, get_or}
use Rattle.std.specs.Prelude.{reverse, All, int_lt}
use Rattle.std.proofs.lemmas.List.{reverse-reverse, length-reverse}
use Rattle.std.proofs.lemmas.List.Elements.{All-append}
use Rattle.cg_meaning.specs.Curve.{Row}
use Rattle.cg_curve.specs.Lines.{data_lines}
use Rattle.cg_curve.specs.Rows.{SayRows, IsRowInRange, EachNext, IsOlder, IsYounger, IsCurve}
use Rattle.cg_curve.specs.File.{AreInOrder, AreGood, IsCurveFile, SaysTooFew}
use Rattle.cg_curve.specs.Reading.{do_rise, oldest_first}
use Rattle.cg_curve.proofs.RowLemmas.{reverse_cons, EachNext-reverse, near_reverse, lt_yes, lt_no, never, never_both}

one_more : (P : Row → Type 0) (row : Row) → P row → (k : ℕ) (d : Row) → k < length (row ∷ []) → P (get_or (row ∷ []) k d)
one_more P row h zero d lt = h
one_more P row h (suc k) d lt = absurd (omega arith)

behind_first : (P : Row → Type 0) (row : Row) (rows : List Row) → All P (row ∷ rows) → All P rows
behind_first P row rows h = λ k d lt. h (suc k) d (omega arith)

pub All-reverse : (P : Row → Type 0) (rows : List Row) → All P rows → All P (reverse rows)
All-reverse P [] h = h
All-reverse P (row ∷ rows) h =
    subst (λ (rs : List Row). All P rs) (sym (reverse_cons row rows))
    (All-append P (reverse rows) (row ∷ []) (All-reverse P rows (behind_first P row rows h)) (one_more P row (h 0 row (omega arith))))

falling : (rows : List Row) → AreGood rows → 2 ≤ length rows → EachNext IsOlder rows → IsCurve rows
falling rows good some falls = record { in_range = good.in_range; order = falls; near = good.near; some = some; few = good.few }

rising : (rows : List Row) → AreGood rows → 2 ≤ length rows → EachNext IsYounger rows → IsCurve (reverse rows)
rising rows good some rises = record {
  in_range = All-reverse IsRowInRange rows good.in_range;
  order = EachNext-reverse IsYounger rows rises;
  near = near_reverse rows good.near;
  some = omega (arith, length-reverse rows, some);
  few = omega (arith, length-reverse rows, good.few);
}

curve_by : (first second : Row) (rows : List Row) (rise : Bool) → int_lt first.year second.year ≡ rise → AreGood (first ∷ second ∷ rows) → 2 ≤ length (first ∷ second ∷ rows)
    → AreInOrder (first ∷ second ∷ rows) → IsCurve (cond rise (reverse (first ∷ second ∷ rows)) (first ∷ second ∷ rows))
curve_by first second rows true e good some (inl falls) = absurd (never_both first.year second.year (lt_yes first.year second.year e) falls.0)
curve_by first second rows true e good some (inr rises) = rising (first ∷ second ∷ rows) good some rises
curve_by first second rows false e good some (inl falls) = falling (first ∷ second ∷ rows) good some falls
curve_by first second rows false e good some (inr rises) = absurd (never first.year second.year rises.0 (lt_no first.year second.year e))

-- good rows that aren't too few are a curve
pub curve_of_good : (rows : List Row) → AreGood rows → 2 ≤ length rows → IsCurve (oldest_first rows)
curve_of_good [] good some = absurd (omega arith)
curve_of_good (first ∷ []) good some = absurd (omega arith)
curve_of_good (first ∷ second ∷ rows) good some = curve_by first second rows (int_lt first.year second.year) refl good some good.order

said_by : (bytes : List ℕ) (rows : List Row) (rise : Bool) → SayRows (data_lines bytes) rows
    → SayRows (data_lines bytes) (cond rise (reverse rows) rows) ⊎ SayRows (data_lines bytes) (reverse (cond rise (reverse rows) rows))
said_by bytes rows true said = inr (subst (λ (rs : List Row). SayRows (data_lines bytes) rs) (sym (reverse-reverse rows)) said)
said_by bytes rows false said = inl said

-- the bytes that say them are its file
pub file_of_good : (bytes : List ℕ) (rows : List Row) → SayRows (data_lines bytes) rows → AreGood rows → 2 ≤ length rows → IsCurveFile bytes (oldest_first rows)
file_of_good bytes rows said good some = record { is_curve = curve_of_good rows good some; rows = said_by bytes rows (do_rise rows) said }

pub too_few : (bytes : List ℕ) (rows : List Row) → SayRows (data_lines bytes) rows → AreGood rows → length rows < 2 → SaysTooFew bytes
too_few bytes rows said good few = record { rows = rows; said = said; good = good; too_few = few }
