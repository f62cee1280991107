-- Sums over the rows of a table, one for each cell, as they grow by a row at a time.
use Rattle.std.proofs.Common.{◌≡◌, ℕ, ◌+◌, ◌-◌, ◌*◌, ◌^◌, ◌<◌, ◌≤◌, List, length, replicate, min, get_or, inl, inr, arith, refl, ap, ◌∙◌, sym, subst}
use Rattle.std.specs.Prelude.{slice_set}
use Rattle.std.proofs.lemmas.Bool.{cases_eq, cases_lt}
use Rattle.std.proofs.lemmas.List.{get_or-set_same, get_or-set_other, get_or-replicate, length-replicate, length-set}
use Rattle.cg_enc.specs.Enclosure.{Enclosure, exact_zero, IsEnclosure, IsExponent}
use Rattle.cg_enc.specs.Rounding.{plus}
use Rattle.cg_table.specs.Sums.{sum_of}
use Rattle.cg_table.proofs.ReachLemmas.{IsExponent-more}
use Rattle.cg_table.proofs.WithinLemmas.{IsWithin, within_more, sum-within}
use Rattle.cg_context.specs.Columns.{column, AreColumns}
use Rattle.cg_context.specs.Formulas.{row_by}
use Rattle.cg_context.proofs.RowLemmas.{is-row_by}
use Rattle.cg_context.proofs.TermLemmas.{plus-nothing, sum_of-more, sum_of-zeros}

-- row a has been added up to cell y, without it
pub record AreColumnsTo (f : ℕ → ℕ → Enclosure) (cells own a y : ℕ) (sums : List Enclosure) : Type 0 where
  pub width : length sums ≡ cells
  pub done : (i : ℕ) → i < y → i < cells → get_or sums i exact_zero ≡ column f own (a + 1) i
  pub left : (i : ℕ) → y ≤ i → i < cells → get_or sums i exact_zero ≡ column f own a i

-- each term that counts is within bounds
abbrev pub TermsWithin : (ℕ → ℕ → Enclosure) → ℕ → ℕ → ℕ → ℕ → Type 0
TermsWithin f cells own k m = (a i : ℕ) → a < i + own → i < cells → IsWithin (f a i) k m

-- no row has been added
pub columns-none : (f : ℕ → ℕ → Enclosure) (cells own : ℕ) (sums : List Enclosure) → sums ≡ replicate cells exact_zero → AreColumns f cells own 0 sums
columns-none f cells own sums is =
    rw is (record {
      width = length-replicate cells exact_zero;
      each = λ i less.
          let none : min 0 (i + own) ≡ 0 = omega arith in
          get_or-replicate cells i exact_zero exact_zero less ∙ sym (ap (sum_of (λ k. f k i) 0) none);
    })

-- row a begins at the first cell that counts it
pub columns-begin : (f : ℕ → ℕ → Enclosure) (cells own a y : ℕ) (sums : List Enclosure) → y + own ≤ a + 1 → AreColumns f cells own a sums → AreColumnsTo f cells own a y sums
columns-begin f cells own a y sums start h = record {
  width = h.width;
  done = λ i low less.
      let same : min a (i + own) ≡ min (a + 1) (i + own) = omega arith in
      h.each i less ∙ ap (sum_of (λ k. f k i) 0) same;
  left = λ i le less. h.each i less;
}

-- one more cell of it
pub columns-more : (f : ℕ → ℕ → Enclosure) (cells own a y : ℕ) (sums : List Enclosure) (x : Enclosure) → a + 1 ≤ y + own → y < cells → AreColumnsTo f cells own a y sums →
    x ≡ plus (get_or sums y exact_zero) (f a y) → AreColumnsTo f cells own a (y + 1) (slice_set sums y x)
columns-more f cells own a y sums x counts inside h is = record {
  width = length-set sums y x ∙ h.width;
  done = λ i low less. elim (cases_eq i y) [
    | inl e ↦
        let was : min a (i + own) ≡ a = omega arith in
        let now : min (a + 1) (i + own) ≡ a + 1 = omega arith in
        let old : get_or sums y exact_zero ≡ sum_of (λ k. f k y) 0 a = subst (λ (j : ℕ). get_or sums j exact_zero ≡ sum_of (λ k. f k j) 0 a) e (h.left i (omega arith) less ∙ ap (sum_of (λ k. f k i) 0) was) in
        ap (λ (j : ℕ). get_or (slice_set sums y x) j exact_zero) e ∙ get_or-set_same sums y x exact_zero (omega (arith, h.width)) ∙ is
        ∙ sum_of-more (λ k. f k y) a (get_or sums y exact_zero) (f a y) old refl
        ∙ ap (λ (j : ℕ). sum_of (λ k. f k j) 0 (a + 1)) (sym e) ∙ ap (sum_of (λ k. f k i) 0) (sym now)
    | inr ne ↦ get_or-set_other sums y i x exact_zero (λ e. ne e) ∙ h.done i (omega arith) less
  ];
  left = λ i le less. get_or-set_other sums y i x exact_zero (λ e. absurd (omega arith)) ∙ h.left i (omega arith) less;
}

-- the sum of a cell lies within bounds
pub column-within : (f : ℕ → ℕ → Enclosure) (cells own k m a i : ℕ) → TermsWithin f cells own k m → i < cells → own ≤ 1 → IsWithin (column f own a i) (k + 3 * cells) (m + cells)
column-within f cells own k m a i h less one =
    let n : ℕ = min a (i + own) in
    let s = sum-within (λ k. f k i) k m 0 n (λ j short. h (0 + j) i (omega arith) less) in
    more (sum_of (λ k. f k i) 0 n) n (omega arith) s
  where
    more : (e : Enclosure) (n : ℕ) → n ≤ cells → IsWithin e (k + 3 * n) (m + n) → IsWithin e (k + 3 * cells) (m + cells)
    more e n le s = within_more e (k + 3 * n) (m + n) (k + 3 * cells) (m + cells) (omega arith) (omega arith) s

-- a term that is zero adds nothing
pub columns-passed : (f : ℕ → ℕ → Enclosure) (cells own a y k m : ℕ) (sums : List Enclosure) → a + 1 ≤ y + own → y < cells → own ≤ 1 → TermsWithin f cells own k m → f a y ≡ exact_zero →
    AreColumnsTo f cells own a y sums → AreColumnsTo f cells own a (y + 1) sums
columns-passed f cells own a y k m sums counts inside one within nothing h = record {
  width = h.width;
  done = λ i low less. elim (cases_eq i y) [
    | inl e ↦
        let was : min a (y + own) ≡ a = omega arith in
        let now : min (a + 1) (y + own) ≡ a + 1 = omega arith in
        let sum : Enclosure = column f own a y in
        let bare : sum ≡ sum_of (λ k. f k y) 0 a = ap (sum_of (λ k. f k y) 0) was in
        let next : sum ≡ sum_of (λ k. f k y) 0 (a + 1) =
        sym (plus-nothing sum (f a y) (column-within f cells own k m a y within inside one).valid nothing) ∙ sum_of-more (λ k. f k y) a sum (f a y) bare refl in
        subst (λ (j : ℕ). get_or sums j exact_zero ≡ column f own (a + 1) j) (sym e) (h.left y (omega arith) inside ∙ next ∙ ap (sum_of (λ k. f k y) 0) (sym now))
    | inr ne ↦ h.done i (omega arith) less
  ];
  left = λ i le less. h.left i (omega arith) less;
}

-- and it ends at the youngest
pub columns-end : (f : ℕ → ℕ → Enclosure) (cells own a y : ℕ) (sums : List Enclosure) → cells ≤ y → AreColumnsTo f cells own a y sums → AreColumns f cells own (a + 1) sums
columns-end f cells own a y sums all h = record {
  width = h.width;
  each = λ i less. h.done i (omega arith) less;
}

-- the sum at a cell may be added to
pub columns-near : (f : ℕ → ℕ → Enclosure) (cells own k m a y i : ℕ) (sums : List Enclosure) (e : Enclosure) → AreColumnsTo f cells own a y sums → TermsWithin f cells own k m → own ≤ 1 → m + cells ≤ 2 ^ 60 →
    y ≤ i → i < cells → e ≡ get_or sums i exact_zero → IsExponent (2 ^ 60) e.exp
columns-near f cells own k m a y i sums e h within one few le less is =
    rw (is ∙ h.left i le less) (IsExponent-more (column f own a i).exp (m + cells) (2 ^ 60) few (column-within f cells own k m a i within less one).near)

-- rows of zeros add nothing, so these are the sums over all that count
pub columns-all : (f : ℕ → ℕ → Enclosure) (cells own k m a : ℕ) (sums : List Enclosure) → TermsWithin f cells own k m → own ≤ 1 →
    ((b i : ℕ) → a ≤ b → b < i + own → i < cells → f b i ≡ exact_zero) → AreColumns f cells own a sums → sums ≡ row_by cells (λ i. sum_of (λ b. f b i) 0 (i + own))
columns-all f cells own k m a sums within one dead h = is-row_by cells (λ i. sum_of (λ b. f b i) 0 (i + own)) sums h.width
    (λ i less. h.each i less ∙ elim (cases_lt a (i + own)) [
      | inl short ↦
          let fewer : min a (i + own) ≡ a = omega arith in
          let rest : a + (i + own - a) ≡ i + own = omega arith in
          ap (sum_of (λ b. f b i) 0) fewer
          ∙ sym (sum_of-zeros (λ b. f b i) a (i + own - a)
          (λ j le. let all : min j (i + own) ≡ j = omega arith in subst (λ (n : ℕ). IsEnclosure (sum_of (λ b. f b i) 0 n)) all (column-within f cells own k m j i within less one).valid)
          (λ b le small. dead b i le (omega arith) less))
          ∙ ap (sum_of (λ b. f b i) 0) rest
      | inr long ↦
          let all : min a (i + own) ≡ i + own = omega arith in
          ap (sum_of (λ b. f b i) 0) all
    ])
