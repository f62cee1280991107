-- Rows that are written from the youngest cell down.
use Rattle.std.proofs.Common.{◌≡◌, ℕ, ◌+◌, ◌-◌, ◌<◌, ◌≤◌, List, length, get_or, inl, inr, arith, refl, ap, ◌∙◌, sym}
use Rattle.std.specs.Prelude.{slice_set}
use Rattle.std.proofs.lemmas.Bool.{cases_eq}
use Rattle.std.proofs.lemmas.List.{get_or-set_same, get_or-set_other, length-set}
use Rattle.cg_enc.specs.Enclosure.{Enclosure, exact_zero}

-- From `base` on stand cells a to the youngest, of which those from c on have what f gives. What stands before is as it was.
pub record AreFallen (f : ℕ → Enclosure) (cells a base c : ℕ) (old sums : List Enclosure) : Type 0 where
  pub width : length sums ≡ length old
  pub before : (i : ℕ) → i < base → get_or sums i exact_zero ≡ get_or old i exact_zero
  pub left : (i : ℕ) → i < base + (c - a) → get_or sums i exact_zero ≡ get_or old i exact_zero
  pub each : (d : ℕ) → c ≤ d → d < cells → get_or sums (base + (d - a)) exact_zero ≡ f d

-- none has been written
pub fallen-none : (f : ℕ → Enclosure) (cells a base c : ℕ) (old : List Enclosure) → cells ≤ c → AreFallen f cells a base c old old
fallen-none f cells a base c old le = record {
  width = refl;
  before = λ i less. refl;
  left = λ i less. refl;
  each = λ d high less. absurd (omega arith);
}

-- one more cell
pub fallen-more : (f : ℕ → Enclosure) (cells a base c j : ℕ) (old sums : List Enclosure) (x : Enclosure) → a ≤ c → c < cells → j ≡ base + (c - a) → j < length sums → x ≡ f c →
    AreFallen f cells a base (c + 1) old sums → AreFallen f cells a base c old (slice_set sums j x)
fallen-more f cells a base c j old sums x le less at inside is h = record {
  width = length-set sums j x ∙ h.width;
  before = λ i low. get_or-set_other sums j i x exact_zero (λ e. absurd (omega arith)) ∙ h.before i low;
  left = λ i low. get_or-set_other sums j i x exact_zero (λ e. absurd (omega arith)) ∙ h.left i (omega arith);
  each = λ d high short. elim (cases_eq d c) [
    | inl e ↦
        let here : base + (d - a) ≡ j = omega arith in
        ap (λ (k : ℕ). get_or (slice_set sums j x) k exact_zero) here ∙ get_or-set_same sums j x exact_zero inside ∙ is ∙ ap f (sym e)
    | inr ne ↦ get_or-set_other sums j (base + (d - a)) x exact_zero (λ e. absurd (omega arith)) ∙ h.each d (omega arith) short
  ];
}

-- the whole row, cell by cell
pub fallen-row : (f : ℕ → Enclosure) (cells a base c : ℕ) (old sums : List Enclosure) → c ≤ a → AreFallen f cells a base c old sums →
    (i : ℕ) → i < cells - a → get_or sums (base + i) exact_zero ≡ f (a + i)
fallen-row f cells a base c old sums le h i less =
    let at : a + i - a ≡ i = omega arith in
    ap (λ (k : ℕ). get_or sums (base + k) exact_zero) (sym at) ∙ h.each (a + i) (omega arith) (omega arith)
