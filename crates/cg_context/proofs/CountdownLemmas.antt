-- Loops from the youngest cell down, whose step i is at cell cells - 1 - i.
use Rattle.std.proofs.Common.{◌≡◌, ℕ, suc, ◌+◌, ◌-◌, ◌<◌, List, length, arith, ap, ◌∙◌, subst}
use Rattle.std.specs.Prelude.{slice_set}
use Rattle.cg_enc.specs.Enclosure.{Enclosure}
use Rattle.cg_enc.specs.Rounding.{plus}
use Rattle.cg_context.specs.Formulas.{sum_on}
use Rattle.cg_context.proofs.FallingLemmas.{AreFallen, fallen-more}
use Rattle.cg_context.proofs.TermLemmas.{sum_on-more}

-- a running sum takes the term of its step
pub countdown-sum : (cells i : ℕ) (f : ℕ → Enclosure) (sum term : Enclosure) → i < cells → sum ≡ sum_on cells (cells - i) f → term ≡ f (cells - 1 - i) →
    plus sum term ≡ sum_on cells (cells - (i + 1)) f
countdown-sum cells i f sum term less is is' =
    let next : cells - i ≡ suc (cells - (i + 1)) = omega arith in
    let same : cells - 1 - i ≡ cells - (i + 1) = omega arith in
    sum_on-more cells (cells - (i + 1)) f sum term (omega arith) (is ∙ ap (λ (c : ℕ). sum_on cells c f) next) (is' ∙ ap f same)

-- a row that is written takes the entry of its step
pub countdown-fallen : (f : ℕ → Enclosure) (cells a base i j : ℕ) (old sums : List Enclosure) (x : Enclosure) → i < cells - a → j ≡ base + (cells - 1 - i - a) → j < length sums →
    x ≡ f (cells - (i + 1)) → AreFallen f cells a base (cells - i) old sums → AreFallen f cells a base (cells - (i + 1)) old (slice_set sums j x)
countdown-fallen f cells a base i j old sums x less at inside is h =
    let next : cells - i ≡ cells - (i + 1) + 1 = omega arith in
    fallen-more f cells a base (cells - (i + 1)) j old sums x (omega arith) (omega arith) (omega arith) inside is
    (subst (λ (c : ℕ). AreFallen f cells a base c old sums) next h)
