-- Sums of so many terms are sums over cells, from the first one or from one to another.
use Rattle.std.proofs.Common.{◌≡◌, ℕ, zero, suc, ◌+◌, ◌-◌, ◌≤◌, arith, refl, ap, ◌∙◌, zero-add}
use Rattle.cg_meaning.specs.Sums.{sum_below}
use Rattle.cg_part.specs.Tables.{sum_from}
use Rattle.cg_part.proofs.Ranges.{sum_from-one, sum_from-last}
use Rattle.cg_table.specs.Sums.{total_of}

-- the first n terms
pub total-below : (f : ℕ → ℕ) (n : ℕ) → total_of f 0 n ≡ sum_below n f
total-below f zero = refl
total-below f (suc n) = omega (arith, total-below f n, ap f (zero-add n))

-- n more terms than the first
total-onward : (f : ℕ → ℕ) (a n : ℕ) → total_of f a (suc n) ≡ sum_from a (a + n) f
total-onward f a zero =
    let here : a + 0 ≡ a = omega arith in
    rw here (omega (arith, sum_from-one a f))
total-onward f a (suc n) =
    let next : a + suc n ≡ suc (a + n) = omega arith in
    rw next (omega (arith, total-onward f a n, sum_from-last a (a + n) f (omega arith)))

-- n terms, up to the cell b
pub total-from : (f : ℕ → ℕ) (a b n : ℕ) → a ≤ b → n ≡ b - a + 1 → total_of f a n ≡ sum_from a b f
total-from f a b n le e =
    let size : n ≡ suc (b - a) = omega arith in
    let last : a + (b - a) ≡ b = omega arith in
    ap (total_of f a) size ∙ total-onward f a (b - a) ∙ ap (λ (x : ℕ). sum_from a x f) last
