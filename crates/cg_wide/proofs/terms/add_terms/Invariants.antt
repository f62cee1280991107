use Rattle.std.proofs.Common.{◌≡◌, ◌+◌, ◌<◌, ◌≤◌, ℕ, get_or}
use Rattle.cg_enc.specs.Enclosure.{exact_zero}
use Rattle.cg_enc.specs.Rounding.{plus, times}
use Rattle.cg_wide.proofs.terms.add_terms.Given as goal

abbrev pub invariant-loop-k : goal.invariant-loop-k
invariant-loop-k l = record {
  before : (i : ℕ) → i < l.from → get_or l.sums i exact_zero ≡ get_or l.initial.sums i exact_zero;
  added : (k : ℕ) → k < l.k → get_or l.sums (l.from + k) exact_zero ≡ plus (get_or l.initial.sums (l.from + k) exact_zero) (times l.factor (get_or l.entries k exact_zero));
  rest : (k : ℕ) → l.k ≤ k → get_or l.sums (l.from + k) exact_zero ≡ get_or l.initial.sums (l.from + k) exact_zero;
}
