use Rattle.std.proofs.Common.{◌≡◌, ◌+◌, ◌^◌, ◌<◌, ◌∙◌, ℕ, length, get_or, ap, ap₂, subst, sym, inl, inr, arith}
use Rattle.std.proofs.lemmas.Bool.{cases_eq}
use Rattle.std.proofs.lemmas.List.{get_or_default, get_or-set_same, get_or-set_other}
use Rattle.cg_enc.specs.Enclosure.{Enclosure, exact_zero, IsExponent}
use Rattle.cg_enc.specs.Rounding.{plus, times}
use Rattle.cg_table.proofs.ReachLemmas.{IsExponent-more}
use Rattle.cg_wide.proofs.terms.add_terms.Goals as goal

pub plus-requires-clause-left : goal.plus-requires-clause-left
plus-requires-clause-left c =
    let here : IsExponent (2 ^ 55) (get_or c.loop-k.sums (c.args.from + c.loop-k.k) exact_zero).exp =
    subst (λ (e : Enclosure). IsExponent (2 ^ 55) e.exp) (sym (c.loop-k.invariant.rest c.loop-k.k (omega arith))) (c.requires.sums c.loop-k.k (omega arith)) in
    let read = c.index-sums-from.is ∙ get_or_default c.loop-k.sums (c.args.from + c.loop-k.k) c.index-sums-from.result exact_zero (omega arith) in
    subst (λ (e : Enclosure). IsExponent (2 ^ 60) e.exp) (sym read)
    (IsExponent-more (get_or c.loop-k.sums (c.args.from + c.loop-k.k) exact_zero).exp (2 ^ 55) (2 ^ 60) (omega arith) here)

pub plus-requires-clause-right : goal.plus-requires-clause-right
plus-requires-clause-right c =
    let entry : IsExponent (2 ^ 52) c.index-entries-k.result.exp =
    subst (λ (e : Enclosure). IsExponent (2 ^ 52) e.exp) (sym c.index-entries-k.is) (c.requires.entries c.loop-k.k c.index-entries-k.result (omega arith)) in
    IsExponent-more c.times-product.result.exp (2 ^ 52 + 2 ^ 52 + 63) (2 ^ 60) (omega arith) (c.times-product.ensures.exponent (2 ^ 52) (2 ^ 52) c.requires.factor entry)

pub loop-k-preserved : goal.loop-k-preserved
loop-k-preserved c =
    let old = c.args.sums.now in
    let now = c.loop-k.sums in
    let entries = c.args.entries.now in
    let k : ℕ = c.loop-k.k in
    let j : ℕ = c.args.from + k in
    let inside : j < length now = omega arith in
    let within : k < length entries = omega arith in
    let sum_is : c.index-sums-from.result ≡ get_or old j exact_zero = c.index-sums-from.is ∙ get_or_default now j c.index-sums-from.result exact_zero inside ∙ c.loop-k.invariant.rest k (omega arith) in
    let entry_is : c.index-entries-k.result ≡ get_or entries k exact_zero = c.index-entries-k.is ∙ get_or_default entries k c.index-entries-k.result exact_zero within in
    let value : c.plus.result ≡ plus (get_or old j exact_zero) (times c.args.factor.now (get_or entries k exact_zero)) =
    c.plus.ensures.value ∙ ap₂ plus sum_is (c.times-product.ensures.value ∙ ap (times c.args.factor.now) entry_is) in
    record {
      before = λ i less. get_or-set_other now j i c.plus.result exact_zero (λ e. absurd (omega arith)) ∙ c.loop-k.invariant.before i less;
      added = λ q less. elim (cases_eq q k) [
        | inl e ↦ rw e (get_or-set_same now j c.plus.result exact_zero inside ∙ value)
        | inr ne ↦ get_or-set_other now j (c.args.from + q) c.plus.result exact_zero (λ e. absurd (omega arith)) ∙ c.loop-k.invariant.added q (omega arith)
      ];
      rest = λ q more. get_or-set_other now j (c.args.from + q) c.plus.result exact_zero (λ e. absurd (omega arith)) ∙ c.loop-k.invariant.rest q (omega arith);
    }
