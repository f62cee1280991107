use Rattle.std.proofs.Common.{◌≡◌, ℕ, suc, ◌+◌, ◌-◌, ◌<◌, ◌∙◌, List, length, get_or, arith, ap, ap₂, subst}
use Rattle.std.proofs.lemmas.List.{get_or_default}
use Rattle.cg_enc.specs.Enclosure.{Enclosure, exact_zero}
use Rattle.cg_enc.specs.Rounding.{plus}
use Rattle.cg_table.specs.Sums.{sum_of}
use Rattle.cg_table.specs.Table.{Table, entry}
use Rattle.cg_context.specs.Formulas.{into_after_entry, row_by, sum_on}
use Rattle.cg_context.proofs.FallingLemmas.{AreFallen, fallen-more}
use Rattle.cg_context.proofs.GroupLemmas.{reaching-near, tied-near}
use Rattle.cg_context.proofs.RowLemmas.{row_by-at, is-row_by}
use Rattle.cg_context.proofs.TermLemmas.{sum_on-more}
use Rattle.cg_context.proofs.groups.add_tied.Goals as goal

-- what is read where nothing has been added yet
read : (x : Table) (c j : ℕ) (old sums : List Enclosure) (e : Enclosure) → old ≡ row_by x.cells (λ c. sum_of (λ d. entry x d c) 0 c) → j < x.cells → j < length sums → j < c →
    AreFallen (into_after_entry x.cells (entry x) 0) x.cells 0 0 c old sums → e ≡ get_or sums j e → e ≡ sum_of (λ d. entry x d j) 0 j
read x c j old sums e first less inside left h is =
    is ∙ get_or_default sums j e exact_zero inside ∙ h.left j (omega arith) ∙ ap (λ (xs : List Enclosure). get_or xs j exact_zero) first
    ∙ row_by-at x.cells (λ c. sum_of (λ d. entry x d c) 0 c) j exact_zero less

-- the sum at the next cell down
next : (x : Table) (i j : ℕ) (sum e r : Enclosure) → i < x.cells → j ≡ x.cells - (i + 1) → sum ≡ sum_on x.cells (x.cells - i) (λ d. entry x d d) → e ≡ entry x j j → r ≡ plus sum e →
    r ≡ sum_on x.cells (x.cells - (i + 1)) (λ d. entry x d d)
next x i j sum e r less at is here made =
    let d : ℕ = x.cells - (i + 1) in
    let more : x.cells - i ≡ suc d = omega arith in
    made ∙ sum_on-more x.cells d (λ d. entry x d d) sum e (omega arith) (is ∙ ap (λ (n : ℕ). sum_on x.cells n (λ d. entry x d d)) more) (here ∙ ap (λ (n : ℕ). entry x n n) at)

pub plus-sum-requires-clause-left : goal.plus-sum-requires-clause-left
plus-sum-requires-clause-left c =
    tied-near c.args.x.now (c.args.x.now.cells - c.loop-i.i) c.loop-i.sum c.get.ensures.table c.requires.reach c.loop-i.invariant.sum

pub plus-requires-clause-left : goal.plus-requires-clause-left
plus-requires-clause-left c =
    let x = c.args.x.now in
    let j : ℕ = length c.args.sums.now - 1 - c.loop-i.i in
    reaching-near x j (get_or c.loop-i.sums j c.index-sums-c.result) c.get.ensures.table c.requires.reach (omega (arith, c.requires.width))
    (subst (λ (e : Enclosure). e ≡ sum_of (λ d. entry x d j) 0 j) c.index-sums-c.is
    (read x (x.cells - c.loop-i.i) j c.args.sums.now c.loop-i.sums c.index-sums-c.result c.requires.sums (omega (arith, c.requires.width)) (omega (arith, c.requires.width, c.loop-i.invariant.sums.width)) (omega (arith, c.requires.width)) c.loop-i.invariant.sums c.index-sums-c.is))

pub plus-requires-clause-right : goal.plus-requires-clause-right
plus-requires-clause-right c =
    let x = c.args.x.now in
    tied-near x (x.cells - (c.loop-i.i + 1)) c.plus-sum.result c.get.ensures.table c.requires.reach
    (next x c.loop-i.i (length c.args.sums.now - 1 - c.loop-i.i) c.loop-i.sum c.get.result c.plus-sum.result (omega arith) (omega (arith, c.requires.width)) c.loop-i.invariant.sum c.get.ensures.value c.plus-sum.ensures.value)

pub loop-i-preserved : goal.loop-i-preserved
loop-i-preserved c =
    let x = c.args.x.now in
    let i : ℕ = c.loop-i.i in
    let j : ℕ = length c.args.sums.now - 1 - i in
    let d : ℕ = x.cells - (i + 1) in
    let at : j ≡ d = omega (arith, c.requires.width) in
    let more : x.cells - i ≡ d + 1 = omega arith in
    let inside : j < length c.loop-i.sums = omega (arith, c.requires.width, c.loop-i.invariant.sums.width) in
    let sum : c.plus-sum.result ≡ sum_on x.cells d (λ d. entry x d d) =
    next x i j c.loop-i.sum c.get.result c.plus-sum.result (omega arith) at c.loop-i.invariant.sum c.get.ensures.value c.plus-sum.ensures.value in
    let old : c.index-sums-c.result ≡ sum_of (λ b. entry x b j) 0 j =
    read x (x.cells - i) j c.args.sums.now c.loop-i.sums c.index-sums-c.result c.requires.sums (omega (arith, c.requires.width)) inside (omega (arith, c.requires.width)) c.loop-i.invariant.sums c.index-sums-c.is in
    let made : c.plus.result ≡ into_after_entry x.cells (entry x) 0 d =
    c.plus.ensures.value ∙ ap₂ plus (subst (λ (e : Enclosure). e ≡ sum_of (λ b. entry x b j) 0 j) c.index-sums-c.is old ∙ ap (λ (n : ℕ). sum_of (λ b. entry x b n) 0 n) at) sum in
    record {
      sums = fallen-more (into_after_entry x.cells (entry x) 0) x.cells 0 0 d j c.args.sums.now c.loop-i.sums c.plus.result (omega arith) (omega arith) (omega (arith, at)) inside made
          (subst (λ (n : ℕ). AreFallen (into_after_entry x.cells (entry x) 0) x.cells 0 0 n c.args.sums.now c.loop-i.sums) more c.loop-i.invariant.sums);
      sum = sum;
    }

pub returns : goal.returns
returns c =
    let x = c.args.x.now in
    is-row_by x.cells (into_after_entry x.cells (entry x) 0) c.loop-i.sums (c.loop-i.invariant.sums.width ∙ c.requires.width)
    (λ b less.
    let at : b ≡ 0 + (b - 0) = omega arith in
    ap (λ (n : ℕ). get_or c.loop-i.sums n exact_zero) at ∙ c.loop-i.invariant.sums.each b (omega arith) less)
