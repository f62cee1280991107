use Rattle.std.proofs.Common.{◌≡◌, ℕ, Bool, List, length, ap, ap₂, ◌∙◌, arith}
use Rattle.cg_ranges.specs.Cover.{is_taken, cover}
use Rattle.cg_ranges.specs.Ranges.{Ranges}
use Rattle.cg_ranges.specs.Runs.{runs_of, marked}
use Rattle.cg_ranges.proofs.MarkLemmas.{marked-cover}
use Rattle.cg_ranges.proofs.RunLemmas.{runs_of-within, filter-within}
use Rattle.cg_ranges.proofs.cover.ranges.Goals as goal

runs_are : (c : goal.After-drop-marks-in-Pairs) → c.new.result.runs ≡ runs_of (cover c.in-Pairs.pairs c.args.target)
runs_are c =
    c.new.ensures.runs ∙ c.in_ok-runs-in-Pairs.ensures
    ∙ ap (λ (marks : List Bool). runs_of (marked marks)) (c.as_slice.ensures.value ∙ c.in_ok-sum-in-Pairs.ensures.marks)
    ∙ ap runs_of (marked-cover c.in-Pairs.pairs c.args.target)

pub returns-clause-value : goal.returns-clause-value
returns-clause-value c =
    let made : ℕ → List (ℕ × ℕ) → Ranges = λ sum runs. record { sum = sum; runs = runs } in
    rw c.in-Pairs.is (ap₂ made (c.new.ensures.sum ∙ c.in_ok-sum-in-Pairs.ensures.sum) (runs_are c))

pub returns-clause-enough : goal.returns-clause-enough
returns-clause-enough c = omega (arith, c.new.ensures.sum, c.in_ok-sum-in-Pairs.ensures.enough)

pub returns-clause-runs : goal.returns-clause-runs
returns-clause-runs c =
    let pairs = c.in-Pairs.pairs in
    rw (c.in-Pairs.is, runs_are c)
    (runs_of-within (length pairs) (cover pairs c.args.target) (filter-within (is_taken pairs c.args.target) (length pairs)))
