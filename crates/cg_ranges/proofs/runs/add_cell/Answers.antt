use Rattle.std.proofs.Common.{◌≡◌, ◌+◌, ◌-◌, ◌<◌, ℕ, get_or, set, length, arith, ap, ◌∙◌, sym}
use Rattle.std.proofs.lemmas.List.{get_or_default}
use Rattle.cg_ranges.proofs.RunLemmas.{runs_of-joins, runs_of-begins}
use Rattle.cg_ranges.proofs.runs.add_cell.Goals.{else-count-gt0-via-then-count-gt0+else-index-cell, else-count-gt0-via-else-count-gt0}
use Rattle.cg_ranges.proofs.runs.add_cell.Goals as goal

pub returns-then-index-cell : goal.returns-then-index-cell
returns-then-index-cell c = λ cells is.
    let items = c.args.runs.now.items in
    let i = c.len-count.result - 1 in
    let d = c.index_mut.result.now in
    let less : i < length items = omega arith in
    let same = get_or_default items i d c.index.result.now less ∙ sym c.index.ensures in
    let next : (get_or items i d).1 + 1 ≡ c.args.cell = ap (λ (run : ℕ × ℕ). run.1 + 1) same ∙ c.if-index-cell.true in
    ap (λ (run : ℕ × ℕ). set items i (run.0, c.args.cell)) c.index_mut.ensures.value
    ∙ runs_of-joins cells items c.args.cell i d is (omega arith) next

pub returns-in_ok-push : goal.returns-in_ok-push
returns-in_ok-push c = λ cells is.
    let items = c.args.runs.now.items in
    rw c.in_ok-push.ensures.items (runs_of-begins cells items c.args.cell is (λ i d last e.
    elim c.else-count-gt0.branch [
      | else-count-gt0-via-then-count-gt0+else-index-cell w ↦
          let less : i < length items = omega arith in
          let here : c.len-count.result - 1 ≡ i = omega arith in
          let same = w.index.ensures ∙ ap (λ (k : ℕ). get_or items k w.index.result.now) here ∙ get_or_default items i w.index.result.now d less in
          w.if-index-cell.false (ap (λ (run : ℕ × ℕ). run.1 + 1) same ∙ e)
      | else-count-gt0-via-else-count-gt0 w ↦ omega arith
    ]))
