use Rattle.std.proofs.Common.{ℕ, Bool, false, get_or, ap, ◌∙◌, sym}
use Rattle.std.specs.List.{filter, range_with_len}
use Rattle.cg_ranges.specs.Runs.{runs_of}
use Rattle.cg_ranges.proofs.RunLemmas.{runs_of-within, filter-within, filter-range_yes, filter-range_no}
use Rattle.cg_ranges.proofs.runs.runs.Goals.{then-marks-cell+in_ok-add_cell, else-marks-cell}
use Rattle.cg_ranges.proofs.runs.runs.Goals as goal

pub add_cell-requires : goal.add_cell-requires
add_cell-requires c =
    let n = c.loop-cell.cell in
    let p : ℕ → Bool = λ cell. get_or c.args.marks.now cell false in
    rw c.loop-cell.invariant (runs_of-within n (filter p (range_with_len 0 n)) (filter-within p n))

pub loop-cell-preserved : goal.loop-cell-preserved
loop-cell-preserved c =
    let n = c.loop-cell.cell in
    let p : ℕ → Bool = λ cell. get_or c.args.marks.now cell false in
    elim c.if-marks-cell.branch [
      | then-marks-cell+in_ok-add_cell w ↦
          rw w.runs-is (w.in_ok-add_cell.ensures (filter p (range_with_len 0 n)) c.loop-cell.invariant
          ∙ ap runs_of (sym (filter-range_yes p n w.if-marks-cell.true)))
      | else-marks-cell w ↦
          rw w.runs-is (c.loop-cell.invariant ∙ ap runs_of (sym (filter-range_no p n w.if-marks-cell.false)))
    ]
