use Rattle.std.proofs.Common.{◌≡◌, ◌++◌, drop}
use Rattle.cg_report.specs.Texts.{pair_lines}
use Rattle.cg_report.proofs.marginal.push_pairs.Given as goal

-- the lines so far and those of the cells that are left are all
abbrev pub invariant-loop-cell : goal.invariant-loop-cell
invariant-loop-cell l =
    l.text.items ++ pair_lines l.grid l.cell (drop l.cell l.pairs) ≡ l.fn.text.items ++ pair_lines l.grid 0 l.pairs
