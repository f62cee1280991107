use Rattle.std.proofs.Common.{◌≡◌, ◌++◌, drop}
use Rattle.std.specs.List.{flat_map}
use Rattle.cg_report.specs.Texts.{run_line}
use Rattle.cg_report.proofs.range.push_runs.Given as goal

-- the lines so far and those of the runs that are left are all
abbrev pub invariant-loop-number : goal.invariant-loop-number
invariant-loop-number l =
    l.text.items ++ flat_map (run_line l.grid) (drop l.number l.ranges.runs)
    ≡ l.fn.text.items ++ flat_map (run_line l.grid) l.ranges.runs
