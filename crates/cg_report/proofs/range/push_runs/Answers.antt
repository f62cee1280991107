use Rattle.std.proofs.Common.{◌++◌}
use Rattle.std.specs.List.{flat_map}
use Rattle.cg_report.specs.Texts.{run_line}
use Rattle.cg_report.proofs.LineLemmas.{next_run}
use Rattle.cg_report.proofs.range.push_runs.Goals as goal

pub loop-number-preserved : goal.loop-number-preserved
loop-number-preserved c =
    let text = run_line c.args.grid.now in
    let runs = c.args.ranges.now.runs in
    next_run text runs c.loop-number.number c.run.result c.loop-number.text.items c.push_run.new.text.items
    (c.args.text.now.items ++ flat_map text runs)
    c.run.ensures c.in_ok-push_run.ensures c.loop-number.invariant
