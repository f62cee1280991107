use Rattle.std.proofs.Common.{◌++◌}
use Rattle.cg_report.specs.Texts.{pair_lines}
use Rattle.cg_report.proofs.LineLemmas.{next_pair}
use Rattle.cg_report.proofs.marginal.push_pairs.Goals as goal

pub loop-cell-preserved : goal.loop-cell-preserved
loop-cell-preserved c =
    let grid = c.args.grid.now in
    let pairs = c.args.pairs.now in
    next_pair grid pairs c.loop-cell.cell c.pair.result c.year.result c.loop-cell.text.items c.push_pair.new.text.items
    (c.args.text.now.items ++ pair_lines grid 0 pairs)
    c.pair.ensures.value c.year.ensures c.in_ok-push_pair.ensures c.loop-cell.invariant
