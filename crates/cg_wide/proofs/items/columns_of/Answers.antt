use Rattle.cg_table.specs.Table.{entry}
use Rattle.cg_context.proofs.BackLemmas.{columns-more}
use Rattle.cg_wide.proofs.items.columns_of.Goals as goal

pub loop-d-preserved : goal.loop-d-preserved
loop-d-preserved c = columns-more (entry c.args.t.now) c.loop-d.d c.loop-d.entries.items c.push_column.new.entries.items c.in_ok-push_column.ensures c.loop-d.invariant
