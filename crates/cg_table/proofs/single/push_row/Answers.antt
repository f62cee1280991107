use Rattle.std.proofs.Common.{◌∙◌, arith}
use Rattle.cg_table.specs.Table.{row_entry}
use Rattle.cg_table.proofs.PlaceLemmas.{row_more}
use Rattle.cg_table.proofs.single.push_row.Goals as goal

pub loop-b-preserved : goal.loop-b-preserved
loop-b-preserved c = c.in_ok-push.ensures.items ∙ row_more c.args.entries.now.items c.loop-b.entries.items (row_entry c.args.w.now) c.get.result c.args.a c.loop-b.b (omega arith) c.get.ensures.entry c.loop-b.invariant
