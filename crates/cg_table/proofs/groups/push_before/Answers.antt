use Rattle.std.proofs.Common.{◌∙◌, arith}
use Rattle.cg_table.specs.Formulas.{before_entry}
use Rattle.cg_table.specs.Table.{entry}
use Rattle.cg_table.proofs.PlaceLemmas.{row_more}
use Rattle.cg_table.proofs.groups.push_before.Goals as goal

pub loop-b-preserved : goal.loop-b-preserved
loop-b-preserved c = c.in_ok-push.ensures.items ∙ row_more c.args.entries.now.items c.loop-b.entries.items (before_entry c.args.t.now.cells (entry c.args.t.now) c.args.a) c.before_at.result c.args.a c.loop-b.b (omega arith) c.before_at.ensures c.loop-b.invariant
