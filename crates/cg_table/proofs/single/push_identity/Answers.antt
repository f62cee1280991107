use Rattle.std.proofs.Common.{◌∙◌, arith}
use Rattle.cg_table.specs.Formulas.{identity_entry}
use Rattle.cg_table.proofs.PlaceLemmas.{row_more}
use Rattle.cg_table.proofs.single.push_identity.Goals as goal

pub loop-b-preserved : goal.loop-b-preserved
loop-b-preserved c = c.in_ok-push.ensures.items ∙ row_more c.args.entries.now.items c.loop-b.entries.items (identity_entry c.args.a) c.unit.result c.args.a c.loop-b.b (omega arith) c.unit.ensures c.loop-b.invariant
