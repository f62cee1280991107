use Rattle.std.proofs.Common.{◌∙◌, arith}
use Rattle.cg_table.specs.Table.{entry}
use Rattle.cg_table.proofs.PlaceLemmas.{row_more}
use Rattle.cg_context.specs.Formulas.{into_before_entry}
use Rattle.cg_context.proofs.groups.push_before.Goals as goal

pub loop-preserved : goal.loop-preserved
loop-preserved c =
    c.in_ok-push.ensures.items
    ∙ row_more c.args.entries.now.items c.loop.entries.items (into_before_entry (entry c.args.x.now) c.args.a) c.get-own.result c.args.a c.loop.counter (omega arith) c.get-own.ensures.value c.loop.invariant
