use Rattle.cg_table.specs.Table.{entry}
use Rattle.cg_context.proofs.BackLemmas.{column-more}
use Rattle.cg_wide.proofs.items.push_column.Goals as goal

pub loop-c-preserved : goal.loop-c-preserved
loop-c-preserved c =
    column-more c.args.entries.now.items c.loop-c.entries.items c.push.new.self.items (λ b. entry c.args.t.now b c.args.d) c.loop-c.c c.get.result c.in_ok-push.ensures.items c.loop-c.invariant c.get.ensures.value
