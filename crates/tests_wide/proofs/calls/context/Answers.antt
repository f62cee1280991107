use Rattle.std.proofs.Common.{length}
use Rattle.cg_table.proofs.PlaceLemmas.{start_whole}
use Rattle.tests_wide.proofs.calls.context.Goals as goal

pub of_rows-made-requires-clause-count : goal.of_rows-made-requires-clause-count
of_rows-made-requires-clause-count g c = start_whole c.args.cells (length c.in_ok-entries.field-0.items) c.in_ok-entries.ensures.count
