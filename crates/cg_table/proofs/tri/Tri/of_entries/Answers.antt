use Rattle.std.proofs.Common.{◌∙◌, length, arith}
use Rattle.cg_table.proofs.LiveLemmas.{padded-all}
use Rattle.cg_table.proofs.PlaceLemmas.{start_whole, few_cells}
use Rattle.cg_table.proofs.tri.Tri.of_entries.Goals as goal

pub of_rows-requires-clause-few : goal.of_rows-requires-clause-few
of_rows-requires-clause-few c = few_cells c.args.cells (length c.args.entries.items) c.requires.count (omega arith)

pub of_rows-requires-clause-count : goal.of_rows-requires-clause-count
of_rows-requires-clause-count c = start_whole c.args.cells (length c.args.entries.items) c.requires.count

pub returns : goal.returns
returns c = c.of_rows.ensures ∙ padded-all c.args.cells c.args.entries.items (start_whole c.args.cells (length c.args.entries.items) c.requires.count)
