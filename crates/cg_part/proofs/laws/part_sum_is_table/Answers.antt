use Rattle.cg_part.proofs.Table.{part-table}
use Rattle.cg_part.proofs.laws.part_sum_is_table.Goals as goal

pub returns : goal.returns
returns c = part-table
