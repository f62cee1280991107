use Rattle.cg_num.proofs.ShortestLemmas.{shortest_is_written}
use Rattle.cg_num.proofs.writing.what_is_written_is_shortest.Goals as goal

pub returns : goal.returns
returns c = shortest_is_written
