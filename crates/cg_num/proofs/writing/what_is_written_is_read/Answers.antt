use Rattle.cg_num.proofs.WrittenLemmas.{written_is_read}
use Rattle.cg_num.proofs.writing.what_is_written_is_read.Goals as goal

pub returns : goal.returns
returns c = written_is_read
