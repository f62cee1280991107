use Rattle.cg_writing.proofs.LawLemmas.{written-is-read}
use Rattle.cg_writing.proofs.laws.what_is_written_is_read.Goals as goal

pub returns : goal.returns
returns c = written-is-read
