use Rattle.cg_token.proofs.LexLemmas.{stand-by-themselves}
use Rattle.cg_token.proofs.laws.pieces_stand_by_themselves.Goals as goal

pub returns : goal.returns
returns c = stand-by-themselves
