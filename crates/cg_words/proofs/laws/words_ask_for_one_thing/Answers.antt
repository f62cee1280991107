use Rattle.cg_words.proofs.AskLemmas.{one-thing}
use Rattle.cg_words.proofs.laws.words_ask_for_one_thing.Goals as goal

pub returns : goal.returns
returns c = one-thing
