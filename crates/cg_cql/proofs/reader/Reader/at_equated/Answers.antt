use Rattle.cg_cql.proofs.NameLemmas.{setting-word}
use Rattle.cg_cql.proofs.reader.Reader.at_equated.Goals as goal

pub name_of_word-requires : goal.name_of_word-requires
name_of_word-requires c = setting-word _ _ c.requires
