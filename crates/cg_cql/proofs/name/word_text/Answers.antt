use Rattle.cg_cql.proofs.NameLemmas.{word-utf8}
use Rattle.cg_cql.proofs.name.word_text.Goals as goal

pub unreachable-requires : goal.unreachable-requires
unreachable-requires c = c.in-Err.ensures.cases.0 (word-utf8 _ c.requires)
