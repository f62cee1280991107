use Rattle.std.proofs.Common.{subst, sym}
use Rattle.cg_token.specs.Cut.{IsWord}
use Rattle.cg_cql.proofs.NameLemmas.{take-word}
use Rattle.cg_cql.proofs.name.name_of_word.Goals as goal

pub word_text-requires : goal.word_text-requires
word_text-requires c = subst (λ x. IsWord x) (sym c.split_at.ensures.front) (take-word c.min.result c.args.word.now c.requires)
