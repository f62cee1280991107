use Rattle.std.proofs.Common.{rules, tests}
use Rattle.std.proofs.lemmas.Iterator.{YieldsList-from_slice}
use Rattle.std.proofs.lemmas.Iterator.Search.{any_from_yields_List}
use Rattle.cg_words.specs.Words.{NamedFile}
use Rattle.cg_words.specs.Reading.{is_same_name}
use Rattle.cg_files.proofs.KnownLemmas.{is_known_if}
use Rattle.cg_files.proofs.read.is_known.Goals as goal

pub returns : goal.returns
returns c =
    is_known_if c.args.curves.now c.args.name.now c.any.result
    (any_from_yields_List (λ (one : NamedFile). is_same_name one.name c.args.name.now) _ _ _ c.any.ensures.ran (YieldsList-from_slice c.args.curves.now cc) (λ x b q k. search (rules, tests)))
