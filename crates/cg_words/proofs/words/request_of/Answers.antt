use Rattle.std.proofs.Common.{map, string_bytes}
use Rattle.cg_words.specs.Reading.{lists_in}
use Rattle.cg_words.proofs.AskLemmas.{no-lists, nothing-asked}
use Rattle.cg_words.proofs.words.request_of.Goals as goal

pub returns-in-Some-clause-none : goal.returns-in-Some-clause-none
returns-in-Some-clause-none c =
    nothing-asked c.request_in.result (map string_bytes c.args.words.now) (lists_in c.in-Some.lists) c.in-Some.ensures.some c.request_in.ensures.none

pub returns-in-None-clause-none : goal.returns-in-None-clause-none
returns-in-None-clause-none c = no-lists _ c.in-None.ensures.none
