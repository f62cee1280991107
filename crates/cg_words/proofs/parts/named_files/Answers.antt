use Rattle.std.proofs.Common.{lit<}
use Rattle.std.proofs.lemmas.Iterator.Splits.{YieldsList-from_str_split}
use Rattle.std.proofs.lemmas.Iterator.Consumers.{YieldsList-turn, YieldsList-end}
use Rattle.cg_words.specs.Words.{NamesNothing}
use Rattle.cg_words.specs.Reading.{SaysNamed}
use Rattle.cg_words.proofs.PartLemmas.{read-more, read-all, part-here}
use Rattle.cg_words.proofs.parts.named_files.Goals as goal

pub returns-in_default-clause-none : goal.returns-in_default-clause-none
returns-in_default-clause-none c =
    let cut = YieldsList-from_str_split 44 c.args.list.now (lit< tt) (cc) (cc) (cc) in
    let turn = YieldsList-turn cut c.loop-part.yielded _ c.loop-part.yielded_by _ c.next.new.self c.in-Some.part c.in-Some.is c.next.ensures.steps in
    part-here NamesNothing c.args.list.now _ _ turn c.in_default.ensures.none

pub loop-part-preserved : goal.loop-part-preserved
loop-part-preserved c =
    read-more SaysNamed c.loop-part.yielded _ _ c.in-Some.part _ c.loop-part.invariant
    (c.in-Some-named_file.ensures.some.1, c.in-Some-named_file.ensures.some.0) c.in_ok-push.ensures.items

pub returns-clause-some : goal.returns-clause-some
returns-clause-some c =
    let cut = YieldsList-from_str_split 44 c.args.list.now (lit< tt) (cc) (cc) (cc) in
    let end = YieldsList-end cut c.loop-part.yielded _ c.loop-part.yielded_by _ c.next.new.self c.in-None.is c.next.ensures.steps in
    read-all SaysNamed _ _ _ end.0 c.loop-part.invariant
