use Rattle.std.proofs.Common.{lit<}
use Rattle.std.proofs.lemmas.Iterator.Splits.{YieldsList-from_str_split}
use Rattle.std.proofs.lemmas.Iterator.Consumers.{YieldsList-turn, YieldsList-end}
use Rattle.cg_words.specs.Words.{IsFile}
use Rattle.cg_words.proofs.NamedLemmas.{refuted}
use Rattle.cg_words.proofs.PartLemmas.{file-more, files-all, part-here}
use Rattle.cg_words.proofs.parts.files.Goals as goal

pub returns-then-not-is_file-clause-none : goal.returns-then-not-is_file-clause-none
returns-then-not-is_file-clause-none c =
    let cut = YieldsList-from_str_split 44 c.args.list.now (lit< tt) (cc) (cc) (cc) in
    let turn = YieldsList-turn cut c.loop-part.yielded _ c.loop-part.yielded_by _ c.next.new.self c.in-Some.part c.in-Some.is c.next.ensures.steps in
    part-here (λ part. ¬ IsFile part) c.args.list.now _ _ turn (refuted c.is_file.ensures c.if-not-is_file.true)

pub loop-part-preserved : goal.loop-part-preserved
loop-part-preserved c =
    file-more c.loop-part.yielded c.loop-part.files.items _ c.in-Some.part c.loop-part.invariant (c.is_file.ensures.0 c.if-not-is_file.false) c.in_ok-push.ensures.items

pub returns-clause-some : goal.returns-clause-some
returns-clause-some c =
    let cut = YieldsList-from_str_split 44 c.args.list.now (lit< tt) (cc) (cc) (cc) in
    let end = YieldsList-end cut c.loop-part.yielded _ c.loop-part.yielded_by _ c.next.new.self c.in-None.is c.next.ensures.steps in
    files-all _ _ _ end.0 c.loop-part.invariant
