use Rattle.std.proofs.Common.{length, refl, ap, arith}
use Rattle.cg_run.proofs.OutputLemmas.{told_yes, told_no, some_here, fewer_here, next_length, takes_here, takes_next}
use Rattle.cg_run.proofs.output.write_texts.Goals as goal

pub overflow_add-taken : goal.overflow_add-taken
overflow_add-taken g c =
    let len = ap length c.deref.ensures.value in
    let all = some_here (λ text. text.items) c.args.texts.now c.loop-text.text-index c.text-item.result c.text-item.is c.loop-text-test.true c.loop-text.taken
    c.write_whole-written.result.taken c.loop-text.invariant.count (omega (arith, len, c.write_whole-written.ensures.within)) in
    omega (arith, all, c.requires)

pub returns-then-written-clause-failed : goal.returns-then-written-clause-failed
returns-then-written-clause-failed g c =
    let len = ap length c.deref.ensures.value in
    let few = told_yes c.if-written.true c.write_whole-written.ensures.failed in
    let less = fewer_here (λ text. text.items) c.args.texts.now c.loop-text.text-index c.text-item.result c.text-item.is c.loop-text-test.true c.loop-text.taken
    c.write_whole-written.result.taken c.loop-text.invariant.count (omega (arith, len, few)) in
    ((λ _. less), (λ _. refl))

pub returns-then-written-clause-within : goal.returns-then-written-clause-within
returns-then-written-clause-within g c =
    let len = ap length c.deref.ensures.value in
    some_here (λ text. text.items) c.args.texts.now c.loop-text.text-index c.text-item.result c.text-item.is c.loop-text-test.true c.loop-text.taken
    c.write_whole-written.result.taken c.loop-text.invariant.count (omega (arith, len, c.write_whole-written.ensures.within))

pub returns-then-written-clause-taken : goal.returns-then-written-clause-taken
returns-then-written-clause-taken g c =
    takes_here (λ text. text.items) c.args.texts.now c.loop-text.text-index c.text-item.result c.text-item.is c.loop-text-test.true _ _ _ c.loop-text.taken
    c.write_whole-written.result.taken c.deref.result.now c.loop-text.invariant.count c.deref.ensures.value c.write_whole-written.ensures.within c.loop-text.invariant.took
    c.write_whole-written.ensures.taken

pub loop-text-preserved : goal.loop-text-preserved
loop-text-preserved g c =
    let len = ap length c.deref.ensures.value in
    let all = told_no _ _ c.if-written.false c.write_whole-written.ensures.failed in
    let next = next_length (λ text. text.items) c.args.texts.now c.loop-text.text-index c.text-item.result c.text-item.is c.loop-text-test.true in
    record {
      count = omega (arith, len, all, next, c.loop-text.invariant.count, c.write_whole-written.ensures.within);
      took = takes_next (λ text. text.items) c.args.texts.now c.loop-text.text-index c.text-item.result c.text-item.is c.loop-text-test.true _ _ _ c.write_whole-written.result.taken
          c.deref.result.now c.deref.ensures.value all c.loop-text.invariant.took c.write_whole-written.ensures.taken;
      later = omega (arith, c.loop-text.invariant.later, c.write_whole-written.ensures.later);
    }
