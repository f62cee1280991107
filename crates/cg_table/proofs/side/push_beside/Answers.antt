use Rattle.std.proofs.Common.{◌≡◌, ◌+◌, ◌-◌, ◌∙◌, arith, refl}
use Rattle.cg_table.specs.Formulas.{beside_entry}
use Rattle.cg_table.specs.Table.{entry}
use Rattle.cg_table.proofs.PlaceLemmas.{row_more}
use Rattle.cg_table.proofs.WithinLemmas.{sum-near, sum_of-more, cumulated_at, sum_entry-near, entry_sum-near}
use Rattle.cg_table.proofs.side.push_beside.Goals as goal

pub plus-reached-requires-clause-left : goal.plus-reached-requires-clause-left
plus-reached-requires-clause-left g c = sum-near c.args.t.now c.args.a c.args.a (c.loop-b.b - c.args.a) c.loop-b.reached c.get-right.ensures.table (omega (arith, c.requires.reach)) (omega (arith, c.requires.cells)) c.loop-b.invariant.reached

pub times-first-requires-clause-left : goal.times-first-requires-clause-left
times-first-requires-clause-left g c = sum-near c.args.s.now c.args.a c.args.a (c.loop-b.b - c.args.a) c.loop-b.before c.get-left.ensures.table (omega (arith, c.requires.reach)) (omega arith) c.loop-b.invariant.before

pub times-second-requires-clause-right : goal.times-second-requires-clause-right
times-second-requires-clause-right g c =
    let reached = c.plus-reached.ensures.value ∙ sum_of-more (entry c.args.t.now c.args.a) c.args.a c.loop-b.b c.loop-b.reached c.get-right.result (omega arith) c.loop-b.invariant.reached c.get-right.ensures.value in
    sum-near c.args.t.now c.args.a c.args.a (c.loop-b.b + 1 - c.args.a) c.plus-reached.result c.get-right.ensures.table (omega (arith, c.requires.reach)) (omega (arith, c.requires.cells)) reached

pub plus-requires-clause-left : goal.plus-requires-clause-left
plus-requires-clause-left g c = sum_entry-near c.args.s.now c.args.t.now c.args.a c.loop-b.b (c.loop-b.b - c.args.a) c.loop-b.before c.get-right.result c.times-first.result c.get-left.ensures.table c.get-right.ensures.table c.requires.reach (omega arith) c.loop-b.invariant.before c.get-right.ensures.value c.times-first.ensures.value

pub plus-requires-clause-right : goal.plus-requires-clause-right
plus-requires-clause-right g c =
    let reached = c.plus-reached.ensures.value ∙ sum_of-more (entry c.args.t.now c.args.a) c.args.a c.loop-b.b c.loop-b.reached c.get-right.result (omega arith) c.loop-b.invariant.reached c.get-right.ensures.value in
    entry_sum-near c.args.s.now c.args.t.now c.args.a c.loop-b.b (c.loop-b.b + 1 - c.args.a) c.plus-reached.result c.get-left.result c.times-second.result c.get-left.ensures.table c.get-right.ensures.table c.requires.reach (omega (arith, c.requires.cells)) reached c.get-left.ensures.value c.times-second.ensures.value

pub plus-before-requires-clause-left : goal.plus-before-requires-clause-left
plus-before-requires-clause-left g c = sum-near c.args.s.now c.args.a c.args.a (c.loop-b.b - c.args.a) c.loop-b.before c.get-left.ensures.table (omega (arith, c.requires.reach)) (omega arith) c.loop-b.invariant.before

pub loop-b-preserved : goal.loop-b-preserved
loop-b-preserved g c =
    let reached = c.plus-reached.ensures.value ∙ sum_of-more (entry c.args.t.now c.args.a) c.args.a c.loop-b.b c.loop-b.reached c.get-right.result (omega arith) c.loop-b.invariant.reached c.get-right.ensures.value in
    let before = c.plus-before.ensures.value ∙ sum_of-more (entry c.args.s.now c.args.a) c.args.a c.loop-b.b c.loop-b.before c.get-left.result (omega arith) c.loop-b.invariant.before c.get-left.ensures.value in
    let both : c.plus.result ≡ beside_entry (entry c.args.s.now) (entry c.args.t.now) c.args.a c.loop-b.b =
    c.plus.ensures.value ∙ rw (c.times-first.ensures.value, c.times-second.ensures.value, c.loop-b.invariant.before, cumulated_at (entry c.args.t.now) c.args.a c.loop-b.b c.plus-reached.result (omega arith) reached, c.get-left.ensures.value, c.get-right.ensures.value) refl in
    record {
      front = c.in_ok-push.ensures.items ∙ row_more c.args.entries.now.items c.loop-b.entries.items (beside_entry (entry c.args.s.now) (entry c.args.t.now) c.args.a) c.plus.result c.args.a c.loop-b.b (omega arith) both c.loop-b.invariant.front;
      before = before;
      reached = reached;
      ticks = omega arith;
    }
