use Rattle.std.proofs.Common.{◌≡◌, ◌+◌, ◌-◌, ◌∙◌, ap₂, arith}
use Rattle.cg_enc.specs.Enclosure.{Enclosure}
use Rattle.cg_enc.specs.Rounding.{times}
use Rattle.cg_table.specs.Table.{entry}
use Rattle.cg_table.proofs.PlaceLemmas.{row_more}
use Rattle.cg_table.proofs.WithinLemmas.{sum-near, sum_of-more, cumulated_at}
use Rattle.cg_context.proofs.PhaseLemmas.{own-term}
use Rattle.cg_context.proofs.side.push_own.Goals as goal

pub plus-reached-requires-clause-left : goal.plus-reached-requires-clause-left
plus-reached-requires-clause-left g c =
    sum-near c.args.others.now c.args.a c.args.a (c.loop-d.d - c.args.a) c.loop-d.reached c.get.ensures.table (omega (arith, c.requires.reach)) (omega (arith, c.requires.cells)) c.loop-d.invariant.reached

pub times-requires-clause-right : goal.times-requires-clause-right
times-requires-clause-right g c =
    let q = c.args.others.now in
    let reached = c.plus-reached.ensures.value ∙ sum_of-more (entry q c.args.a) c.args.a c.loop-d.d c.loop-d.reached c.get.result (omega arith) c.loop-d.invariant.reached c.get.ensures.value in
    sum-near q c.args.a c.args.a (c.loop-d.d + 1 - c.args.a) c.plus-reached.result c.get.ensures.table (omega (arith, c.requires.reach)) (omega (arith, c.requires.cells)) reached

pub loop-d-preserved : goal.loop-d-preserved
loop-d-preserved g c =
    let x = c.args.x.now in
    let q = c.args.others.now in
    let reached = c.plus-reached.ensures.value ∙ sum_of-more (entry q c.args.a) c.args.a c.loop-d.d c.loop-d.reached c.get.result (omega arith) c.loop-d.invariant.reached c.get.ensures.value in
    let own : c.times.result ≡ own-term x q c.args.a c.loop-d.d =
    c.times.ensures.value ∙ ap₂ (λ (u v : Enclosure). times u v) c.get-in-loop-d.ensures.value (cumulated_at (entry q) c.args.a c.loop-d.d c.plus-reached.result (omega arith) reached) in
    record {
      front = c.in_ok-push.ensures.items ∙ row_more c.args.entries.now.items c.loop-d.entries.items (own-term x q c.args.a) c.times.result c.args.a c.loop-d.d (omega arith) own c.loop-d.invariant.front;
      reached = reached;
      ticks = omega arith;
    }
