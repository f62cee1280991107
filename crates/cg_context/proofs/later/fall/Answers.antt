use Rattle.std.proofs.Common.{◌≡◌, suc, ◌+◌, ◌-◌, ◌∙◌, ℕ, arith, ap, ap₂, subst}
use Rattle.cg_enc.specs.Enclosure.{Enclosure}
use Rattle.cg_enc.specs.Rounding.{times}
use Rattle.cg_table.specs.Table.{entry, row_entry}
use Rattle.cg_context.specs.Formulas.{back_row_entry, sum_on}
use Rattle.cg_context.proofs.FallingLemmas.{AreFallen, fallen-more}
use Rattle.cg_context.proofs.LaterLemmas.{weighed-near, weighed_sum-near}
use Rattle.cg_context.proofs.TermLemmas.{sum_on-more}
use Rattle.cg_context.proofs.later.fall.Goals as goal

pub plus-sum-requires-clause-left : goal.plus-sum-requires-clause-left
plus-sum-requires-clause-left g c =
    weighed_sum-near c.args.v.now c.args.w.now c.args.a (c.args.v.now.cells - c.loop-i.i) c.loop-i.sum c.get.ensures.table c.len-cells.ensures.entries c.requires.reach c.loop-i.invariant.sum

pub plus-sum-requires-clause-right : goal.plus-sum-requires-clause-right
plus-sum-requires-clause-right g c =
    weighed-near c.args.v.now c.args.w.now c.args.a (c.len-cells.result - 1 - c.loop-i.i) c.times.result c.get.ensures.table c.len-cells.ensures.entries c.requires.reach
    (c.times.ensures.value ∙ ap₂ times c.get.ensures.value c.get-in-loop-i.ensures.entry)

pub loop-i-preserved : goal.loop-i-preserved
loop-i-preserved g c =
    let v = c.args.v.now in
    let w = c.args.w.now in
    let i : ℕ = c.loop-i.i in
    let d : ℕ = v.cells - (i + 1) in
    let at : c.len-cells.result - 1 - i ≡ d = omega (arith, c.len-cells.ensures.cells, c.requires.cells) in
    let next : v.cells - i ≡ suc d = omega arith in
    let more : v.cells - i ≡ d + 1 = omega arith in
    let f : ℕ → Enclosure = λ d. times (entry v c.args.a d) (row_entry w d) in
    let term : c.times.result ≡ f d = c.times.ensures.value ∙ ap₂ times c.get.ensures.value c.get-in-loop-i.ensures.entry ∙ ap f at in
    let sum : c.plus-sum.result ≡ sum_on v.cells d f =
    c.plus-sum.ensures.value ∙ sum_on-more v.cells d f c.loop-i.sum c.times.result (omega arith) (c.loop-i.invariant.sum ∙ ap (λ (n : ℕ). sum_on v.cells n f) next) term in
    record {
      sums = fallen-more (back_row_entry v.cells (entry v) (row_entry w) c.args.a) v.cells c.args.a c.args.base d _ c.args.sums.now c.loop-i.sums c.plus-sum.result (omega arith) (omega arith) (omega (arith, at)) (omega arith) sum
          (subst (λ (n : ℕ). AreFallen (back_row_entry v.cells (entry v) (row_entry w) c.args.a) v.cells c.args.a c.args.base n c.args.sums.now c.loop-i.sums) more c.loop-i.invariant.sums);
      sum = sum;
      ticks = omega (arith, c.loop-i.invariant.ticks);
    }
