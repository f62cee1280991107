use Rattle.std.proofs.Common.{◌≡◌, ℕ, ◌+◌, ◌-◌, ◌<◌, ◌∙◌, ap, length, get_or, arith}
use Rattle.std.proofs.lemmas.List.{get_or_default, get_or-set_other}
use Rattle.cg_enc.specs.Enclosure.{exact_zero}
use Rattle.cg_table.specs.Table.{entry}
use Rattle.cg_context.specs.Formulas.{into_phase_entry}
use Rattle.cg_context.proofs.CountdownLemmas.{countdown-sum, countdown-fallen}
use Rattle.cg_context.proofs.PhaseLemmas.{own-term, later-term, own-near, later_term-near, later-near, later_at, phase_at}
use Rattle.cg_context.proofs.side.add_later.Goals as goal

pub plus-requires-clause-left : goal.plus-requires-clause-left
plus-requires-clause-left g c =
    let x = c.args.x.now in
    let size = c.cells-cells.ensures.value in
    let d : ℕ = c.cells-cells.result - 1 - c.loop-i.i in
    let inside : c.args.base + (d - c.args.a) < length c.loop-i.sums = omega (arith, size, c.loop-i.invariant.done.width, c.requires.width) in
    own-near x c.args.others.now c.args.a d (get_or c.loop-i.sums (c.args.base + (d - c.args.a)) c.index-sums-base.result) c.get-left.ensures.table c.get-right.ensures.table c.requires.reach c.requires.cells
    (omega (arith, size)) (omega (arith, size, c.requires.row))
    (get_or_default c.loop-i.sums (c.args.base + (d - c.args.a)) c.index-sums-base.result exact_zero inside ∙ c.loop-i.invariant.left d (omega (arith, size)) (omega (arith, size)))

pub plus-requires-clause-right : goal.plus-requires-clause-right
plus-requires-clause-right g c =
    later-near c.args.x.now c.args.others.now c.args.a (c.args.x.now.cells - c.loop-i.i) c.loop-i.later c.get-left.ensures.table c.get-right.ensures.table c.requires.reach c.loop-i.invariant.later

pub plus-later-requires-clause-left : goal.plus-later-requires-clause-left
plus-later-requires-clause-left g c =
    later-near c.args.x.now c.args.others.now c.args.a (c.args.x.now.cells - c.loop-i.i) c.loop-i.later c.get-left.ensures.table c.get-right.ensures.table c.requires.reach c.loop-i.invariant.later

pub plus-later-requires-clause-right : goal.plus-later-requires-clause-right
plus-later-requires-clause-right g c =
    let term = later_at c.args.x.now c.args.others.now c.args.a c.cells-cells.result c.loop-i.i c.get-left.result c.get-right.result c.times.result c.cells-cells.ensures.value c.get-left.ensures.value
    c.get-right.ensures.value c.times.ensures.value in
    later_term-near c.args.x.now c.args.others.now c.args.a (c.args.x.now.cells - 1 - c.loop-i.i) c.times.result c.get-left.ensures.table c.get-right.ensures.table c.requires.reach term

pub loop-i-preserved : goal.loop-i-preserved
loop-i-preserved g c =
    let x = c.args.x.now in
    let q = c.args.others.now in
    let a : ℕ = c.args.a in
    let i : ℕ = c.loop-i.i in
    let size = c.cells-cells.ensures.value in
    let d : ℕ = c.cells-cells.result - 1 - i in
    let same : d ≡ x.cells - (i + 1) = omega (arith, size) in
    let j : ℕ = c.args.base + (d - a) in
    let inside : j < length c.loop-i.sums = omega (arith, size, c.loop-i.invariant.done.width, c.requires.width) in
    let own : get_or c.loop-i.sums j c.index-sums-base.result ≡ own-term x q a (x.cells - (i + 1)) =
    get_or_default c.loop-i.sums j c.index-sums-base.result exact_zero inside ∙ c.loop-i.invariant.left d (omega (arith, size)) (omega (arith, size)) ∙ ap (own-term x q a) same in
    let whole = phase_at x q a (x.cells - (i + 1)) (x.cells - i) (get_or c.loop-i.sums j c.index-sums-base.result) c.loop-i.later c.plus.result own c.loop-i.invariant.later (omega (arith, size)) c.plus.ensures.value in
    let term = later_at x q a c.cells-cells.result i c.get-left.result c.get-right.result c.times.result size c.get-left.ensures.value c.get-right.ensures.value c.times.ensures.value in
    record {
      done = countdown-fallen (into_phase_entry x.cells (entry x) (entry q) a) x.cells a c.args.base i j c.args.sums.now c.loop-i.sums c.plus.result (omega (arith, size)) (omega (arith, size)) inside whole c.loop-i.invariant.done;
      left = λ b low high. get_or-set_other c.loop-i.sums j (c.args.base + (b - a)) c.plus.result exact_zero (λ e. absurd (omega (arith, size))) ∙ c.loop-i.invariant.left b low (omega arith);
      later = c.plus-later.ensures.value ∙ countdown-sum x.cells i (later-term x q a) c.loop-i.later c.times.result (omega (arith, size)) c.loop-i.invariant.later term;
      ticks = omega (arith, c.loop-i.invariant.ticks, c.tick.ensures);
    }
