use Rattle.std.proofs.Common.{◌≡◌, ◌<◌, ℕ, length, get_or, map, arith, sym}
use Rattle.std.specs.List.{All}
use Rattle.std.specs.declared.cmp.Reverse.{Reverse}
use Rattle.std.proofs.lemmas.List.{length-map, get_or-map}
use Rattle.cg_ranges.specs.Cover.{lower_at}
use Rattle.cg_ranges.specs.Order.{cell_of, lower_of, IsInOrder}
use Rattle.cg_ranges.proofs.CoverLemmas.{enough}
use Rattle.cg_ranges.proofs.MarkLemmas.{IsDone, none-marked, more-marked, within-in_order, done-sum, done-marks}
use Rattle.cg_ranges.proofs.cover.taken.Goals.{else-loop-lower-test, then-loop-lower-test+then-sum-target}
use Rattle.cg_ranges.proofs.cover.taken.Goals as goal

pub loop-lower-init : goal.loop-lower-init
loop-lower-init c =
    let none = c.in_ok-marks.ensures.items_if_clones_equal (λ y h. h) in
    rw (none, c.len.ensures.cells) (none-marked c.args.pairs.now c.args.target (map cell_of c.deref-lower-items.result.now))

pub index_mut-requires : goal.index_mut-requires
index_mut-requires c =
    let ends = c.deref-lower-items.result.now in
    let i = c.loop-lower.lower-index in
    let d : Reverse ℕ × ℕ = (record { 0 = 0 }, 0) in
    let order : IsInOrder c.args.pairs.now (map cell_of ends) = rw c.deref-lower-items.ensures.value c.in_ok-ends.ensures.order in
    let less : i < length (map cell_of ends) = omega (arith, length-map ends cell_of) in
    omega (arith, within-in_order c.args.pairs.now (map cell_of ends) order i 0 less, get_or-map cell_of ends i d 0 c.loop-lower-test.true, c.loop-lower.invariant.long)

pub loop-lower-preserved : goal.loop-lower-preserved
loop-lower-preserved c =
    let ends = c.deref-lower-items.result.now in
    let i = c.loop-lower.lower-index in
    let d : Reverse ℕ × ℕ = (record { 0 = 0 }, 0) in
    let order : IsInOrder c.args.pairs.now (map cell_of ends) = rw c.deref-lower-items.ensures.value c.in_ok-ends.ensures.order in
    let lower : All (λ end. lower_of end ≡ lower_at c.args.pairs.now (cell_of end)) ends = rw c.deref-lower-items.ensures.value c.in_ok-ends.ensures.lower in
    more-marked c.args.pairs.now c.args.target (map cell_of ends) i c.loop-lower.sum c.loop-lower.marks.items (get_or ends i d).1 (get_or ends i d).0.0
    order c.loop-lower.invariant (omega (arith, length-map ends cell_of)) c.if-sum-target.false
    (sym (get_or-map cell_of ends i d 0 c.loop-lower-test.true)) (lower i d c.loop-lower-test.true)

done : (c : goal.After-drop-ends-2) → IsDone c.args.pairs.now c.args.target (map cell_of c.deref-lower-items.result.now) c.loop-lower.lower-index c.loop-lower.sum c.loop-lower.marks.items
done c = record {
  order = rw c.deref-lower-items.ensures.value c.in_ok-ends.ensures.order;
  marked = c.loop-lower.invariant;
  reached = λ less.
      let within = length-map c.deref-lower-items.result.now cell_of in
      elim c.loop-lower-test.branch [
        | else-loop-lower-test w ↦ absurd (omega (arith, w.loop-lower-test.false))
        | then-loop-lower-test+then-sum-target w ↦ w.if-sum-target.true
      ];
}

pub returns-clause-sum : goal.returns-clause-sum
returns-clause-sum c = done-sum c.args.pairs.now c.args.target (map cell_of c.deref-lower-items.result.now) c.loop-lower.lower-index c.loop-lower.sum c.loop-lower.marks.items (done c)

pub returns-clause-marks : goal.returns-clause-marks
returns-clause-marks c = done-marks c.args.pairs.now c.args.target (map cell_of c.deref-lower-items.result.now) c.loop-lower.lower-index c.loop-lower.sum c.loop-lower.marks.items (done c)

pub returns-clause-enough : goal.returns-clause-enough
returns-clause-enough c =
    rw (done-sum c.args.pairs.now c.args.target (map cell_of c.deref-lower-items.result.now) c.loop-lower.lower-index c.loop-lower.sum c.loop-lower.marks.items (done c))
    (enough c.args.pairs.now c.args.target c.len.ensures.pairs c.requires.few c.requires.target)
