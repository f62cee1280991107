use Rattle.std.proofs.Common.{◌≡◌, ℕ, length, map, arith, ap, ◌∙◌, sym}
use Rattle.std.specs.List.{range_with_len}
use Rattle.std.proofs.lemmas.Option.{get_or_from_slice_get}
use Rattle.cg_ranges.proofs.EndLemmas.{end_at, ends_more, ends-lower, ends-in_order}
use Rattle.cg_ranges.proofs.cover.ends_in_order.Goals as goal

pub loop-cell-preserved : goal.loop-cell-preserved
loop-cell-preserved c =
    let lower = ap (λ (pair : ℕ × ℕ). pair.0) (sym (get_or_from_slice_get c.args.pairs.now c.loop-cell.cell c.pair.result (0, 0) c.pair.ensures.value)) in
    rw c.in_ok-push.ensures.items (ends_more c.args.pairs.now c.loop-cell.ends.items c.loop-cell.cell c.pair.result.0 c.loop-cell.invariant lower)

pub returns-clause-order : goal.returns-clause-order
returns-clause-order c =
    let all : c.loop-cell.cell ≡ length c.args.pairs.now = omega arith in
    let ends = c.loop-cell.invariant ∙ ap (λ (n : ℕ). map (end_at c.args.pairs.now) (range_with_len 0 n)) all in
    ends-in_order c.args.pairs.now c.sort_unstable.new.self.items (rw (sym ends) c.sort_unstable.ensures.permutation) c.sort_unstable.ensures.sorted

pub returns-clause-lower : goal.returns-clause-lower
returns-clause-lower c =
    let all : c.loop-cell.cell ≡ length c.args.pairs.now = omega arith in
    let ends = c.loop-cell.invariant ∙ ap (λ (n : ℕ). map (end_at c.args.pairs.now) (range_with_len 0 n)) all in
    ends-lower c.args.pairs.now c.sort_unstable.new.self.items (rw (sym ends) c.sort_unstable.ensures.permutation)
