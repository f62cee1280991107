use Rattle.std.proofs.Common.{map}
use Rattle.cg_ranges.specs.Order.{cell_of}
use Rattle.cg_ranges.proofs.MarkLemmas.{IsMarked}
use Rattle.cg_ranges.proofs.cover.taken.Given as goal

abbrev pub invariant-loop-lower : goal.invariant-loop-lower
invariant-loop-lower l = IsMarked l.pairs l.target (map cell_of l.lower-items) l.lower-index l.sum l.marks.items
