use Rattle.std.proofs.Common.{◌≡◌, length}
use Rattle.cg_words.specs.Reading.{is_same_name, are_distinct}
use Rattle.cg_words.proofs.distinct.are_curve_names_distinct.Given as goal

abbrev pub invariant-loop-rest : goal.invariant-loop-rest
invariant-loop-rest l = are_distinct is_same_name l.rest ≡ are_distinct is_same_name l.named

abbrev pub decreases-loop-rest : goal.decreases-loop-rest
decreases-loop-rest l = length l.rest
