use Rattle.std.proofs.Common.{◌≡◌, length, bytes_eq}
use Rattle.cg_words.specs.Reading.{are_distinct}
use Rattle.cg_words.proofs.distinct.are_names_distinct.Given as goal

abbrev pub invariant-loop-rest : goal.invariant-loop-rest
invariant-loop-rest l = are_distinct bytes_eq l.rest ≡ are_distinct bytes_eq l.named

abbrev pub decreases-loop-rest : goal.decreases-loop-rest
decreases-loop-rest l = length l.rest
