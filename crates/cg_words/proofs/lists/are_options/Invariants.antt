use Rattle.std.proofs.Common.{◌≡◌, map, length, string_bytes}
use Rattle.cg_words.specs.Reading.{are_options}
use Rattle.cg_words.proofs.lists.are_options.Given as goal

abbrev pub invariant-loop-rest : goal.invariant-loop-rest
invariant-loop-rest l = are_options (map string_bytes l.rest) ≡ are_options (map string_bytes l.words)

abbrev pub decreases-loop-rest : goal.decreases-loop-rest
decreases-loop-rest l = length l.rest
