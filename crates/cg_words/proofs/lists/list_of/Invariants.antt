use Rattle.std.proofs.Common.{◌≡◌, map, length, string_bytes}
use Rattle.cg_words.specs.Reading.{list_of}
use Rattle.cg_words.proofs.lists.list_of.Given as goal

abbrev pub invariant-loop-rest : goal.invariant-loop-rest
invariant-loop-rest l = list_of l.option (map string_bytes l.rest) ≡ list_of l.option (map string_bytes l.words)

abbrev pub decreases-loop-rest : goal.decreases-loop-rest
decreases-loop-rest l = length l.rest
