use Rattle.std.proofs.Common.{map}
use Rattle.std.specs.List.{AllZip}
use Rattle.cg_words.specs.Reading.{SaysTurn}
use Rattle.cg_words.proofs.parts.turns.Given as goal

abbrev pub invariant-loop-part : goal.invariant-loop-part
invariant-loop-part l = AllZip (SaysTurn l.sessions) (map (λ part. part.now) l.yielded) l.turns.items
