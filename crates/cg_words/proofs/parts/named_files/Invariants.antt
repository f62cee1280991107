use Rattle.std.proofs.Common.{map}
use Rattle.std.specs.List.{AllZip}
use Rattle.cg_words.specs.Reading.{SaysNamed}
use Rattle.cg_words.proofs.parts.named_files.Given as goal

abbrev pub invariant-loop-part : goal.invariant-loop-part
invariant-loop-part l = AllZip SaysNamed (map (λ part. part.now) l.yielded) l.named.items
