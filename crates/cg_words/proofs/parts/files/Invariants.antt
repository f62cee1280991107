use Rattle.std.proofs.Common.{map}
use Rattle.cg_words.specs.Reading.{AreFiles}
use Rattle.cg_words.proofs.parts.files.Given as goal

abbrev pub invariant-loop-part : goal.invariant-loop-part
invariant-loop-part l = AreFiles (map (λ part. part.now) l.yielded) (map (λ file. file.now) l.files.items)
