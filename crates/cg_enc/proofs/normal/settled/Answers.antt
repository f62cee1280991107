use Rattle.std.proofs.Common.{arith, ◌∙◌, pos, ◌+ℤ◌, sym, refl}
use Rattle.std.proofs.lemmas.Int.{ints}
use Rattle.cg_enc.proofs.Norming.{same, norm-as_is, norm-right, right_one}
use Rattle.cg_enc.proofs.normal.settled.Goals as goal

pub returns-then-hi-lt-TOP : goal.returns-then-hi-lt-TOP
returns-then-hi-lt-TOP c =
    c.made.ensures ∙ same _ _ _ _ _ c.args.exp refl refl (omega (arith, ints)) ∙ sym (norm-as_is c.args.lo c.args.hi c.args.exp c.requires.least c.if-hi-lt-TOP.true)

pub returns-else-hi-lt-TOP : goal.returns-else-hi-lt-TOP
returns-else-hi-lt-TOP c =
    c.made-else-hi-lt-TOP.ensures ∙ same _ _ _ _ _ (c.args.exp +ℤ pos 1) refl refl (omega (arith, ints)) ∙
    sym (norm-right c.args.lo c.args.hi 1 c.args.exp c.if-hi-lt-TOP.false (right_one c.args.hi c.if-hi-lt-TOP.false c.requires.most))
