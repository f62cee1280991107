use Rattle.std.proofs.Common.{arith, ◌∙◌, sym}
use Rattle.cg_enc.proofs.WholeNumbers.{of_whole-zero, of_whole-positive}
use Rattle.cg_enc.proofs.normal.whole.Goals as goal

pub returns-then-n-eq0 : goal.returns-then-n-eq0
returns-then-n-eq0 c = c.zero.ensures.value ∙ sym (of_whole-zero c.args.n c.if-n-eq0.true)

pub returns-then-n : goal.returns-then-n
returns-then-n c = c.raised.ensures ∙ sym (of_whole-positive c.args.n (omega (arith, c.if-n-eq0.false)))

pub returns : goal.returns
returns c = c.lowered.ensures ∙ sym (of_whole-positive c.args.n (omega (arith, c.if-n-eq0.false)))
