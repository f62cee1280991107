use Rattle.std.proofs.Common.{arith, ◌+◌, ◌<◌, ◌≤◌, ◌∙◌, sym}
use Rattle.std.proofs.lemmas.Int.{ints}
use borrow.Author.Differences.{up, down}
use Rattle.cg_enc.proofs.Sums.{plus-zero_left, plus-zero_right, plus-left, plus-right}
use Rattle.cg_enc.proofs.sum.sum.Goals as goal

pub returns-then-hi-eq0-clause-value : goal.returns-then-hi-eq0-clause-value
returns-then-hi-eq0-clause-value c = sym (plus-zero_left c.args.a.now c.args.b.now (sym c.hi.ensures.value ∙ c.if-hi-eq0.true))

pub returns-then-high-eq0-clause-value : goal.returns-then-high-eq0-clause-value
returns-then-high-eq0-clause-value c =
    sym (plus-zero_right c.args.a.now c.args.b.now (omega (arith, c.hi.ensures.value, c.if-hi-eq0.false)) (sym c.hi-high.ensures.value ∙ c.if-high-eq0.true))

pub returns-then-exp-clause-value : goal.returns-then-exp-clause-value
returns-then-exp-clause-value c =
    let order : up c.args.b.now.exp + down c.args.a.now.exp ≤ up c.args.a.now.exp + down c.args.b.now.exp = grind (arith, ints) in
    c.added.ensures ∙ sym (plus-left c.args.a.now c.args.b.now (omega (arith, c.hi.ensures.value, c.if-hi-eq0.false)) (omega (arith, c.hi-high.ensures.value, c.if-high-eq0.false)) order)

pub returns-else-exp-clause-value : goal.returns-else-exp-clause-value
returns-else-exp-clause-value c =
    let order : up c.args.a.now.exp + down c.args.b.now.exp < up c.args.b.now.exp + down c.args.a.now.exp = grind (arith, ints) in
    c.added-else-exp.ensures ∙ sym (plus-right c.args.a.now c.args.b.now (omega (arith, c.hi.ensures.value, c.if-hi-eq0.false)) (omega (arith, c.hi-high.ensures.value, c.if-high-eq0.false)) order)
