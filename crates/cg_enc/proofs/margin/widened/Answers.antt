use Rattle.std.proofs.Common.{arith, ◌+◌, ◌-◌, ◌≡◌, ◌∙◌, sym}
use Rattle.std.proofs.lemmas.Int.{ints}
use Rattle.cg_enc.proofs.Margins.{margin-zero, margin-value}
use Rattle.cg_enc.proofs.Norming.{norm-same}
use Rattle.cg_enc.proofs.margin.widened.Goals as goal

pub returns-then-hi-eq0-clause-value : goal.returns-then-hi-eq0-clause-value
returns-then-hi-eq0-clause-value c = c.zero.ensures.value ∙ sym (margin-zero c.args.a.now (sym c.hi.ensures.value ∙ c.if-hi-eq0.true))

pub returns-clause-value : goal.returns-clause-value
returns-clause-value c =
    let lower : c.saturating_sub.result ≡ c.args.a.now.lo - 1 = cc in
    let upper : c.hi-2.result + 1 ≡ c.args.a.now.hi + 1 = cc in
    c.settled.ensures ∙ norm-same _ _ _ _ _ c.args.a.now.exp lower upper (omega (arith, ints, c.exp.ensures.value)) ∙
    sym (margin-value c.args.a.now (omega (arith, c.hi.ensures.value, c.if-hi-eq0.false)))
