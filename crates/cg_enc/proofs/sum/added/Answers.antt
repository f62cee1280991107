use Rattle.std.proofs.Common.{arith, ◌≡◌, ◌∙◌, sym}
use Rattle.std.proofs.lemmas.Int.{ints}
use Rattle.cg_enc.specs.Rounding.{gap}
use Rattle.cg_enc.proofs.Norming.{norm-same}
use Rattle.cg_enc.proofs.Sums.{plus_at-norm}
use Rattle.cg_enc.proofs.sum.added.Goals as goal

pub returns : goal.returns
returns c =
    let places : c.distance-places.result ≡ gap c.args.a.now.exp c.args.b.now.exp =
    omega (arith, ints, c.distance-places.ensures, c.exp.ensures.value, c.exp-2.ensures.value) in
    c.settled.ensures ∙ norm-same _ _ _ _ _ c.args.a.now.exp (cc) (cc) (omega (arith, ints, c.exp-3.ensures.value)) ∙
    sym (plus_at-norm c.args.a.now c.args.b.now)
