use Rattle.std.proofs.Common.{arith, ◌≡◌, ◌^◌, ◌∙◌, ap, max, ℕ}
use Rattle.std.proofs.lemmas.Int.{ints}
use Rattle.std.specs.Prelude.{unsigned_abs}
use Rattle.cg_enc.specs.Rounding.{ceil_div}
use Rattle.cg_table.proofs.ReachLemmas.{reach_of-far}
use Rattle.cg_table.proofs.limits.greater_reach.Goals as goal

pub returns : goal.returns
returns c =
    let far : c.unsigned_abs-far.result ≡ unsigned_abs c.args.e.now.exp = omega (arith, ints) in
    rw (reach_of-far c.args.e.now) (c.max.ensures ∙ ap (λ (x : ℕ). max c.args.m (ceil_div x (2 ^ 31))) far)
