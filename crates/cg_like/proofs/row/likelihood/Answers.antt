use Rattle.std.proofs.Common.{◌≡◌, ◌+◌, ◌^◌, arith}
use Rattle.cg_enc.specs.Enclosure.{IsExponent}
use Rattle.cg_like.specs.Distance.{distance_in}
use Rattle.cg_like.specs.Likelihood.{likelihood_of}
use Rattle.cg_like.proofs.LikelihoodLemmas.{likelihood-found, likelihood-IsSmall, more_exponent}
use Rattle.cg_like.proofs.row.likelihood.Goals as goal
use Rattle.cg_like.proofs.row.likelihood.Goals.{After-over-square}

pub over-square-requires-clause-left : goal.over-square-requires-clause-left
over-square-requires-clause-left c =
    more_exponent c.times.result.exp (2 ^ 31 + 66 + 63) (2 ^ 60) (omega arith) (c.times.ensures.exponent (2 ^ 31) 66 c.exp_neg-power.ensures.exponent c.of_whole.ensures.exponent)

quotient : (c : After-over-square) → IsExponent (2 ^ 31 + 66 + 63 + 66 + 63) c.over-square.result.exp
quotient c = c.over-square.ensures.exponent (2 ^ 31 + 66 + 63) 66 (c.times.ensures.exponent (2 ^ 31) 66 c.exp_neg-power.ensures.exponent c.of_whole.ensures.exponent) c.of_whole-2.ensures.exponent

pub root-requires : goal.root-requires
root-requires c = more_exponent c.over-square.result.exp (2 ^ 31 + 66 + 63 + 66 + 63) (2 ^ 60) (omega arith) (quotient ((goal.at.root-requires c).After-over-square))

pub margin-requires : goal.margin-requires
margin-requires c =
    more_exponent c.root.result.exp (2 ^ 31 + 66 + 63 + 66 + 63 + 31) (2 ^ 60) (omega arith) (c.root.ensures.exponent (2 ^ 31 + 66 + 63 + 66 + 63) (quotient ((goal.at.margin-requires c).After-over-square)))

value : (c : goal.After-margin) → c.margin.result ≡ likelihood_of (distance_in c.args.distance)
value c =
    likelihood-found (distance_in c.args.distance) c.exp_neg-power.result c.of_whole.result c.times.result c.of_whole-2.result c.over-square.result c.root.result c.margin.result c.from-gap.result
    c.from-gap.ensures c.exp_neg-power.ensures.value c.of_whole.ensures.value c.times.ensures.value c.of_whole-2.ensures.value c.over-square.ensures.value c.root.ensures.value c.margin.ensures.value

pub returns-clause-value : goal.returns-clause-value
returns-clause-value c = value c

pub returns-clause-near : goal.returns-clause-near
returns-clause-near c =
    rw (value c) (more_exponent (likelihood_of (distance_in c.args.distance)).exp (2 ^ 31) (2 ^ 60) (omega arith) (likelihood-IsSmall (distance_in c.args.distance) c.requires).exponent)
