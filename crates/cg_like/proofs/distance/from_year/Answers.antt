use Rattle.std.proofs.Common.{◌≡◌, ◌*ℤ◌, ◌-ℤ◌, pos, arith, ap, ◌∙◌, w64, to_z, of_z, ℤ}
use Rattle.std.proofs.lemmas.Int.{ints}
use Rattle.cg_meaning.specs.Weights.{square}
use Rattle.cg_like.proofs.DistanceLemmas.{same_of_year}
use Rattle.cg_like.proofs.distance.from_year.Goals as goal

pub returns : goal.returns
returns c =
    let years : to_z w64 (of_z w64 (pos 1000 *ℤ (to_z w64 (of_z w64 c.from.result)))) ≡ pos 1000 *ℤ (c.args.year.now -ℤ c.args.own.now) = omega (arith, ints) in
    let error : to_z w64 (of_z w64 c.thousandths.result) ≡ c.args.error.now = omega (arith, ints) in
    same_of_year _ _ _ _ (c.square.ensures ∙ ap (λ (z : ℤ). square z) years) (c.square-2.ensures ∙ ap (λ (z : ℤ). square z) error)
