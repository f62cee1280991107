use Rattle.std.proofs.Common.{arith, rules, ℕ, ◌^◌, ◌≤◌, ◌<◌, inl, inr}
use Rattle.std.proofs.Math.Nat.{mul-le-mul_right}
use Rattle.std.proofs.lemmas.Bool.{cases_eq}
use Rattle.cg_enc.specs.Enclosure.{Enclosure, HasLoss, IsFirm}
use Rattle.cg_enc.proofs.enclosure.Enc.is_firm.Goals as goal

-- a lower end of 0 is 2 ^ 62 parts in 2 ^ 62 away
firm_of_loss : (a : Enclosure) (k : ℕ) → k < 2 ^ 62 → HasLoss a k → 0 < a.hi → IsFirm a
firm_of_loss a k small loss some =
    elim (cases_eq a.lo 0) [
      | inr firm ↦ omega arith
      | inl none ↦ absurd (omega (arith, loss, none, mul-le-mul_right a.hi small))
    ]

pub returns-clause-little_loss : goal.returns-clause-little_loss
returns-clause-little_loss c = λ k small loss some.
    let firm : 1 ≤ c.args.self.now.lo = firm_of_loss c.args.self.now k small loss some in
    search rules
