use Rattle.std.proofs.Common.{◌≡◌, ◌+◌, ◌*◌, ◌/◌, ◌%◌, ◌^◌, ℕ, ap, arith}
use Rattle.cg_gen.specs.Draws.{after}
use Rattle.cg_gen.proofs.DrawLemmas.{after-one}
use Rattle.cg_gen.proofs.draws.Draws.draw.Goals as goal

-- what wraps twice is what is reduced once
wrapped : (n x : ℕ) → n ≡ x → (n * 6364136223846793005 % 2 ^ 64 + 1442695040888963407) % 2 ^ 64 ≡ after x 1
wrapped n x is = rw (is, after-one x) (omega arith)

pub returns-clause-number : goal.returns-clause-number
returns-clause-number c = wrapped c.self.inside.number c.args.self.now c.self.view_is

pub returns-clause-value : goal.returns-clause-value
returns-clause-value c = ap (λ (n : ℕ). n / 2 ^ 33 % c.args.below) (wrapped c.self.inside.number c.args.self.now c.self.view_is)
