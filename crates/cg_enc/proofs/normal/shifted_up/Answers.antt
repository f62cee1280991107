use Rattle.std.proofs.Common.{arith, ◌*◌, ◌/◌, ◌^◌, ◌<◌, ◌∙◌}
use Rattle.std.proofs.Math.Nat.{mod-eq_of_lt}
use Rattle.std.proofs.lemmas.Nat.{pow_pos}
use Rattle.cg_enc.proofs.Divisions.{ceil_next, floor_below}
use Rattle.cg_enc.proofs.normal.shifted_up.Goals as goal

pub returns-else-exact : goal.returns-else-exact
returns-else-exact c =
    let fits : c.args.n / 2 ^ c.args.places * 2 ^ c.args.places < 2 ^ 128 = omega (arith, floor_below c.args.n (2 ^ c.args.places), c.ranges.n.fits) in
    ceil_next c.args.n (2 ^ c.args.places) (pow_pos c.args.places) (λ e. c.if-exact.false (mod-eq_of_lt fits ∙ e))
