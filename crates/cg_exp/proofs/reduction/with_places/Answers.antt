use Rattle.std.proofs.Common.{◌≡◌, ◌*◌, ◌/◌, ◌%◌, ◌^◌, ◌<◌, arith}
use Rattle.std.proofs.Math.Nat.{mod-eq_of_lt, div-add-mod'}
use Rattle.std.proofs.lemmas.Nat.{shl_whole, pow_pos}
use Rattle.cg_exp.proofs.Reductions.{more_places}
use Rattle.cg_exp.proofs.reduction.with_places.Goals as goal

pub returns-clause-value : goal.returns-clause-value
returns-clause-value c =
    let rest : c.args.found.rest < 2 ^ 96 = omega arith in
    let wide : c.args.found.rest * 2 ^ c.args.places % 2 ^ 128 ≡ c.args.found.rest * 2 ^ c.args.places = shl_whole c.args.found.rest 96 c.args.places 128 rest (omega arith) in
    let fits : c.args.found.quotient * 2 ^ c.args.places < 2 ^ 64 = omega (arith, c.requires.room, pow_pos c.args.places) in
    let whole : c.args.found.quotient * 2 ^ c.args.places % 2 ^ 64 ≡ c.args.found.quotient * 2 ^ c.args.places = mod-eq_of_lt fits in
    rw (whole, wide) (more_places c.args.found.quotient c.args.q c.args.found.rest (2 ^ c.args.places) (c.args.found.rest * 2 ^ c.args.places / c.args.q) (c.args.found.rest * 2 ^ c.args.places % c.args.q) (div-add-mod' (c.args.found.rest * 2 ^ c.args.places) c.args.q))
