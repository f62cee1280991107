use Rattle.std.proofs.Common.{arith, ◌/◌, ◌^◌, ◌≡◌, ◌<◌, ◌≤◌, ◌∙◌, ℕ, w64, to_z, pos, sym, subst, ap, refl}
use Rattle.std.proofs.lemmas.Int.{ints}
use Rattle.std.proofs.lemmas.Nat.{pow_pos}
use Rattle.cg_enc.specs.Enclosure.{Enclosure, IsEnclosure}
use Rattle.cg_enc.specs.Rounding.{ceil_div, right, norm}
use Rattle.cg_enc.proofs.Divisions.{floor_ceil}
use Rattle.cg_enc.proofs.Norming.{same, right_moves, norm-right}
use Rattle.cg_enc.proofs.Widening.{norm-IsEnclosure}
use Rattle.cg_enc.proofs.normal.lowered.Goals as goal

near : (n s : ℕ) → 2 ^ 63 ≤ n → n < 2 ^ 128 → s ≡ right n → s ≤ 66
near n s large fits e = omega (arith, e, (right_moves n large fits).near)

upper : (n s : ℕ) → 2 ^ 63 ≤ n → n < 2 ^ 128 → s ≡ right n → ceil_div n (2 ^ s) < 2 ^ 63
upper n s large fits e = rw e (right_moves n large fits).most

numbers : (n s r : ℕ) → 2 ^ 63 ≤ n → n < 2 ^ 128 → s ≡ right n → r ≡ ceil_div n (2 ^ s) →
    ◌≡◌ {A = Enclosure} (record { lo = n / 2 ^ s; hi = r; exp = to_z w64 s }) (norm n n (pos 0))
numbers n s r large fits e er =
    same _ _ _ _ _ _ (ap (λ (x : ℕ). n / 2 ^ x) e) (er ∙ ap (λ (x : ℕ). ceil_div n (2 ^ x)) e) (omega (arith, ints, e, near n s large fits e)) ∙
    sym (norm-right n n (right n) (pos 0) large refl)

pub overflow_shr-n : goal.overflow_shr-n
overflow_shr-n c = omega (arith, near c.args.n c.right_places-places.result c.requires c.ranges.n.fits c.right_places-places.ensures)

pub overflow_cast-n : goal.overflow_cast-n
overflow_cast-n c =
    let s : ℕ = c.right_places-places.result in
    record { fits = omega (arith, upper c.args.n s c.requires c.ranges.n.fits c.right_places-places.ensures, floor_ceil c.args.n c.args.n (2 ^ s) (pow_pos s) (omega arith)) }

pub shifted_up-requires : goal.shifted_up-requires
shifted_up-requires c = omega (arith, near c.args.n c.right_places-places.result c.requires c.ranges.n.fits c.right_places-places.ensures)

pub overflow_cast-shifted_up : goal.overflow_cast-shifted_up
overflow_cast-shifted_up c = record { fits = omega (arith, c.shifted_up.ensures, upper c.args.n c.right_places-places.result c.requires c.ranges.n.fits c.right_places-places.ensures) }

pub made-requires : goal.made-requires
made-requires c =
    subst IsEnclosure (sym (numbers c.args.n c.right_places-places.result c.shifted_up.result c.requires c.ranges.n.fits c.right_places-places.ensures c.shifted_up.ensures)) (norm-IsEnclosure c.args.n c.args.n (pos 0) (omega arith) (omega (arith, c.requires)) c.ranges.n.fits)

pub returns : goal.returns
returns c = c.made.ensures ∙ numbers c.args.n c.right_places-places.result c.shifted_up.result c.requires c.ranges.n.fits c.right_places-places.ensures c.shifted_up.ensures
