-- The recipe, computed by its definitions on arguments that are worked out by `cases/exponential_cases.py`.
use Rattle.std.proofs.Common.{◌≡◌, negsuc, refl}
use Rattle.cg_enc.specs.Rounding.{least, left, norm}
use Rattle.cg_exp.specs.Exponential.{halvings, reduced_below, reduced_above, horner_after, start, squared, halved, exp_neg_of}

halvings_few : (halvings 0 1 ≡ 0) × (halvings 1 4 ≡ 0) × (halvings 1 3 ≡ 1) × (halvings 1 2 ≡ 1) × (halvings 1 1 ≡ 2) × (halvings 10 1 ≡ 6)
unfolding halvings least
halvings_few = (refl, refl, refl, refl, refl, refl)

halvings_most : (halvings 268435455 1 ≡ 30) × (halvings 268435456 1 ≡ 30) × (halvings 134217728 1 ≡ 29)
unfolding halvings least
halvings_most = (refl, refl, refl)

reduced_third : (reduced_below 1 3 1 ≡ 0xaaa_aaaa_aaaa_aaaa) × (reduced_above 1 3 1 ≡ 0xaaa_aaaa_aaaa_aaab)
reduced_third = (refl, refl)

-- e ^ 0
at_zero : exp_neg_of 0 1 ≡ record { lo = 0x4000_0000_0000_0000; hi = 0x4000_0000_0000_0000; exp = negsuc 61 }
unfolding halved halvings horner_after start squared least norm
at_zero = refl

-- e ^ -1/4
at_quarter : exp_neg_of 1 4 ≡ record { lo = 0x63af_be7a_b208_2ba0; hi = 0x63af_be7a_b208_2ba2; exp = negsuc 62 }
unfolding halved halvings horner_after start squared least left norm
at_quarter = refl
