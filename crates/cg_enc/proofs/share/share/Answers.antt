use Rattle.std.proofs.Common.{arith, ℕ, ◌*◌, ◌/◌, ◌^◌, ◌≡◌, ◌<◌, ◌∙◌, min, sym}
use Rattle.std.proofs.lemmas.Int.{ints}
use Rattle.cg_enc.specs.Enclosure.{Enclosure, IsEnclosure, IsFirm}
use Rattle.cg_enc.specs.Rounding.{ceil_div, gap}
use Rattle.cg_enc.proofs.Shares.{below-raised, above-raised, below-lowered, above-lowered, ppm_below-zero, ppm_above-zero}
use Rattle.cg_enc.proofs.share.share.Goals as goal

whole_full : (b : Enclosure) → IsEnclosure b → IsFirm b → 0 < b.hi
whole_full b v firm = omega (arith, v.ordered, firm)

pub returns-then-hi-eq0-clause-lower : goal.returns-then-hi-eq0-clause-lower
returns-then-hi-eq0-clause-lower c = ppm_below-zero c.args.num.now c.args.den.now c.hi.ensures.valid (sym c.hi.ensures.value ∙ c.if-hi-eq0.true) (whole_full c.args.den.now c.lo-whole.ensures.valid c.requires.firm)

pub returns-then-hi-eq0-clause-upper : goal.returns-then-hi-eq0-clause-upper
returns-then-hi-eq0-clause-upper c = ppm_above-zero c.args.num.now c.args.den.now (sym c.hi.ensures.value ∙ c.if-hi-eq0.true) c.requires.firm

pub returns-then-exp-clause-lower : goal.returns-then-exp-clause-lower
returns-then-exp-clause-lower c =
    let a : Enclosure = c.args.num.now in
    let b : Enclosure = c.args.den.now in
    let s : ℕ = c.distance-places.result in
    let places : s ≡ gap a.exp b.exp = omega (arith, ints, c.distance-places.ensures, c.exp-then-exp.ensures.value, c.exp-then-exp-2.ensures.value) in
    let order : gap b.exp a.exp ≡ 0 = grind (arith, ints) in
    let e : c.below.result ≡ min 1000000 (1000000 * min b.hi (a.lo * 2 ^ s) / b.hi) = cc in
    e ∙ below-raised a b s (whole_full b c.lo-whole.ensures.valid c.requires.firm) places order

pub returns-then-exp-clause-upper : goal.returns-then-exp-clause-upper
returns-then-exp-clause-upper c =
    let a : Enclosure = c.args.num.now in
    let b : Enclosure = c.args.den.now in
    let s : ℕ = c.distance-places.result in
    let places : s ≡ gap a.exp b.exp = omega (arith, ints, c.distance-places.ensures, c.exp-then-exp.ensures.value, c.exp-then-exp-2.ensures.value) in
    let order : gap b.exp a.exp ≡ 0 = grind (arith, ints) in
    let e : c.above.result ≡ min 1000000 (ceil_div (1000000 * min b.lo (a.hi * 2 ^ s)) b.lo) = cc in
    e ∙ above-raised a b s c.requires.firm places order

pub returns-clause-lower : goal.returns-clause-lower
returns-clause-lower c =
    let a : Enclosure = c.args.num.now in
    let b : Enclosure = c.args.den.now in
    let s : ℕ = c.distance-places-2.result in
    let places : s ≡ gap b.exp a.exp = omega (arith, ints, c.distance-places-2.ensures, c.exp-3.ensures.value, c.exp-4.ensures.value) in
    let order : gap a.exp b.exp ≡ 0 = grind (arith, ints) in
    let e : c.below-2.result ≡ min 1000000 (1000000 * a.lo / 2 ^ s / b.hi) = cc in
    e ∙ below-lowered a b s places order

pub returns-clause-upper : goal.returns-clause-upper
returns-clause-upper c =
    let a : Enclosure = c.args.num.now in
    let b : Enclosure = c.args.den.now in
    let s : ℕ = c.distance-places-2.result in
    let places : s ≡ gap b.exp a.exp = omega (arith, ints, c.distance-places-2.ensures, c.exp-3.ensures.value, c.exp-4.ensures.value) in
    let order : gap a.exp b.exp ≡ 0 = grind (arith, ints) in
    let e : c.above-2.result ≡ min 1000000 (ceil_div (ceil_div (1000000 * a.hi) (2 ^ s)) b.lo) = cc in
    e ∙ above-lowered a b s c.requires.firm places order
