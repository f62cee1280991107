use Rattle.std.proofs.Common.{◌≡◌, ◌<◌, ◌*ℤ◌, ◌-ℤ◌, ◌+◌, ◌^◌, pos, FitsSigned, w64, arith, sym, subst, ℤ}
use Rattle.std.proofs.lemmas.Int.{to_z-of_z}
use Rattle.cg_meaning.specs.Weights.{square}
use Rattle.cg_like.proofs.DistanceLemmas.{product_fits, difference_fits, age_fits, sigma_fits, squares_fit, same}
use Rattle.cg_like.proofs.distance.from_curve.Goals as goal

pub overflow_sub-thousandths : goal.overflow_sub-thousandths
overflow_sub-thousandths c =
    let r = c.requires in let t = c.thousandths in let g = c.from-gap.result in let y = c.args.at.age in
    let f : FitsSigned w64 t.result = record { sfits = t.type_inv } in
    let fg : FitsSigned w64 g = record { sfits = c.from-gap.type_inv } in
    let fy : FitsSigned w64 y = age_fits y c.args.at.gap r.gap_high r.age_low r.age_high in
    let p : FitsSigned w64 (t.result *ℤ g) = subst (λ (z : ℤ). FitsSigned w64 (t.result *ℤ z)) (sym c.from-gap.ensures) (product_fits t.result c.args.at.gap t.ensures.low t.ensures.high r.gap_high) in
    let d : FitsSigned w64 (t.result *ℤ g -ℤ y) = subst (λ (z : ℤ). FitsSigned w64 (t.result *ℤ z -ℤ y)) (sym c.from-gap.ensures)
    (difference_fits t.result y c.args.at.gap t.ensures.low t.ensures.high r.gap_high r.age_low r.age_high) in
    simp to_z-of_z d

pub overflow_mul-thousandths-2 : goal.overflow_mul-thousandths-2
overflow_mul-thousandths-2 c =
    let r = c.requires in let t = c.thousandths-2 in let g = c.from-gap.result in
    let f : FitsSigned w64 t.result = record { sfits = t.type_inv } in
    let fg : FitsSigned w64 g = record { sfits = c.from-gap.type_inv } in
    let p : FitsSigned w64 (t.result *ℤ g) = subst (λ (z : ℤ). FitsSigned w64 (t.result *ℤ z)) (sym c.from-gap.ensures) (product_fits t.result c.args.at.gap t.ensures.low t.ensures.high r.gap_high) in
    simp to_z-of_z p

-- the second square, and the third
squares : (c : goal.After-square-3) →
    (c.square-2.result ≡ square (c.args.error.now *ℤ pos c.args.at.gap)) × (c.square-3.result ≡ square c.args.at.sigma)
squares c =
    let r = c.requires in let t = c.thousandths-2 in let g = c.from-gap.result in
    let f : FitsSigned w64 t.result = record { sfits = t.type_inv } in
    let fg : FitsSigned w64 g = record { sfits = c.from-gap.type_inv } in
    let fs : FitsSigned w64 c.args.at.sigma = sigma_fits c.args.at.sigma c.args.at.gap r.gap_high r.sigma_low r.sigma_high in
    let p : FitsSigned w64 (t.result *ℤ g) = subst (λ (z : ℤ). FitsSigned w64 (t.result *ℤ z)) (sym c.from-gap.ensures) (product_fits t.result c.args.at.gap t.ensures.low t.ensures.high r.gap_high) in
    let e : c.square-2.result ≡ square (t.result *ℤ g) = simp to_z-of_z at c.square-2.ensures in
    let s : c.square-3.result ≡ square c.args.at.sigma = simp to_z-of_z at c.square-3.ensures in
    (cc (t.ensures.number, c.from-gap.ensures), s)

pub overflow_add-result : goal.overflow_add-result
overflow_add-result c =
    let r = c.requires in let t = c.thousandths-2 in
    let k : square (c.args.error.now *ℤ pos c.args.at.gap) + square c.args.at.sigma < 2 ^ 128 =
    subst (λ (z : ℤ). square (z *ℤ pos c.args.at.gap) + square c.args.at.sigma < 2 ^ 128) t.ensures.number
    (squares_fit t.result c.args.at.sigma c.args.at.gap t.ensures.low t.ensures.high r.gap_high r.sigma_low r.sigma_high) in
    record { fits = omega (arith, (squares c).0, (squares c).1, k) }

pub returns : goal.returns
returns c =
    let r = c.requires in let t = c.thousandths in let g = c.from-gap.result in let y = c.args.at.age in
    let f : FitsSigned w64 t.result = record { sfits = t.type_inv } in
    let fg : FitsSigned w64 g = record { sfits = c.from-gap.type_inv } in
    let fy : FitsSigned w64 y = age_fits y c.args.at.gap r.gap_high r.age_low r.age_high in
    let p : FitsSigned w64 (t.result *ℤ g) = subst (λ (z : ℤ). FitsSigned w64 (t.result *ℤ z)) (sym c.from-gap.ensures) (product_fits t.result c.args.at.gap t.ensures.low t.ensures.high r.gap_high) in
    let d : FitsSigned w64 (t.result *ℤ g -ℤ y) = subst (λ (z : ℤ). FitsSigned w64 (t.result *ℤ z -ℤ y)) (sym c.from-gap.ensures)
    (difference_fits t.result y c.args.at.gap t.ensures.low t.ensures.high r.gap_high r.age_low r.age_high) in
    let e : c.square.result ≡ square (t.result *ℤ g -ℤ y) = simp to_z-of_z at c.square.ensures in
    let first : c.square.result ≡ square (c.args.age.now *ℤ pos c.args.at.gap -ℤ y) = cc (t.ensures.number, c.from-gap.ensures) in
    same _ _ _ _ _ _ _ first (squares c).0 (squares c).1
