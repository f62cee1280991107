use Rattle.std.proofs.Common.{◌*ℤ◌, ◌+ℤ◌, FitsSigned, w64}
use Rattle.std.proofs.lemmas.Int.{to_z-of_z}
use Rattle.cg_curve.proofs.PointLemmas.{fits_product, fits_sum}
use Rattle.cg_curve.proofs.curve.on_line.Goals as goal

pub overflow_add-result : goal.overflow_add-result
overflow_add-result c =
    let a = c.args in let r = c.requires in
    let o : FitsSigned w64 a.older = c.ranges.older in
    let y : FitsSigned w64 a.younger = c.ranges.younger in
    let t : FitsSigned w64 a.to_younger = c.ranges.to_younger in
    let f : FitsSigned w64 a.from_older = c.ranges.from_older in
    let p : FitsSigned w64 (a.older *ℤ a.to_younger) = fits_product a.older a.to_younger r.older r.to_younger in
    let q : FitsSigned w64 (a.younger *ℤ a.from_older) = fits_product a.younger a.from_older r.younger r.from_older in
    simp to_z-of_z (fits_sum a.older a.to_younger a.younger a.from_older r.older r.to_younger r.younger r.from_older)

pub returns : goal.returns
returns c =
    let a = c.args in let r = c.requires in
    let o : FitsSigned w64 a.older = c.ranges.older in
    let y : FitsSigned w64 a.younger = c.ranges.younger in
    let t : FitsSigned w64 a.to_younger = c.ranges.to_younger in
    let f : FitsSigned w64 a.from_older = c.ranges.from_older in
    let p : FitsSigned w64 (a.older *ℤ a.to_younger) = fits_product a.older a.to_younger r.older r.to_younger in
    let q : FitsSigned w64 (a.younger *ℤ a.from_older) = fits_product a.younger a.from_older r.younger r.from_older in
    let s : FitsSigned w64 (a.older *ℤ a.to_younger +ℤ a.younger *ℤ a.from_older) =
    fits_sum a.older a.to_younger a.younger a.from_older r.older r.to_younger r.younger r.from_older in
    simp to_z-of_z
