-- What the code's faults mean, and a curve that may be missing.
use Rattle.std.specs.Prelude.{[], Option, Some, None}
use Rattle.cg_meaning.specs.Curve as meaning
use Rattle.cg_meaning.specs.Cover as meaning_cover
use Rattle.cg_meaning.specs.Cover.{CoverFault}
use Rattle.cg_like.specs.declared.cover.LikeFault.{LikeFault}
use Rattle.cg_like.specs.declared.cover.LikeFault.TheVariants.{NoCurve, Uncovered, Far}

-- the rows of the curve, none where there is no curve
abbrev pub rows_of : Option meaning.Curve → meaning.Curve
rows_of None = []
rows_of (Some curve) = curve

-- the fault that an answer tells
abbrev pub fault_in : LikeFault → CoverFault
fault_in NoCurve = meaning_cover.NoCurve
fault_in (Uncovered year) = meaning_cover.Uncovered year
fault_in (Far year) = meaning_cover.Far year
