-- The curve that serves an evaluation, by its number.
use Rattle.std.specs.Prelude.{ℕ, zero, suc, List, [], slice_get, Option, Some, None}
use Rattle.cg_meaning.specs.Curve.{Curve}
use Rattle.cg_curve.specs.Curves.{NamedCurve}

-- the rows of a curve, and none where there is none
abbrev pub curve_in : Option NamedCurve → Curve
curve_in None = []
curve_in (Some named) = named.curve

-- the rows of the curve of this number, counted from 1, and none for 0
abbrev pub rows_at : List NamedCurve → ℕ → Curve
rows_at curves zero = []
rows_at curves (suc place) = curve_in (slice_get curves place)
