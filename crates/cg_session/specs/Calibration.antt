-- Which curve of a run serves a model.
use Rattle.std.specs.Prelude.{ℕ, ◌+◌, Bool, bytes_eq, List, [], ◌∷◌, Option, Some, None, position}
use Rattle.std.specs.Str.{str_to_ascii_lowercase}
use Rattle.cg_meaning.specs.Tree.{Name}
use Rattle.cg_curve.specs.Curves.{NamedCurve}
use Rattle.cg_up.specs.Curve.{rows_at}
use Rattle.cg_sharing.specs.Course.{Calibration}

-- the curve has the name, ASCII case aside
abbrev pub has_name : Name → NamedCurve → Bool
has_name name named = bytes_eq (str_to_ascii_lowercase named.name) (str_to_ascii_lowercase name)

-- numbers count from 1, and 0 is none
abbrev pub number_at : Option ℕ → ℕ
number_at None = 0
number_at (Some place) = place + 1

-- the number of the first curve, and 0 where there is none
abbrev pub first_number : List NamedCurve → ℕ
first_number [] = 0
first_number (first ∷ others) = 1

-- the number of the curve that serves a model: of the one that it names, else of the first; 0 for none
abbrev pub curve_number : List NamedCurve → Option Name → ℕ
curve_number curves None = first_number curves
curve_number curves (Some name) = number_at (position (has_name name) curves)

-- the rows of that curve, and no rows where there is none
abbrev pub calibration_of : List NamedCurve → Calibration
calibration_of curves name = rows_at curves (curve_number curves name)
