-- Up to four curves by name.
use Rattle.std.specs.Prelude.{◌≡◌, ℕ, ◌-◌, ◌≤◌, List, length, All, AllPairs, slice_get, IsSomeAnd}
use Rattle.std.specs.Str.{str_to_ascii_lowercase}
use Rattle.cg_meaning.specs.Curve.{Curve}

-- A curve with its name.
pub record NamedCurve : Type 0 where
  pub name : List ℕ
  pub curve : Curve

-- the names are equal, ASCII case aside
abbrev pub IsSameCurveName : List ℕ → List ℕ → Type 0
IsSameCurveName a b = str_to_ascii_lowercase a ≡ str_to_ascii_lowercase b

-- no curve has the name, ASCII case aside
abbrev pub IsNew : List NamedCurve → List ℕ → Type 0
IsNew curves name = All (λ named. ¬ IsSameCurveName named.name name) curves

-- The curve of this number, counted from 1, has the name, ASCII case aside.
pub record HasName (curves : List NamedCurve) (name : List ℕ) (number : ℕ) : Type 0 where
  pub some : 1 ≤ number
  pub known : number ≤ length curves
  pub same : IsSomeAnd (slice_get curves (number - 1)) (λ named. IsSameCurveName named.name name)

-- At most four, and no name stands twice, ASCII case aside.
pub record AreCurves (curves : List NamedCurve) : Type 0 where
  pub few : length curves ≤ 4
  pub distinct : AllPairs (λ a b. ¬ IsSameCurveName a.name b.name) curves
