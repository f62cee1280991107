use Rattle.std.proofs.Common.{ℕ, ◌<◌, get_or}
use Rattle.cg_curve.specs.Curves.{NamedCurve, IsSameCurveName}
use Rattle.cg_curve.proofs.curves.Curves.find.Given as goal

-- no curve passed so far has the name
abbrev pub invariant-loop-place : goal.invariant-loop-place
invariant-loop-place l = (k : ℕ) (d : NamedCurve) → k < l.place → ¬ IsSameCurveName (get_or l.named-items k d).name l.name
