-- What a dating means.
use Rattle.cg_meaning.specs.Tree as spec
use Rattle.cg_model.specs.declared.dating.Dating.{Dating}
use Rattle.cg_model.specs.declared.dating.Dating.TheVariants.{Free, Exact, Normal, Carbon}

-- years are cal BP, ages and errors thousandths of a year
abbrev pub dating_of : Dating → spec.Dating
dating_of Free = spec.Free
dating_of (Exact year) = spec.Exact year
dating_of (Normal year error) = spec.Normal year error
dating_of (Carbon age error) = spec.Carbon age error
