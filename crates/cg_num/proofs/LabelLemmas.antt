-- Calendar years and labels agree.
use Rattle.std.proofs.Common.{rules}
use Rattle.cg_num.specs.Label.{LabelsNameTheirYears}

-- AD years and BC years are printed as themselves
pub labels_name_their_years : LabelsNameTheirYears
labels_name_their_years = search rules
