-- What a step of a path means.
use Rattle.cg_meaning.specs.Tree as spec
use Rattle.cg_model.specs.Group.{kind_in}
use Rattle.cg_listing.specs.declared.path.Step.{Step}

abbrev pub step_of : Step → spec.Step
step_of step = record { kind = kind_in step.kind; place = step.place }
