-- A change that is in order, and is accepted, makes a model of a model: its limits, places and ranges are kept. chron's own.
use Rattle.std.specs.Prelude.{◌≡◌, Ok}
use Rattle.cg_meaning.specs.Tree.{Trees}
use Rattle.cg_model.specs.Limits.{IsModel}
use Rattle.cg_sharing.specs.Edit.{Edit, result_of}
use Rattle.cg_sharing.specs.Journal.{IsInOrder}

abbrev pub AreKept : Type 0
AreKept = (edit : Edit) (before after : Trees) → IsModel before → IsInOrder edit → result_of edit before ≡ Ok after → IsModel after
