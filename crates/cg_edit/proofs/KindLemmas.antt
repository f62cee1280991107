-- The kind that a search over nodes finds first.
use Rattle.std.proofs.Common.{◌≡◌, true, Option, Some, None}
use Rattle.std.specs.Prelude.{is_some, option_map}
use Rattle.cg_meaning.specs.Tree.{Kind}
use Rattle.cg_model.specs.Group.{kind_in}
use Rattle.cg_model.specs.declared.group.GroupKind.{GroupKind}
use Rattle.cg_sharing.specs.Edit.{or_else}

-- what is found first is what is found in all
pub first_found : (found : Option GroupKind) (first second : Option Kind) → is_some found ≡ true → option_map kind_in found ≡ first → option_map kind_in found ≡ or_else first second
first_found None first second is same = absurd (cc)
first_found (Some kind) None second is same = absurd (cc)
first_found (Some kind) (Some parent) second is same = same
