use Rattle.std.proofs.Common.{◌+◌, ◌*◌}
use Rattle.cg_recipe.specs.Bounds.{nodes_in}
use Rattle.cg_message.specs.Element.{all_in, element_in}
use Rattle.cg_message.specs.Pass.{nodes_among}
use Rattle.cg_message.proofs.down.+down.Given as goal

-- the nodes that are left, and how far a step is from the next of them
abbrev pub decreases-parts_at : goal.decreases-parts_at
decreases-parts_at g l = 3 * nodes_in (element_in l.e.now)

abbrev pub decreases-parts_in_item : goal.decreases-parts_in_item
decreases-parts_in_item g l = 3 * nodes_in (element_in l.e.now) + 1

abbrev pub decreases-parts_in_order : goal.decreases-parts_in_order
decreases-parts_in_order g l = 3 * nodes_among (all_in l.items.now) + 2

abbrev pub decreases-parts_beside : goal.decreases-parts_beside
decreases-parts_beside g l = 3 * nodes_among (all_in l.items.now) + 2
