use Rattle.std.proofs.Common.{◌≡◌, ◌+◌, ◌*◌, ◌≤◌, drop}
use Rattle.cg_recipe.specs.Recipe.{side_by_side}
use Rattle.cg_message.specs.Element.{all_in, all_placed}
use Rattle.cg_message.specs.Pass.{AreHeld, AreSmall, HasRoom, nodes_among, pass_of}
use Rattle.cg_message.specs.Ticks.{side_by_side_ticks}
use Rattle.cg_message.proofs.tables.side_by_side.Given as goal

-- the elements that are left, beside those so far, give the table of all, and there is room for them
abbrev pub invariant-loop-e : goal.invariant-loop-e
invariant-loop-e g l = record {
  value : side_by_side (pass_of l.pass) l.table (all_in (drop l.e-index l.items)) ≡ side_by_side (pass_of l.pass) l.initial.table (all_in l.items);
  ticks : l.steps + side_by_side_ticks l.pass.grid.cells (all_in (drop l.e-index l.items)) ≤ l.initial.steps + side_by_side_ticks l.pass.grid.cells (all_in l.items);
  small : AreSmall (all_in (drop l.e-index l.items));
  held : AreHeld l.pass (all_placed (drop l.e-index l.items));
  room : HasRoom l.pass.grid.cells (8 * nodes_among (all_in (drop l.e-index l.items))) l.table;
}
