use Rattle.std.proofs.Common.{◌≡◌, ◌+◌, ◌*◌, ◌≤◌, drop}
use Rattle.cg_recipe.specs.Recipe.{in_order}
use Rattle.cg_message.specs.Element.{all_in, all_placed}
use Rattle.cg_message.specs.Pass.{AreHeld, AreSmall, HasRoom, nodes_among, pass_of}
use Rattle.cg_message.specs.Ticks.{in_order_ticks}
use Rattle.cg_message.proofs.tables.+tables.Given as goal

-- the elements that are left, after those so far, give the table of all, and there is room for them
abbrev pub invariant-in_order-loop-e : goal.invariant-in_order-loop-e
invariant-in_order-loop-e g l = record {
  value : in_order (pass_of l.pass) l.table (all_in (drop l.e-index l.items)) ≡ in_order (pass_of l.pass) l.initial.table (all_in l.items);
  ticks : l.steps + in_order_ticks l.pass.grid.cells (all_in (drop l.e-index l.items)) ≤ l.initial.steps + in_order_ticks l.pass.grid.cells (all_in l.items);
  small : AreSmall (all_in (drop l.e-index l.items));
  held : AreHeld l.pass (all_placed (drop l.e-index l.items));
  room : HasRoom l.pass.grid.cells (8 * nodes_among (all_in (drop l.e-index l.items))) l.table;
}
