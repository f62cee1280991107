use Rattle.std.proofs.Common.{◌≡◌, ◌+◌, ◌*◌, ◌≤◌, length, drop}
use Rattle.cg_recipe.specs.Recipe.{in_order, side_by_side}
use Rattle.cg_recipe.specs.Ticks.{in_order_ticks, side_by_side_ticks}
use Rattle.cg_up.specs.Element.{all_in}
use Rattle.cg_up.specs.Pass.{AreFit, HasRoom, nodes_among, pass_of}
use Rattle.cg_up.proofs.tables.+tables.Given as goal

-- the elements that are left, after those so far, give the table of all, and there is room for them
abbrev pub invariant-in_order-loop-e : goal.invariant-in_order-loop-e
invariant-in_order-loop-e g l = record {
  value : in_order (pass_of l.pass) l.table (all_in (drop l.e-index l.items)) ≡ in_order (pass_of l.pass) l.initial.table (all_in l.items);
  ticks : l.steps + in_order_ticks l.pass.cells (all_in (drop l.e-index l.items)) ≤ l.initial.steps + in_order_ticks l.pass.cells (all_in l.items);
  fit : AreFit (length l.pass.rows.now) (all_in (drop l.e-index l.items));
  room : HasRoom l.pass.cells (8 * nodes_among (all_in (drop l.e-index l.items))) l.table;
}

-- the same of elements beside each other
abbrev pub invariant-side_by_side-loop-e : goal.invariant-side_by_side-loop-e
invariant-side_by_side-loop-e g l = record {
  value : side_by_side (pass_of l.pass) l.table (all_in (drop l.e-index l.items)) ≡ side_by_side (pass_of l.pass) l.initial.table (all_in l.items);
  ticks : l.steps + side_by_side_ticks l.pass.cells (all_in (drop l.e-index l.items)) ≤ l.initial.steps + side_by_side_ticks l.pass.cells (all_in l.items);
  fit : AreFit (length l.pass.rows.now) (all_in (drop l.e-index l.items));
  room : HasRoom l.pass.cells (8 * nodes_among (all_in (drop l.e-index l.items))) l.table;
}
