use Rattle.std.proofs.Common.{◌≡◌, ◌+◌, ◌-◌, ◌≤◌, length, drop}
use Rattle.cg_recipe.specs.Recipe.{preceding_all}
use Rattle.cg_message.specs.Ticks.{in_order_ticks}
use Rattle.cg_message.specs.Element.{all_in}
use Rattle.cg_message.specs.Pass.{pass_of}
use Rattle.cg_message.proofs.preceding.preceding_all.Given as goal

-- the context of what precedes the last items so far
abbrev pub invariant-loop-behind : goal.invariant-loop-behind
invariant-loop-behind g l = record {
  value : l.v ≡ preceding_all (pass_of l.pass) (all_in (drop (length l.items - l.behind) l.items)) l.initial.v;
  ticks : l.steps ≤ l.initial.steps + in_order_ticks l.pass.grid.cells (all_in (drop (length l.items - l.behind) l.items));
}
