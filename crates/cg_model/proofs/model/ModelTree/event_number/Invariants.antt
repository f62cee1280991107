use Rattle.std.proofs.Common.{◌≡◌, ◌≤◌, take}
use Rattle.std.specs.Prelude.{count_by}
use Rattle.cg_meaning.specs.Tree.{nodes_of_all}
use Rattle.cg_model.specs.Event.{is_event}
use Rattle.cg_model.proofs.model.ModelTree.event_number.Given as goal

-- the events so far are counted
abbrev pub invariant-loop-earlier : goal.invariant-loop-earlier
invariant-loop-earlier l = record {
  counted : l.number ≡ count_by is_event (take l.earlier (nodes_of_all l.self.top));
  few : l.number ≤ l.earlier;
}
