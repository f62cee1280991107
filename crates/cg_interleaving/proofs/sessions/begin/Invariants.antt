use Rattle.std.proofs.Common.{◌≡◌, ℕ, ◌++◌, [], false, map, List}
use Rattle.std.specs.List.{list_any}
use Rattle.cg_curve.specs.Curves.{NamedCurve}
use Rattle.cg_sharing.specs.Versions.{StartModel}
use Rattle.cg_sharing.specs.Journal.{shared_of}
use Rattle.cg_sharing.specs.Course.{Calibration}
use Rattle.cg_session.specs.Session.{script_of, is_stopped}
use Rattle.cg_interleaving.specs.Taking.{AreAt}
use Rattle.cg_interleaving.proofs.sessions.begin.Given as goal

-- the sessions of the scripts so far are there, and these and the rest are all scripts
abbrev pub invariant-loop-script : goal.invariant-loop-script
invariant-loop-script l = record {
  whole : l.yielded ++ l.script-iterator.rest.items ≡ l.fn.scripts.items;
  read : map script_of l.list.items ≡ l.yielded;
  at : (calibration : Calibration) (models : List StartModel) (capacity : ℕ) (curves : List NamedCurve) → AreAt calibration record { start = shared_of models capacity; journal = []; origin = curves } 1 l.list.items;
  going : list_any is_stopped l.list.items ≡ false;
}
