use Rattle.std.proofs.Common.{◌≡◌, ◌≤◌, List, map, take}
use Rattle.cg_meaning.specs.Tree.{Name}
use Rattle.cg_files.specs.Reading.{AreRead}
use Rattle.cg_files.specs.Inputs.{names_of, curve_files, said_of_curves}
use Rattle.cg_files.proofs.lists.read_curves.Given as goal

-- the files up to the place were read, and the curves are theirs
abbrev pub invariant-loop-place : goal.invariant-loop-place
invariant-loop-place g l = record {
  read : (given : List Name) → AreRead given (g.H.Shelf.told l.initial.shelf) (g.H.Shelf.told l.shelf) (curve_files (take l.place l.named)) (said_of_curves l.curves);
  names : map (λ one. one.name) l.curves ≡ names_of (take l.place l.named);
  later : g.H.Shelf.faults l.initial.shelf ≤ g.H.Shelf.faults l.shelf;
}
