use Rattle.std.proofs.Common.{◌≡◌, ◌≤◌, List, map, take, length}
use Rattle.cg_meaning.specs.Tree.{Name}
use Rattle.cg_files.specs.Reading.{AreRead}
use Rattle.cg_files.specs.Inputs.{session_files, said_of_scripts}
use Rattle.cg_files.proofs.lists.read_scripts.Given as goal

-- the files up to the place were read, and the scripts are theirs
abbrev pub invariant-loop-place : goal.invariant-loop-place
invariant-loop-place g l = record {
  read : (given : List Name) → AreRead given (g.H.Shelf.told l.initial.shelf) (g.H.Shelf.told l.shelf) (session_files (map (λ file. file.now) (take l.place l.files))) (said_of_scripts l.scripts.items);
  count : length l.scripts.items ≡ l.place;
  later : g.H.Shelf.faults l.initial.shelf ≤ g.H.Shelf.faults l.shelf;
}
