use Rattle.std.proofs.Common.{◌≡◌, ◌≤◌, map, take}
use Rattle.cg_files.specs.Reading.{AreRead}
use Rattle.cg_files.specs.Inputs.{names_of, model_files, said_of_models}
use Rattle.cg_files.proofs.lists.read_models.Given as goal

-- the files up to the place were read, and the models are theirs
abbrev pub invariant-loop-place : goal.invariant-loop-place
invariant-loop-place g l = record {
  read : AreRead (names_of l.curves) (g.H.Shelf.told l.initial.shelf) (g.H.Shelf.told l.shelf) (model_files (take l.place l.named)) (said_of_models l.models);
  names : map (λ one. one.name) l.models ≡ names_of (take l.place l.named);
  later : g.H.Shelf.faults l.initial.shelf ≤ g.H.Shelf.faults l.shelf;
}
