-- What sessions of small scripts print, computed.
use Rattle.std.proofs.Common.{◌≡◌, ℕ, ◌+◌, List, [], ◌∷◌, map, refl, pos, None}
use Rattle.std.specs.Prelude.{codes}
use Rattle.cg_meaning.specs.Tree.{Name, Tree, Leaf, Group, Trees, none, more, Sequence, Free}
use Rattle.cg_meaning.specs.Scene.{Scene, scene_on}
use Rattle.cg_sharing.specs.Edit.{Add, result_of}
use Rattle.cg_sharing.specs.Command as command
use Rattle.cg_sharing.specs.Command.{Command, Line, Open, Change, Commit}
use Rattle.cg_sharing.specs.Versions.{StartModel}
use Rattle.cg_sharing.specs.Pieces.{Print, prints_of}
use Rattle.cg_sharing.specs.Interleaving.{interleaving}

abbrev date : Name → Tree
date name = Leaf name Free

-- Sequence("s"){ <members> };
abbrev sequence_of : Trees → Trees
sequence_of members = more (Group Sequence (codes "s") members) none

-- Sequence("s"){Date("A");Date("B");};
abbrev main_model : StartModel
main_model = record { name = codes "main"; chronology = record { curve = None; top = sequence_of (more (date (codes "A")) (more (date (codes "B")) none)) } }

abbrev lines_from : ℕ → List Command → List Line
lines_from number [] = []
lines_from number (command ∷ commands) = record { number = number; command = command } ∷ lines_from (number + 1) commands

abbrev add_to_s : Name → Command
add_to_s name = Change (Add (codes "s") (date name))

-- the first session adds "C" and commits
abbrev committing : List Line
committing = lines_from 1 (Open (codes "main") ∷ add_to_s (codes "C") ∷ Commit (codes "main") ∷ [])

-- the second prints before its grid is set, then adds "D" to the same version, and prints it by its ranges, "C" and, of
-- the head, "C"
abbrev printing : List Line
printing = lines_from 1 (Open (codes "main") ∷ command.Print (codes "A") ∷ command.Grid (pos 2000) (pos 2000) ∷ add_to_s (codes "D")
    ∷ command.Ranges (codes "D") ∷ command.Print (codes "C") ∷ Open (codes "main") ∷ command.Print (codes "C") ∷ [])

abbrev year_2000 : Scene
year_2000 = scene_on (record { oldest = pos 2000; cells = 1 })

-- the third event of the Sequence that has this one beside "A" and "B", in a version of this number
abbrev third_of : Name → ℕ → Print
third_of name version = record {
  name = name;
  version = version;
  chronology = record { curve = None; top = sequence_of (more (date (codes "A")) (more (date (codes "B")) (more (date name) none))) };
  scene = year_2000;
  event = 2;
}

-- Whatever the other session commits in between, a print is of the session's own version.
own_version : map (λ place. prints_of place.written) (interleaving (λ name. []) (main_model ∷ []) 0 (committing ∷ printing ∷ []) (2 ∷ 1 ∷ 1 ∷ 1 ∷ 2 ∷ 2 ∷ [])).places
    ≡ [] ∷ (third_of (codes "D") 2 ∷ third_of (codes "C") 1 ∷ []) ∷ []
unfolding result_of
own_version = refl
