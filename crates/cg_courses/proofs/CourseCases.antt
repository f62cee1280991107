-- Small scripts, computed: what each session tells.
use Rattle.std.proofs.Common.{◌≡◌, ℕ, ◌+◌, List, [], ◌∷◌, map, refl, ℤ, pos, Option, Some, None, cond}
use Rattle.std.specs.Prelude.{codes, bytes_eq}
use Rattle.cg_meaning.specs.Tree.{Name, Dating, Tree, Leaf, Boundary, Group, Trees, none, more, Sequence, Phase, Free, Normal, Carbon}
use Rattle.cg_meaning.specs.Curve.{Curve}
use Rattle.cg_meaning.specs.Scene.{Scene, scene_on}
use Rattle.cg_meaning.specs.Cover.{NoCurve, Uncovered, Far}
use Rattle.cg_sharing.specs.Edit.{NoName, WrongKind, Ambiguous, a_group, Add, result_of}
use Rattle.cg_sharing.specs.Command as command
use Rattle.cg_sharing.specs.Command.{Command, Line, Grid, Open, Take, Undo, Change, Commit}
use Rattle.cg_sharing.specs.Versions.{StartModel}
use Rattle.cg_sharing.specs.Cause as cause
use Rattle.cg_courses.specs.Pieces as piece
use Rattle.cg_courses.specs.Pieces.{Print, Counts, Piece, Begun, At, Made, Committed, On, Refused}
use Rattle.cg_courses.specs.Course.{Calibration, Numbered, no_counts}
use Rattle.cg_courses.specs.Interleaving.{interleaving}

abbrev pub date : Name → Tree
date name = Leaf name Free

-- Sequence("s"){ <members> };
abbrev pub sequence_of : Trees → Trees
sequence_of members = more (Group Sequence (codes "s") members) none

-- Sequence("s"){Date("A");Date("B");};
abbrev a_and_b : Trees
a_and_b = sequence_of (more (date (codes "A")) (more (date (codes "B")) none))

abbrev pub model_of : Name → Option Name → Trees → StartModel
model_of name curve top = record { name = name; chronology = record { curve = curve; top = top } }

abbrev pub main_model : StartModel
main_model = model_of (codes "main") None a_and_b

abbrev pub lines_from : ℕ → List Command → List Line
lines_from number [] = []
lines_from number (command ∷ commands) = record { number = number; command = command } ∷ lines_from (number + 1) commands

abbrev add_to_s : Name → Command
add_to_s name = Change (Add (codes "s") (date name))

-- what sessions of these scripts tell, which take these turns over these models
abbrev told_by : Calibration → List StartModel → List (List Command) → List ℕ → List (List Piece)
told_by calibration models scripts turns =
    map (λ place. place.written) (interleaving calibration models 0 (map (λ commands. lines_from 1 commands) scripts) turns).places

-- no model has a curve
abbrev pub uncalibrated : Calibration
uncalibrated name = record { number = 0; rows = [] }

abbrev told : List (List Command) → List ℕ → List (List Piece)
told scripts turns = told_by uncalibrated (main_model ∷ []) scripts turns

-- Two sessions change one model in turns: the one that commits second is told of the other's version.
one_head : told
    ((Open (codes "main") ∷ add_to_s (codes "C") ∷ Commit (codes "main") ∷ [])
    ∷ (Open (codes "main") ∷ add_to_s (codes "D") ∷ Commit (codes "main") ∷ Undo ∷ Undo ∷ Take 7 ∷ []) ∷ [])
    (1 ∷ 2 ∷ 1 ∷ 2 ∷ 1 ∷ 2 ∷ [])
    ≡ (Begun 1 ∷ At 0 ∷ Made 1 ∷ Committed 1 ∷ [])
    ∷ (Begun 2 ∷ At 0 ∷ Made 2 ∷ Refused 3 (cause.Moved 1) ∷ At 0 ∷ Refused 5 cause.NoParent ∷ Refused 6 (cause.NoVersion 3) ∷ []) ∷ []
unfolding result_of
one_head = refl

abbrev year_2000 : Scene
year_2000 = scene_on (record { oldest = pos 2000; cells = 1 })

-- an event of the version at the start, on a grid of one year
abbrev at_start : Name → ℕ → Print
at_start name event = record { name = name; version = 0; chronology = main_model.chronology; scene = year_2000; event = event }

-- Refusals in their order, by the lines of the script; a refused grid leaves the grid.
refusals : told
    ((command.Print (codes "A") ∷ Undo ∷ Commit (codes "main") ∷ add_to_s (codes "C") ∷ Open (codes "curve") ∷ Open (codes "main") ∷ command.Print (codes "A")
    ∷ Grid (pos 2512) (pos 2000) ∷ Grid (pos 2000) (pos 2000) ∷ Grid (pos 2000) (pos 2001) ∷ command.Print (codes "Z") ∷ command.Print (codes "s")
    ∷ command.Print (codes "A") ∷ command.Print (codes "B") ∷ add_to_s (codes "A") ∷ command.Print (codes "A") ∷ Take 0 ∷ Commit (codes "main") ∷ Undo ∷ []) ∷ [])
    []
    ≡ (Begun 1 ∷ Refused 1 cause.NotOpen ∷ Refused 2 cause.NotOpen ∷ Refused 3 cause.NotOpen ∷ Refused 4 cause.NotOpen ∷ Refused 5 cause.NoModel ∷ At 0
    ∷ Refused 7 cause.NoGrid ∷ Refused 8 (cause.GridLimit (pos 513)) ∷ On year_2000.grid ∷ Refused 10 (cause.GridLimit (pos 0))
    ∷ Refused 11 (cause.Fault NoName) ∷ Refused 12 (cause.Fault (WrongKind (a_group Sequence)))
    ∷ piece.Marginal (at_start (codes "A") 0) ∷ piece.Marginal (at_start (codes "B") 1) ∷ Made 1 ∷ Refused 16 (cause.Fault (Ambiguous 2)) ∷ At 0
    ∷ Committed 0 ∷ Refused 19 cause.NoParent ∷ []) ∷ []
unfolding result_of
refusals = refl

-- one claim, for which there was no room
abbrev one_refused : Counts
one_refused = record no_counts { claims = 1; no_room = 1 }

-- Ranges are refused where pairs are; the text of a model is that of the session's own version; work is always told.
other_commands : told
    ((command.Work ∷ command.Model ∷ command.Ranges (codes "B") ∷ Open (codes "main") ∷ command.Ranges (codes "B") ∷ Grid (pos 2000) (pos 2000)
    ∷ command.Ranges (codes "s") ∷ command.Ranges (codes "B") ∷ command.Model ∷ add_to_s (codes "C") ∷ command.Model ∷ command.Work ∷ []) ∷ [])
    []
    ≡ (Begun 1 ∷ piece.Work no_counts ∷ Refused 2 cause.NotOpen ∷ Refused 3 cause.NotOpen ∷ At 0 ∷ Refused 5 cause.NoGrid ∷ On year_2000.grid
    ∷ Refused 7 (cause.Fault (WrongKind (a_group Sequence))) ∷ piece.Ranges (at_start (codes "B") 1) ∷ piece.Model 0 main_model.chronology ∷ Made 1
    ∷ piece.Model 1 (record { curve = None; top = sequence_of (more (date (codes "A")) (more (date (codes "B")) (more (date (codes "C")) none))) })
    ∷ piece.Work one_refused ∷ []) ∷ []
unfolding result_of
other_commands = refl

-- an age of 2000 with this sigma, from 2002 cal BP to 2000
abbrev flat_curve : ℤ → Curve
flat_curve sigma = record { year = pos 2002; age = pos 2000000; sigma = sigma } ∷ record { year = pos 2000; age = pos 2000000; sigma = sigma } ∷ []

abbrev numbered : ℕ → Curve → Numbered
numbered number rows = record { number = number; rows = rows }

-- one curve by the name "south", another by the other names, and a third without a name
abbrev calibration : Calibration
calibration None = numbered 1 (flat_curve (pos 20000))
calibration (Some name) = cond (bytes_eq name (codes "south")) (numbered 2 (flat_curve (pos 30000))) (numbered 3 (flat_curve (pos 40000)))

-- "A" of such a model, dated on its own curve
abbrev on_curve : Option Name → ℕ → Curve → Piece
on_curve name version curve = piece.Marginal (record {
  name = codes "A";
  version = version;
  chronology = record { curve = name; top = a_and_b };
  scene = record { grid = year_2000.grid; curve = curve };
  event = 0;
})

-- Each model is dated by the curve that it names itself, and one that names none by that without a name.
own_curves : told_by calibration
    (model_of (codes "x") (Some (codes "south")) a_and_b ∷ model_of (codes "y") (Some (codes "north")) a_and_b ∷ model_of (codes "z") None a_and_b ∷ [])
    ((Grid (pos 2000) (pos 2000) ∷ Open (codes "x") ∷ command.Print (codes "A") ∷ Open (codes "y") ∷ command.Print (codes "A") ∷ Open (codes "z")
    ∷ command.Print (codes "A") ∷ []) ∷ [])
    []
    ≡ (Begun 1 ∷ On year_2000.grid ∷ At 0 ∷ on_curve (Some (codes "south")) 0 (flat_curve (pos 30000)) ∷ At 1
    ∷ on_curve (Some (codes "north")) 1 (flat_curve (pos 40000)) ∷ At 2 ∷ on_curve None 2 (flat_curve (pos 20000)) ∷ []) ∷ []
own_curves = refl

-- A Phase of an event "A" and a Sequence of a Boundary and an event "B", of these datings.
abbrev dated : Dating → Dating → Trees
dated first second = more (Group Phase (codes "p") (more (Leaf (codes "A") first)
    (more (Group Sequence [] (more (Boundary []) (more (Leaf (codes "B") second) none))) none))) none

-- what a session tells that asks for "A" of this model, without a curve's name
abbrev asked : Curve → Dating → Dating → ℤ → List (List Piece)
asked curve first second older = told_by (λ name. numbered 1 curve) (model_of (codes "main") None (dated first second) ∷ [])
    ((Open (codes "main") ∷ Grid older (pos 2000) ∷ command.Print (codes "C") ∷ command.Print (codes "A") ∷ []) ∷ []) []

-- on a grid from this year on of so many cells, that is this piece; a name that no event has is told before
abbrev ends_with : ℤ → ℕ → Piece → List (List Piece)
ends_with older cells last =
    (Begun 1 ∷ At 0 ∷ On (record { oldest = older; cells = cells }) ∷ Refused 3 (cause.Fault NoName) ∷ last ∷ []) ∷ []

-- A radiocarbon date needs a curve, whichever event is printed.
no_curve : asked [] Free (Carbon (pos 2000000) (pos 1000)) (pos 2001) ≡ ends_with (pos 2001) 2 (Refused 4 (cause.Cover NoCurve))
no_curve = refl

-- The oldest year is told at which the curve has no value, and
uncovered : asked (flat_curve (pos 20000)) Free (Carbon (pos 17000000) (pos 1000)) (pos 2004)
    ≡ ends_with (pos 2004) 5 (Refused 4 (cause.Cover (Uncovered (pos 2004))))
uncovered = refl

-- the oldest one that is more than 16,384 years away.
far : asked (flat_curve (pos 20000)) Free (Carbon (pos 18385000) (pos 1000)) (pos 2001)
    ≡ ends_with (pos 2001) 2 (Refused 4 (cause.Cover (Far (pos 2001))))
far = refl

-- The first event at fault is told.
first_at_fault : asked [] (Normal (pos 20000) (pos 1000)) (Carbon (pos 2000000) (pos 1000)) (pos 2001)
    ≡ ends_with (pos 2001) 2 (Refused 4 (cause.Cover (Far (pos 2001))))
first_at_fault = refl

-- At 16,384 years an event is weighed.
near : asked (flat_curve (pos 20000)) Free (Carbon (pos 18384000) (pos 1000)) (pos 2000)
    ≡ ends_with (pos 2000) 1 (piece.Marginal (record {
      name = codes "A";
      version = 0;
      chronology = record { curve = None; top = dated Free (Carbon (pos 18384000) (pos 1000)) };
      scene = record { grid = year_2000.grid; curve = flat_curve (pos 20000) };
      event = 0;
    }))
near = refl
