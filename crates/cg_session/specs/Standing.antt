-- Where the code's session stands.
use Rattle.std.specs.Prelude.{◌≡◌, ℕ, map, Option, Some, None, option_map, Result, Ok, Err}
use Rattle.std.specs.Arc.{arc_value}
use Rattle.cg_meaning.specs.Tree.{Name}
use Rattle.cg_sharing.specs.Command as command
use Rattle.cg_sharing.specs.Command.{Command, Line}
use Rattle.cg_sharing.specs.Versions.{Head, State, chronology_of}
use Rattle.cg_sharing.specs.Pieces.{Print, Piece, Refused}
use Rattle.cg_sharing.specs.Course.{Calibration, Place, scene_by, print_piece}
use Rattle.cg_marginal.specs.Marginal.{pairs_of}
use Rattle.cg_recipe.specs.Recipe.{recipe}
use Rattle.cg_report.specs.declared.cause.SessionCause.{SessionCause}
use Rattle.cg_report.specs.Cause.{cause_in}
use Rattle.cg_report.specs.Transcript.{marginal_of, text_of}
use Rattle.cg_session.specs.declared.standing.Base.{Base}
use Rattle.cg_session.specs.declared.standing.Evaluated.{Evaluated}
use Rattle.cg_session.specs.declared.standing.Version.{Version}
use Rattle.cg_session.specs.declared.standing.Standing.{Standing}

abbrev pub base_in : Base → Head
base_in base = record { name = base.name; version = base.version }

abbrev pub number_of : Option Version → Option ℕ
number_of version = option_map (λ v. v.number) version

-- What has been written is the text of the place's pieces, and it is at the place's version, grid and bases.
pub record Shows (standing : Standing) (place : Place) : Type 0 where
  pub text : standing.transcript.bytes.items ≡ text_of recipe place.written
  pub version : number_of standing.version ≡ place.version
  pub grid : standing.grid ≡ place.grid
  pub bases : map base_in standing.bases.items ≡ place.bases

-- the tree is the text of the version beside it
abbrev pub HasText : State → Option Version → Type 0
HasText state None = Unit {0}
HasText state (Some version) = arc_value version.tree ≡ chronology_of state version.number

-- a copy of the name of an open or a commit, for its base
abbrev pub IsSpare : Command → Option Name → Type 0
IsSpare (command.Open name) spare = spare ≡ Some name
IsSpare (command.Commit name) spare = spare ≡ Some name
IsSpare other spare = spare ≡ None

-- the print of an event of a version, on a grid
abbrev pub print_of : Calibration → State → Name → Evaluated → ℕ → Print
print_of calibration state name evaluated event =
    let chronology = chronology_of state evaluated.version in
    let scene = scene_by calibration chronology evaluated.grid in
    record { name = name; version = evaluated.version; chronology = chronology; scene = scene; event = event }

-- The place tells a print of the event of this name, whichever way, and it has this marginal.
pub record IsEvaluated
    (calibration : Calibration) (state : State) (place : Place) (name : Name) (evaluated : Evaluated)
    : Type 0 where
  pub event : ℕ
  pub told : (way : Print → Piece) (number : ℕ)
      → print_piece way calibration state number name place.version place.grid
      ≡ way (print_of calibration state name evaluated event)
  pub marginal : marginal_of recipe (print_of calibration state name evaluated event) ≡ pairs_of evaluated.marginal

-- what the place tells of the event of this name, whichever way: its marginal, or why there is none
abbrev pub IsOutcome : Calibration → State → Place → Name → Result Evaluated SessionCause → Type 0
IsOutcome calibration state place name (Ok evaluated) = IsEvaluated calibration state place name evaluated
IsOutcome calibration state place name (Err cause) =
    (way : Print → Piece) (number : ℕ) → print_piece way calibration state number name place.version place.grid
    ≡ Refused number (cause_in cause)
