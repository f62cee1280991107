-- What comes of sessions that take turns over one book. chron's own.
use Rattle.std.specs.Prelude.{◌≡◌, ℕ, ◌+◌, ◌⊎◌, List, [], ◌∷◌, map}
use Rattle.cg_recipe.specs.Recipe.{recipe}
use Rattle.cg_sharing.specs.Command.{Line}
use Rattle.cg_sharing.specs.Versions.{State, StartModel, start_of}
use Rattle.cg_sharing.specs.Journal.{Entry, shared_of, IsLegal}
use Rattle.cg_sharing.specs.Course.{Calibration, Place, IsRunning, IsEnded, IsStopped}
use Rattle.cg_sharing.specs.Interleaving.{World, IsInterleaving, some_stopped}
use Rattle.cg_report.specs.Transcript.{transcripts_of}
use Rattle.cg_interleaving.specs.declared.run.Run.{Run}

-- what the sessions wrote, in their order
abbrev pub written_in : Run → List (List ℕ)
written_in run = map (λ transcript. transcript.items) run.transcripts.items

-- The session's entries are a course of its script, done to its end or stopped by want of memory.
abbrev pub IsOver : Calibration → ℕ → State → List Line → List Entry → Place → Type 0
IsOver calibration session start script entries place =
    (IsRunning calibration session start script entries place × IsEnded place)
    ⊎ IsStopped calibration session start script entries place

-- so are those of the sessions from this number on
abbrev pub AreOver : Calibration → ℕ → State → List (List Line) → List Entry → List Place → Type 0
AreOver calibration session start [] entries [] = Unit {0}
AreOver calibration session start [] entries (place ∷ places) = ⊥
AreOver calibration session start (script ∷ scripts) entries [] = ⊥
AreOver calibration session start (script ∷ scripts) entries (place ∷ places) =
    IsOver calibration session start script entries place
    × AreOver calibration (session + 1) start scripts entries places

-- The turns lead to a world with a legal journal, in which each session's course is over. The journal and the
-- transcripts of the run are those of this world, and it is told whether a session was stopped in it.
pub record IsRunOf
    (calibration : Calibration) (models : List StartModel) (capacity : ℕ) (scripts : List (List Line)) (turns : List ℕ)
    (run : Run) : Type 0 where
  pub world : World
  pub interleaved : IsInterleaving calibration models capacity scripts turns world
  pub legal : IsLegal (shared_of models capacity) world.journal
  pub over : AreOver calibration 1 (start_of models) scripts world.journal world.places
  pub journal : run.journal ≡ world.journal
  pub written : written_in run ≡ transcripts_of recipe 1 world.places
  pub stopped : run.stopped ≡ some_stopped world.places
