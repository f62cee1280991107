-- What the journal shows of messages: those that are ready are taken, and not made again. chron's own.
use Rattle.std.specs.Prelude.{◌≡◌, ℕ, ◌<◌, nat_eq, true, List, [], ◌∷◌, ◌++◌, length, if◌then◌else◌}
use Rattle.std.specs.List.{All}
use Rattle.cg_walk.specs.Gets.{Gets}
use Rattle.cg_walk.specs.Walk.{wants, Step, IsWalk}
use Rattle.cg_sharing.specs.Command.{Line}
use Rattle.cg_sharing.specs.Versions.{State, StartModel, start_of}
use Rattle.cg_sharing.specs.Journal.{Act, Do, Answer, Told, Entry, shared_of, IsLegal}
use Rattle.cg_courses.specs.Course.{Calibration, Place, begin, walk, is_get, IsRunning, AreFit}
use Rattle.cg_courses.specs.Interleaving.{World, IsInterleaving}

-- what a session's entry has to do with messages: a deed, and what was told of it
abbrev pub step_before : Act → Answer → List Step → List Step
step_before (Do deed) (Told reply) steps = record { deed = deed; reply = reply } ∷ steps
step_before act answer steps = steps

-- the deeds of a session's seat
abbrev pub own_steps : ℕ → List Entry → List Step
own_steps session [] = []
own_steps session (entry ∷ entries) =
    if nat_eq entry.seat session then step_before entry.act entry.answer (own_steps session entries) else own_steps session entries

-- where a session is after entries
abbrev pub place_after : Calibration → ℕ → State → List Line → List Entry → Place
place_after calibration session start script entries = walk calibration session start (begin calibration session start script) entries

-- These messages are got: the session's entries from here on are a walk through them, and behind it the line is done.
pub record IsWalked (calibration : Calibration) (session : ℕ) (start : State) (script : List Line) (earlier later : List Entry) (gets : Gets) : Type 0 where
  pub own : List Entry
  pub behind : List Entry
  pub all : later ≡ own ++ behind
  pub walked : IsWalk gets (own_steps session own)
  pub done : length (place_after calibration session start script (earlier ++ own)).left
      < length (place_after calibration session start script earlier).left

-- The messages of each print that these entries finish are got by a walk: what is ready is taken whole, and what is claimed
-- is published by the seat that made it.
abbrev pub AreWalked : Calibration → ℕ → State → List Line → List Entry → Type 0
AreWalked calibration session start script entries =
    (earlier later : List Entry) (gets : Gets) → entries ≡ earlier ++ later → is_get gets ≡ true →
    (place_after calibration session start script earlier).todo ≡ wants gets [] →
    length (place_after calibration session start script entries).left < length (place_after calibration session start script earlier).left →
    IsWalked calibration session start script earlier later gets

-- of each course in a legal journal
abbrev pub PrintsAreWalked : Type 0
PrintsAreWalked =
    (calibration : Calibration) (models : List StartModel) (capacity session : ℕ) (script : List Line) (entries : List Entry) (place : Place) →
    IsLegal (shared_of models capacity) entries → IsRunning calibration session (start_of models) script entries place →
    AreWalked calibration session (start_of models) script entries

-- Once all sessions have run to their ends, stopped or not, no claim is left.
abbrev pub ClaimsAreClosed : Type 0
ClaimsAreClosed =
    (calibration : Calibration) (models : List StartModel) (capacity : ℕ) (scripts : List (List Line)) (turns : List ℕ) (end : World) → All AreFit scripts →
    IsInterleaving calibration models capacity scripts turns end → end.shared.cached.claimed ≡ []
