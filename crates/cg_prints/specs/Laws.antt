-- What holds of each marginal that is printed. chron's own.
use Rattle.std.specs.Prelude.{◌≡◌, ℕ, ◌<◌, List}
use Rattle.std.specs.List.{All}
use Rattle.cg_meaning.specs.Tree.{root_of, count}
use Rattle.cg_meaning.specs.Cover.{AreCovered}
use Rattle.cg_model.specs.Grid.{IsGrid}
use Rattle.cg_model.specs.Limits.{IsModel}
use Rattle.cg_sharing.specs.Command.{Line}
use Rattle.cg_sharing.specs.Versions.{StartModel, start_of}
use Rattle.cg_sharing.specs.Journal.{Entry, shared_of, IsLegal}
use Rattle.cg_sharing.specs.Pieces.{Print, prints_of}
use Rattle.cg_sharing.specs.Course.{Calibration, Place, scene_by, IsCourse, AreFit}

-- The scene is of the curve that serves the model, the model and the grid are within their limits, each event of the
-- model can be weighed in the scene, and the event is one of them.
pub record IsFounded (calibration : Calibration) (print : Print) : Type 0 where
  pub scene : print.scene ≡ scene_by calibration print.chronology print.scene.grid
  pub model : IsModel print.chronology.top
  pub grid : IsGrid print.scene.grid.oldest print.scene.grid.cells
  pub covered : AreCovered (root_of print.chronology) print.scene
  pub event : print.event < count (root_of print.chronology)

-- the model is within its limits
abbrev pub IsSound : StartModel → Type 0
IsSound model = IsModel model.chronology.top

-- whatever a session prints, by its pairs or by its ranges, at whatever version: where the models at the start are
-- within their limits, the script is in order, and the journal is legal
abbrev pub PrintsAreFounded : Type 0
PrintsAreFounded =
    (calibration : Calibration) (session : ℕ) (models : List StartModel) (capacity : ℕ) (script : List Line)
    (entries : List Entry) (place : Place) → All IsSound models → AreFit script → IsLegal (shared_of models capacity) entries →
    IsCourse calibration session (start_of models) script entries place →
    All (λ print. IsFounded calibration print) (prints_of place.written)
