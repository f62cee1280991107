-- How many steps the marginals take that a session computes.
use Rattle.std.specs.Prelude.{◌≡◌, ℕ, ◌+◌, ◌≤◌, List, [], ◌∷◌, ◌++◌, sum_by, drop, Option}
use Rattle.cg_meaning.specs.Tree.{root_of}
use Rattle.cg_meaning.specs.Scene.{Grid}
use Rattle.cg_part.specs.Elements.{element_of}
use Rattle.cg_recipe.specs.Ticks.{part_ticks}
use Rattle.cg_sharing.specs.Command as command
use Rattle.cg_sharing.specs.Command.{Command, Line}
use Rattle.cg_sharing.specs.Versions.{State}
use Rattle.cg_sharing.specs.Pieces.{Print, Piece, Marginal, Ranges, prints_in, prints_of}
use Rattle.cg_sharing.specs.Course.{Calibration, Place, print_piece}
use Rattle.cg_book.specs.Plain.{state_of}
use Rattle.cg_session.specs.Port.{Seen}
use Rattle.cg_session.specs.declared.session.Session.{Session}
use Rattle.cg_session.specs.declared.session.Progress.{Progress}
use Rattle.cg_session.specs.declared.session.Progress.TheVariants.{Stopped}
use Rattle.cg_session.specs.Session.{StandsAt}

-- at most so many for one: those of the tables that aren't on the way to the event, and of the contexts on it
abbrev pub print_ticks : Print → ℕ
print_ticks print = part_ticks print.scene.grid.cells print.event (element_of 0 (root_of print.chronology))

abbrev pub ticks_in : List Print → ℕ
ticks_in prints = sum_by print_ticks prints

-- the marginal that a command asks for
abbrev pub prints_at : Calibration → State → ℕ → Command → Option ℕ → Option Grid → List Print
prints_at calibration state number (command.Print name) version grid =
    prints_in (print_piece Marginal calibration state number name version grid)
prints_at calibration state number (command.Ranges name) version grid =
    prints_in (print_piece Ranges calibration state number name version grid)
prints_at calibration state number other version grid = []

-- that of the next command, these lines being left
abbrev pub prints_next : Calibration → State → List Line → Option ℕ → Option Grid → List Print
prints_next calibration state [] version grid = []
prints_next calibration state (line ∷ lines) version grid =
    prints_at calibration state line.number line.command version grid

-- the marginal that want of memory may have cut short
abbrev pub cut_short : Progress → Calibration → Seen → Session → Place → List Print
cut_short Stopped calibration seen session place =
    prints_next calibration (state_of seen) (drop session.done session.script) place.version place.grid
cut_short other calibration seen session place = []

-- From a place on, the counter rose by at most the steps of the marginals that were printed, and of one that was cut
-- short.
pub record Counts
    (calibration : Calibration) (seen : Seen) (progress : Progress) (old new : ℕ) (before : Place) (after : Session)
    : Type 0 where
  pub place : Place
  pub stands : StandsAt calibration seen after place
  pub more : List Piece
  pub written : place.written ≡ before.written ++ more
  pub ticks : new ≤ old + ticks_in (prints_of more ++ cut_short progress calibration seen after place)
