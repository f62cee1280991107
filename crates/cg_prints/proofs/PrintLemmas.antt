-- Each marginal that a session prints is founded.
use Rattle.std.proofs.Common.{◌≡◌, ℕ, Bool, true, false, cond, List, [], ◌∷◌, ◌++◌, take, refl, sym, subst, arith, Option, Some, None, Result, Ok, Err, ℤ, pos, ◌≤ℤ◌, unsigned_abs, inl, inr}
use Rattle.std.specs.Prelude.{nat_eq, is_some, All, ◌&&◌, int_le}
use Rattle.std.proofs.lemmas.List.Elements.{All-nil, All-cons, All-append, All-head, All-tail, All-take}
use Rattle.std.proofs.lemmas.Int.{ints}
use Rattle.cg_meaning.specs.Tree.{Name, Chronology}
use Rattle.cg_meaning.specs.Scene.{Grid}
use Rattle.cg_num.specs.Year.{IsYear}
use Rattle.cg_model.specs.Grid.{cells_from, IsGrid}
use Rattle.cg_model.specs.Limits.{IsModel}
use Rattle.cg_sharing.specs.Command as command
use Rattle.cg_sharing.specs.Command.{Command, Line}
use Rattle.cg_sharing.specs.Versions.{State, start_of, chronology_of}
use Rattle.cg_sharing.specs.Journal as journal
use Rattle.cg_sharing.specs.Journal.{Answer, Entry, Shared, shared_of, after, shared_by, IsLegal}
use Rattle.cg_sharing.specs.Cause.{Cause}
use Rattle.cg_sharing.specs.Pieces.{Print, Piece, Marginal, Ranges, prints_in, prints_of}
use Rattle.cg_sharing.specs.Course.{Calibration, Place, act_of, grid_or, grid_of, with_piece, with_grid, event_in, event_piece, scene_by, print_piece, model_piece, done_at, settled, entrance_of, begin, answered, went_on, went, moved, walk, IsRunning, IsCourse, IsFit, AreFit}
use Rattle.cg_sharing.proofs.JournalLemmas.{IsLegal-front}
use Rattle.cg_sharing.proofs.PieceLemmas.{prints_of-append}
use Rattle.cg_edit.specs.Kept.{AreKept}
use Rattle.cg_prints.specs.Laws.{IsFounded, PrintsAreFounded}
use Rattle.cg_prints.proofs.StateLemmas.{HoldsModels, at_start, holds_after}
use Rattle.cg_prints.proofs.EventLemmas.{found}

-- each marginal among the pieces is founded
abbrev AreFounded : Calibration → List Piece → Type 0
AreFounded calibration pieces = All (λ print. IsFounded calibration print) (prints_of pieces)

none_founded : (calibration : Calibration) → AreFounded calibration []
none_founded calibration = All-nil (λ print. IsFounded calibration print)

one_more : (calibration : Calibration) (pieces : List Piece) (piece : Piece) → AreFounded calibration pieces → AreFounded calibration (piece ∷ []) → AreFounded calibration (pieces ++ piece ∷ [])
one_more calibration pieces piece were is =
    subst (λ prints. All (λ print. IsFounded calibration print) prints) (sym (prints_of-append pieces (piece ∷ [])))
    (All-append (λ print. IsFounded calibration print) (prints_of pieces) (prints_of (piece ∷ [])) were is)

-- a grid, where there is one, is within its limits
abbrev IsGridOrNone : Option Grid → Type 0
IsGridOrNone None = Unit {0}
IsGridOrNone (Some grid) = IsGrid grid.oldest grid.cells

-- a grid of so many years
in_limits : (older younger : ℤ) → IsYear older → IsYear younger → pos 1 ≤ℤ cells_from older younger → cells_from older younger ≤ℤ pos 512 →
    IsGrid older (unsigned_abs (cells_from older younger))
in_limits older younger old young some few = record {
  some = omega (arith, ints, some);
  few = omega (arith, ints, some, few);
  old = old.1;
  young = omega (arith, ints, some, young.0);
}

grid_within : (older younger : ℤ) → IsYear older → IsYear younger → (grid : Grid) → grid_or older (cells_from older younger) ≡ Ok grid → IsGrid grid.oldest grid.cells
grid_within older younger old young grid is =
    tested (int_le (pos 1) (cells_from older younger)) (int_le (cells_from older younger) (pos 512)) refl refl is
  where
    tested : (some few : Bool) → int_le (pos 1) (cells_from older younger) ≡ some → int_le (cells_from older younger) (pos 512) ≡ few →
        cond (some && few) (Ok (record { oldest = older; cells = unsigned_abs (cells_from older younger) })) (Err (cells_from older younger)) ≡ Ok grid → IsGrid grid.oldest grid.cells
    tested true true is_some are_few same =
        let this : record { oldest = older; cells = unsigned_abs (cells_from older younger) } ≡ grid = cc in
        subst (λ (g : Grid). IsGrid g.oldest g.cells) this (in_limits older younger old young (omega (arith, ints, is_some)) (omega (arith, ints, are_few)))
    tested true false is_some are_few same = absurd (cc)
    tested false few is_some are_few same = absurd (cc)

-- What is kept on a course: the grid is within its limits, and what was printed is founded.
record IsKept (calibration : Calibration) (place : Place) : Type 0 where
  pub grid : IsGridOrNone place.grid
  pub printed : AreFounded calibration place.written

-- a piece that is no marginal
other_more : (calibration : Calibration) (pieces : List Piece) (piece : Piece) → prints_in piece ≡ [] → AreFounded calibration pieces → AreFounded calibration (pieces ++ piece ∷ [])
other_more calibration pieces piece none were =
    one_more calibration pieces piece were (subst (λ prints. All (λ print. IsFounded calibration print) (prints ++ [])) (sym none) (none_founded calibration))

kept_grid : (calibration : Calibration) (number : ℕ) (result : Result Grid ℤ) (place : Place) → ((grid : Grid) → result ≡ Ok grid → IsGrid grid.oldest grid.cells) → IsKept calibration place →
    IsKept calibration (with_grid number result place)
kept_grid calibration number (Ok grid) place within is = record { grid = within grid refl; printed = other_more calibration place.written _ refl is.printed }
kept_grid calibration number (Err cells) place within is = record { grid = is.grid; printed = other_more calibration place.written _ refl is.printed }

-- a print that is founded, told in this way
abbrev Tells : Calibration → (Print → Piece) → Type 0
Tells calibration way = (print : Print) → IsFounded calibration print → AreFounded calibration (way print ∷ [])

alone : (calibration : Calibration) (print : Print) → IsFounded calibration print → All (λ p. IsFounded calibration p) (print ∷ [])
alone calibration print is = All-cons (λ p. IsFounded calibration p) print [] is (none_founded calibration)

-- what is told of an event that was found
founded_event : (calibration : Calibration) (way : Print → Piece) (number : ℕ) (name : Name) (version : ℕ) (chronology : Chronology) (grid : Grid) (result : Result ℕ Cause) → Tells calibration way →
    IsModel chronology.top → IsGrid grid.oldest grid.cells → event_in (scene_by calibration chronology grid) name chronology ≡ result →
    AreFounded calibration (event_piece way number name version chronology (scene_by calibration chronology grid) result ∷ [])
founded_event calibration way number name version chronology grid (Ok event) tells model is same =
    let found = found (scene_by calibration chronology grid) name chronology event same in
    tells _ (record { scene = refl; model = model; grid = is; covered = found.covered; event = found.below })
founded_event calibration way number name version chronology grid (Err cause) tells model is same = none_founded calibration

founded_print : (calibration : Calibration) (way : Print → Piece) (state : State) (number : ℕ) (name : Name) (version : Option ℕ) (grid : Option Grid) → Tells calibration way → HoldsModels state → IsGridOrNone grid →
    AreFounded calibration (print_piece way calibration state number name version grid ∷ [])
founded_print calibration way state number name None grid tells holds is = none_founded calibration
founded_print calibration way state number name (Some version) None tells holds is = none_founded calibration
founded_print calibration way state number name (Some version) (Some grid) tells holds is = founded_event calibration way number name version (chronology_of state version) grid _ tells (holds version) is refl

kept_print : (calibration : Calibration) (way : Print → Piece) (state : State) (number : ℕ) (name : Name) (place : Place) → Tells calibration way → HoldsModels state → IsKept calibration place →
    IsKept calibration (with_piece (print_piece way calibration state number name place.version place.grid) place)
kept_print calibration way state number name place tells holds is = record {
  grid = is.grid;
  printed = one_more calibration place.written (print_piece way calibration state number name place.version place.grid) is.printed
      (founded_print calibration way state number name place.version place.grid tells holds is.grid);
}

no_print : (state : State) (number : ℕ) (version : Option ℕ) → prints_in (model_piece state number version) ≡ []
no_print state number None = refl
no_print state number (Some version) = refl

-- a command that makes no act keeps it
kept_done : (calibration : Calibration) (state : State) (number : ℕ) (c : Command) (place : Place) → HoldsModels state → IsFit c → IsKept calibration place → IsKept calibration (done_at calibration state number c place)
kept_done calibration state number (command.Grid older younger) place holds fit is = kept_grid calibration number (grid_of older younger) place (grid_within older younger fit.0 fit.1) is
kept_done calibration state number (command.Print name) place holds fit is = kept_print calibration Marginal state number name place (alone calibration) holds is
kept_done calibration state number (command.Ranges name) place holds fit is = kept_print calibration Ranges state number name place (alone calibration) holds is
kept_done calibration state number command.Model place holds fit is =
    record { grid = is.grid; printed = other_more calibration place.written (model_piece state number place.version) (no_print state number place.version) is.printed }
kept_done calibration state number other place holds fit is = record { grid = is.grid; printed = other_more calibration place.written _ refl is.printed }

-- and the lines that are left are in order
record GoesOn (calibration : Calibration) (place : Place) : Type 0 where
  pub kept : IsKept calibration place
  pub fit : AreFit place.left

fit_first : (line : Line) (lines : List Line) → AreFit (line ∷ lines) → IsFit line.command
fit_first line lines fit = All-head (λ (l : Line). IsFit l.command) line lines fit

fit_others : (line : Line) (lines : List Line) → AreFit (line ∷ lines) → AreFit lines
fit_others line lines fit = All-tail (λ (l : Line). IsFit l.command) line lines fit

kept_settled : (calibration : Calibration) (state : State) (lines : List Line) (place : Place) → HoldsModels state → AreFit lines → IsKept calibration place → GoesOn calibration (settled calibration state lines place)
kept_settled calibration state [] place holds fit is = record { kept = record { grid = is.grid; printed = is.printed }; fit = fit }
kept_settled calibration state (line ∷ lines) place holds fit is =
    let step = kept_done calibration state line.number line.command place holds (fit_first line lines fit) is in
    let later = kept_settled calibration state lines (done_at calibration state line.number line.command place) holds (fit_others line lines fit) step in
    elim (is_some (act_of place line.command)) as (λ b. GoesOn calibration (cond b (record place { left = line ∷ lines }) (settled calibration state lines (done_at calibration state line.number line.command place)))) [
      | true ↦ record { kept = record { grid = is.grid; printed = is.printed }; fit = fit }
      | false ↦ later
    ]

-- an answer keeps it
kept_answered : (calibration : Calibration) (line : Line) (answer : Answer) (place : Place) → IsKept calibration place → IsKept calibration (answered line answer place)
kept_answered calibration line (journal.At version) place is = record { grid = is.grid; printed = other_more calibration place.written _ refl is.printed }
kept_answered calibration line (journal.Made version) place is = record { grid = is.grid; printed = other_more calibration place.written _ refl is.printed }
kept_answered calibration line (journal.Committed version) place is = record { grid = is.grid; printed = other_more calibration place.written _ refl is.printed }
kept_answered calibration line (journal.Told reply) place is = is
kept_answered calibration line other place is = record { grid = is.grid; printed = other_more calibration place.written _ refl is.printed }

kept_went : (calibration : Calibration) (state : State) (lines : List Line) (answer : Answer) (place : Place) → HoldsModels state → AreFit lines → GoesOn calibration place → GoesOn calibration (went_on calibration state lines answer place)
kept_went calibration state [] answer place holds fit is = is
kept_went calibration state (line ∷ lines) answer place holds fit is =
    kept_settled calibration state lines (answered line answer place) holds (fit_others line lines fit) (kept_answered calibration line answer place is.kept)

kept_moved : (calibration : Calibration) (session : ℕ) (state : State) (entry : Entry) (place : Place) → HoldsModels state → GoesOn calibration place → GoesOn calibration (moved calibration session state entry place)
kept_moved calibration session state entry place holds is =
    elim (nat_eq entry.seat session) as (λ b. GoesOn calibration (cond b (went calibration state entry.answer place) place)) [
      | true ↦ kept_went calibration state place.left entry.answer place holds is.fit is
      | false ↦ is
    ]

kept_walk : AreKept → (calibration : Calibration) (session : ℕ) (shared : Shared) (place : Place) (entries : List Entry) → HoldsModels shared.state → GoesOn calibration place → IsLegal shared entries →
    GoesOn calibration (walk calibration session shared.state place entries)
kept_walk kept calibration session shared place [] holds is legal = is
kept_walk kept calibration session shared place (entry ∷ entries) holds is legal =
    let now = after shared.state entry in
    let holds_now = holds_after kept shared entry.seat entry.act entry.answer holds legal.0 in
    kept_walk kept calibration session (shared_by shared entry) (moved calibration session now entry place) entries holds_now (kept_moved calibration session now entry place holds_now is) legal.2

kept_begin : (calibration : Calibration) (session : ℕ) (state : State) (script : List Line) → HoldsModels state → AreFit script → GoesOn calibration (begin calibration session state script)
kept_begin calibration session state script holds fit = kept_settled calibration state script (entrance_of session) holds fit (record { grid = tt; printed = none_founded calibration })

kept_running : AreKept → (calibration : Calibration) (session : ℕ) (start : Shared) (script : List Line) (entries : List Entry) (place : Place) → HoldsModels start.state → AreFit script → IsLegal start entries →
    IsRunning calibration session start.state script entries place → AreFounded calibration place.written
kept_running kept calibration session start script entries place holds fit legal run =
    let P : Place → Type 0 = λ p. GoesOn calibration p in
    (subst P (sym run.reached) (kept_walk kept calibration session start (begin calibration session start.state script) entries holds (kept_begin calibration session start.state script holds fit) legal)).kept.printed

kept_course : AreKept → (calibration : Calibration) (session : ℕ) (start : Shared) (script : List Line) (entries : List Entry) (place : Place) → HoldsModels start.state → AreFit script → IsLegal start entries →
    IsCourse calibration session start.state script entries place → AreFounded calibration place.written
kept_course kept calibration session start script entries place holds fit legal (inl run) = kept_running kept calibration session start script entries place holds fit legal run
kept_course kept calibration session start script entries place holds fit legal (inr stop) =
    let L : List Entry → Type 0 = λ es. IsLegal start es in
    let W : Place → Type 0 = λ p. AreFounded calibration p.written in
    subst W (sym stop.reached) (kept_running kept calibration session start (take stop.commands script) stop.earlier stop.last holds
    (All-take (λ (line : Line). IsFit line.command) stop.commands script fit) (IsLegal-front start stop.earlier stop.later (subst L stop.all legal)) stop.running)

pub founded : AreKept → PrintsAreFounded
founded kept = λ calibration session models capacity script entries place all fit legal course.
    kept_course kept calibration session (shared_of models capacity) script entries place (at_start models all) fit legal course
