-- The counter beside what is printed.
use Rattle.std.proofs.Common.{◌≡◌, ℕ, ◌+◌, ◌≤◌, false, List, [], ◌∷◌, ◌++◌, drop, slice_get, refl, sym, ap, ap₂, subst, ◌∙◌, arith, append-nil, append_assoc, Option, Some, None, Result, Ok, Err, ℤ}
use Rattle.std.proofs.lemmas.List.Sums.{sum_by-append}
use Rattle.std.proofs.lemmas.Option.{slice_get_within}
use Rattle.std.specs.Prelude.{OnErr}
use Rattle.cg_meaning.specs.Tree.{Name, Chronology, root_of}
use Rattle.cg_meaning.specs.Scene.{Grid}
use Rattle.cg_part.specs.Elements.{element_of}
use Rattle.cg_recipe.specs.Ticks.{part_ticks}
use Rattle.cg_sharing.specs.Command as command
use Rattle.cg_sharing.specs.Command.{Command, Line}
use Rattle.cg_sharing.specs.Versions.{State, chronology_of}
use Rattle.cg_sharing.specs.Journal as journal
use Rattle.cg_sharing.specs.Journal.{Act, Answer}
use Rattle.cg_sharing.specs.Cause as cause
use Rattle.cg_sharing.specs.Pieces as piece
use Rattle.cg_sharing.specs.Pieces.{Print, Piece, prints_in, prints_of}
use Rattle.cg_sharing.specs.Course.{Calibration, Place, act_of, grid_of, with_grid, event_in, scene_by, print_piece, model_piece, done_at, answered, stopped_at}
use Rattle.cg_sharing.proofs.PieceLemmas.{prints_of-append}
use Rattle.cg_book.specs.Plain.{state_of}
use Rattle.cg_session.specs.Port.{Seen}
use Rattle.cg_session.specs.declared.session.Session.{Session}
use Rattle.cg_session.specs.declared.session.Progress.{Progress}
use Rattle.cg_session.specs.declared.session.Progress.TheVariants.{Ended, Stopped, Moved}
use Rattle.cg_session.specs.Port.{Grows}
use Rattle.cg_session.specs.Standing.{Shows, IsSpare}
use Rattle.cg_session.specs.Session.{StandsAt, IsAt, IsSame}
use Rattle.cg_session.specs.Steps.{print_ticks, ticks_in, prints_at, prints_next, cut_short, Counts}
use Rattle.cg_session.proofs.CoverLemmas.{drop-slice_get}
use Rattle.cg_session.proofs.StandingLemmas.{print_told}
use Rattle.cg_session.proofs.SessionLemmas.{done_stands}
use Rattle.cg_session.proofs.AdvanceLemmas.{Settles, answered_stands, stopped_on}

ticks-append : (xs ys : List Print) → ticks_in (xs ++ ys) ≡ ticks_in xs + ticks_in ys
ticks-append xs ys = sum_by-append print_ticks xs ys

-- A marginal that is found takes at most the steps of its print.
pub print_steps : (way : Print → Piece) (calibration : Calibration) (state : State) (number : ℕ) (name : Name) (version : ℕ) (grid : Grid) (chronology : Chronology) (event : ℕ) (place : Place) (old new : ℕ) → ((print : Print) → prints_in (way print) ≡ print ∷ []) →
    place.version ≡ Some version → place.grid ≡ Some grid → chronology ≡ chronology_of state version → event_in (scene_by calibration chronology grid) name chronology ≡ Ok event →
    new ≤ old + part_ticks grid.cells event (element_of 0 (root_of chronology)) → new ≤ old + ticks_in (prints_in (print_piece way calibration state number name place.version place.grid))
print_steps way calibration state number name version grid chronology event place old new one at on text is steps =
    let print : Print = record { name = name; version = version; chronology = chronology; scene = scene_by calibration chronology grid; event = event } in
    let same = ap (λ p. ticks_in (prints_in p)) (print_told way calibration state number name version grid chronology (Ok event) place at on text is) ∙ ap (λ prints. ticks_in prints) (one print) in
    let P : ℕ → Type 0 = λ ticks. new ≤ old + ticks in
    subst P (sym same) (omega (arith, steps))

-- A command without an act tells one piece: of a marginal, if it prints one.
grid_piece : (number : ℕ) (grid : Result Grid ℤ) (place : Place) → (p : Piece) × ((with_grid number grid place).written ≡ place.written ++ p ∷ []) × (prints_of (p ∷ []) ≡ [])
grid_piece number (Ok grid) place = (piece.On grid, refl, refl)
grid_piece number (Err cells) place = (piece.Refused number (cause.GridLimit cells), refl, refl)

no_print : (state : State) (number : ℕ) (version : Option ℕ) → prints_of (model_piece state number version ∷ []) ≡ []
no_print state number None = refl
no_print state number (Some version) = refl

done_piece : (calibration : Calibration) (state : State) (number : ℕ) (c : Command) (place : Place) → (p : Piece) × ((done_at calibration state number c place).written ≡ place.written ++ p ∷ []) × (prints_of (p ∷ []) ≡ prints_at calibration state number c place.version place.grid)
done_piece calibration state number (command.Grid older younger) place = grid_piece number (grid_of older younger) place
done_piece calibration state number (command.Print name) place =
    let told = print_piece piece.Marginal calibration state number name place.version place.grid in (told, refl, append-nil (prints_in told))
done_piece calibration state number (command.Ranges name) place =
    let told = print_piece piece.Ranges calibration state number name place.version place.grid in (told, refl, append-nil (prints_in told))
done_piece calibration state number command.Model place = (model_piece state number place.version, refl, no_print state number place.version)
done_piece calibration state number command.Work place = (piece.Work, refl, refl)
done_piece calibration state number other place = (piece.Refused number cause.NotOpen, refl, refl)

-- An answer tells one piece or none, and no marginal.
answered_piece : (line : Line) (answer : Answer) (place : Place) → (more : List Piece) × ((answered line answer place).written ≡ place.written ++ more) × (prints_of more ≡ [])
answered_piece line (journal.At version) place = (piece.At version ∷ [], refl, refl)
answered_piece line (journal.Made version) place = (piece.Made version ∷ [], refl, refl)
answered_piece line (journal.Committed version) place = (piece.Committed version ∷ [], refl, refl)
answered_piece line journal.NoModel place = (piece.Refused line.number cause.NoModel ∷ [], refl, refl)
answered_piece line (journal.NoVersion count) place = (piece.Refused line.number (cause.NoVersion count) ∷ [], refl, refl)
answered_piece line journal.NoParent place = (piece.Refused line.number cause.NoParent ∷ [], refl, refl)
answered_piece line (journal.Refused fault) place = (piece.Refused line.number (cause.Fault fault) ∷ [], refl, refl)
answered_piece line (journal.Moved head) place = (piece.Refused line.number (cause.Moved head) ∷ [], refl, refl)
answered_piece line (journal.Told reply) place = ([], sym (append-nil place.written), refl)

-- what is said of an Err
pub on_err : {A E : Type 0} (result : Result A E) {X : Type 0} → X → OnErr result X
on_err (Ok value) x = tt
on_err (Err error) x = x

-- Nothing was done.
pub counts_here : (calibration : Calibration) (seen : Seen) (progress : Progress) (old : ℕ) (place : Place) (s : Session) → StandsAt calibration seen s place → Counts calibration seen progress old old place s
counts_here calibration seen progress old place s stands = record { place = place; stands = stands; more = []; written = sym (append-nil place.written); ticks = omega arith }

-- At least the marginals that were printed are counted.
counted : (calibration : Calibration) (seen : Seen) (old new : ℕ) (before : Place) (s : Session) (counts : Counts calibration seen Ended old new before s) → new ≤ old + ticks_in (prints_of counts.more)
counted calibration seen old new before s counts = subst (λ prints. new ≤ old + ticks_in prints) (append-nil (prints_of counts.more)) counts.ticks

pub counts_on : (calibration : Calibration) (seen now : Seen) (progress : Progress) (old new : ℕ) (before place : Place) (s t : Session) (counts : Counts calibration seen Ended old new before s) → place.written ≡ counts.place.written → StandsAt calibration now t place → Counts calibration now progress old new before t
counts_on calibration seen now progress old new before place s t counts written stands = record {
  place = place;
  stands = stands;
  more = counts.more;
  written = written ∙ counts.written;
  ticks = omega (arith, counted calibration seen old new before s counts, ticks-append (prints_of counts.more) (cut_short progress calibration now t place));
}

-- A command was done.
pub counts_done : (calibration : Calibration) (seen : Seen) (old mid new : ℕ) (before : Place) (s t : Session) (line : Line) → IsSame s t → s.stopped ≡ false → slice_get s.script s.done ≡ Some line → ((place : Place) → Shows s.standing place → act_of place line.command ≡ None) →
    ((place : Place) → Shows s.standing place → Shows t.standing (done_at calibration (state_of seen) line.number line.command place)) → t.done ≡ s.done + 1 →
    ((place : Place) → Shows s.standing place → new ≤ mid + ticks_in (prints_at calibration (state_of seen) line.number line.command place.version place.grid)) → Counts calibration seen Ended old mid before s → Counts calibration seen Ended old new before t
counts_done calibration seen old mid new before s t line same run here none shows done steps counts =
    let p = counts.place in
    let shown = counts.stands.0.shows in
    let told = done_piece calibration (state_of seen) line.number line.command p in
    let printed = prints_at calibration (state_of seen) line.number line.command p.version p.grid in
    let all = prints_of (counts.more ++ told.0 ∷ []) in
    let total : ticks_in all ≡ ticks_in (prints_of counts.more) + ticks_in printed =
    ap (λ prints. ticks_in prints) (prints_of-append counts.more (told.0 ∷ [])) ∙ ticks-append (prints_of counts.more) (prints_of (told.0 ∷ [])) ∙ ap (λ prints. ticks_in (prints_of counts.more) + ticks_in prints) told.2 in
    let risen : new ≤ old + ticks_in all = omega (arith, total, steps p shown, counted calibration seen old mid before s counts) in
    record {
      place = done_at calibration (state_of seen) line.number line.command p;
      stands = done_stands calibration seen s t line p same run here (none p shown) (shows p shown) done counts.stands;
      more = counts.more ++ told.0 ∷ [];
      written = told.1 ∙ ap (λ written. written ++ told.0 ∷ []) counts.written ∙ append_assoc before.written counts.more (told.0 ∷ []);
      ticks = subst (λ prints. new ≤ old + ticks_in prints) (sym (append-nil all)) risen;
    }

-- A command was cut short.
pub counts_cut : (calibration : Calibration) (seen : Seen) (old mid new : ℕ) (before : Place) (s t : Session) (line : Line) → slice_get s.script s.done ≡ Some line → t.script ≡ s.script → t.done ≡ s.done →
    ((place : Place) → Shows s.standing place → new ≤ mid + ticks_in (prints_at calibration (state_of seen) line.number line.command place.version place.grid)) →
    ((place : Place) → StandsAt calibration seen s place → StandsAt calibration seen t place) → Counts calibration seen Ended old mid before s → Counts calibration seen Stopped old new before t
counts_cut calibration seen old mid new before s t line here script done steps stands counts =
    let p = counts.place in
    let rest : drop t.done t.script ≡ line ∷ drop (s.done + 1) s.script = ap₂ (λ n lines. drop n lines) done script ∙ drop-slice_get s.script s.done line here in
    let printed = prints_at calibration (state_of seen) line.number line.command p.version p.grid in
    let risen : new ≤ old + ticks_in (prints_of counts.more ++ printed) =
    omega (arith, ticks-append (prints_of counts.more) printed, steps p counts.stands.0.shows, counted calibration seen old mid before s counts) in
    record {
      place = p;
      stands = stands p counts.stands;
      more = counts.more;
      written = counts.written;
      ticks = subst (λ lines. new ≤ old + ticks_in (prints_of counts.more ++ prints_next calibration (state_of seen) lines p.version p.grid)) (sym rest) risen;
    }

-- An act was answered, or want of memory stopped the session at it.
pub counts_settled : (calibration : Calibration) (seen now : Seen) (alone : Type 0) (old new : ℕ) (before : Place) (s t : Session) (line : Line) (act : Act) (spare : Option Name) (result : Progress) (answer : Option Answer) → s.stopped ≡ false → IsAt calibration seen s →
    slice_get s.script s.done ≡ Some line → ((place : Place) → Shows s.standing place → act_of place line.command ≡ Some act) → IsSpare line.command spare → Grows s.number alone act answer seen now → t.number ≡ s.number → t.script ≡ s.script →
    Settles s t spare result answer → Counts calibration seen Ended old new before s → Counts calibration now result old new before t
counts_settled calibration seen now alone old new before s t line act spare result None run at here is named grows number script came counts =
    let p = counts.place in
    let C : Progress → Type 0 = λ r. Counts calibration now r old new before t in
    subst C (sym came.0) (counts_on calibration seen now Stopped old new before (stopped_at p) s t counts refl
    (stopped_on calibration seen now s t grows.others p run (slice_get_within s.script s.done line here) grows.theirs grows.start grows.journal number script came.1 came.2 (came.3 p counts.stands.0.shows) counts.stands))
counts_settled calibration seen now alone old new before s t line act spare result (Some answer) run at here is named grows number script came counts =
    let p = counts.place in
    let shown = counts.stands.0.shows in
    let told = answered_piece line answer p in
    let C : Progress → Type 0 = λ r. Counts calibration now r old new before t in
    let printed : prints_of (counts.more ++ told.0) ≡ prints_of counts.more =
    prints_of-append counts.more told.0 ∙ ap (λ prints. prints_of counts.more ++ prints) told.2 ∙ append-nil (prints_of counts.more) in
    let moved : Counts calibration now Moved old new before t = record {
      place = answered line answer p;
      stands = answered_stands calibration seen now s t line act answer grows.others p run at here (is p shown) grows.theirs grows.start grows.journal number script came.1 came.2 (came.3 line here named p shown) counts.stands;
      more = counts.more ++ told.0;
      written = told.1 ∙ ap (λ written. written ++ told.0) counts.written ∙ append_assoc before.written counts.more told.0;
      ticks = subst (λ prints. new ≤ old + ticks_in prints) (sym (append-nil (prints_of (counts.more ++ told.0)) ∙ printed)) (counted calibration seen old new before s counts);
    } in
    subst C (sym came.0) moved
