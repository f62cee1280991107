-- What a standing shows.
use Rattle.std.proofs.Common.{◌≡◌, ℕ, List, [], ◌∷◌, ◌++◌, map, sym, ap, ap₂, subst, ◌∙◌, append-nil, append_assoc, Option, Some, None, Result, Ok, Err}
use Rattle.std.specs.Prelude.{option_map, MatchOption, OnErr}
use Rattle.cg_meaning.specs.Tree.{Name, Chronology}
use Rattle.cg_meaning.specs.Scene.{Grid}
use Rattle.cg_sharing.specs.Edit.{EditFault}
use Rattle.cg_sharing.specs.Command.{Command}
use Rattle.cg_sharing.specs.Versions.{State, chronology_of}
use Rattle.cg_sharing.specs.Journal as journal
use Rattle.cg_sharing.specs.Cause.{Cause, Fault}
use Rattle.cg_sharing.specs.Pieces.{Print, Piece}
use Rattle.cg_sharing.specs.Course.{Calibration, Place, refused, event_in, event_piece, scene_by, print_piece, answered}
use Rattle.cg_recipe.specs.Recipe.{recipe}
use Rattle.cg_report.specs.Transcript.{Marginals, text_of_piece, text_of}
use Rattle.cg_session.specs.declared.standing.Standing.{Standing}
use Rattle.cg_session.specs.Standing.{base_in, number_of, IsSpare, Shows}

-- Nothing but room changed.
pub same_shown : (old new : Standing) (place : Place) → new.transcript.bytes.items ≡ old.transcript.bytes.items → new.version ≡ old.version → new.grid ≡ old.grid → new.bases.items ≡ old.bases.items → Shows old place → Shows new place
same_shown old new place text version grid bases shows = record {
  text = text ∙ shows.text;
  version = ap (λ v. number_of v) version ∙ shows.version;
  grid = grid ∙ shows.grid;
  bases = ap (λ bs. map base_in bs) bases ∙ shows.bases;
}

-- So what the new one shows the old one showed.
pub was_shown : (old new : Standing) (place : Place) → new.transcript.bytes.items ≡ old.transcript.bytes.items → new.version ≡ old.version → new.grid ≡ old.grid → new.bases.items ≡ old.bases.items → Shows new place → Shows old place
was_shown old new place text version grid bases shows = same_shown new old place (sym text) (sym version) (sym grid) (sym bases) shows

-- What is said of an Err, by what else is said of it.
pub on_err_by : {A E : Type 0} (result : Result A E) {P Q : Type 0} → (P → Q) → OnErr result P → OnErr result Q
on_err_by (Ok value) leads said = tt
on_err_by (Err error) leads said = leads said

-- The text of a piece more stands behind the text of the others.
text_of-piece : (marginals : Marginals) (pieces : List Piece) (piece : Piece) → text_of marginals (pieces ++ piece ∷ []) ≡ text_of marginals pieces ++ text_of_piece marginals piece
text_of-piece marginals [] piece = append-nil (text_of_piece marginals piece)
text_of-piece marginals (first ∷ others) piece =
    ap (λ text. text_of_piece marginals first ++ text) (text_of-piece marginals others piece)
    ∙ sym (append_assoc (text_of_piece marginals first) (text_of marginals others) (text_of_piece marginals piece))

-- One piece more is written.
pub piece_shown : (old new : Standing) (place after : Place) (piece : Piece) → Shows old place → new.transcript.bytes.items ≡ old.transcript.bytes.items ++ text_of_piece recipe piece → after.written ≡ place.written ++ piece ∷ [] →
    number_of new.version ≡ after.version → new.grid ≡ after.grid → map base_in new.bases.items ≡ after.bases → Shows new after
piece_shown old new place after piece shows more written version grid bases = record {
  text = more ∙ ap (λ text. text ++ text_of_piece recipe piece) shows.text ∙ sym (text_of-piece recipe place.written piece) ∙ ap (λ pieces. text_of recipe pieces) (sym written);
  version = version;
  grid = grid;
  bases = bases;
}

-- What a print tells, by what is found.
pub print_told : (way : Print → Piece) (calibration : Calibration) (state : State) (number : ℕ) (name : Name) (version : ℕ) (grid : Grid) (chronology : Chronology) (found : Result ℕ Cause) (place : Place) → place.version ≡ Some version → place.grid ≡ Some grid →
    chronology ≡ chronology_of state version → event_in (scene_by calibration chronology grid) name chronology ≡ found →
    print_piece way calibration state number name place.version place.grid ≡ event_piece way number name version chronology (scene_by calibration chronology grid) found
print_told way calibration state number name version grid chronology found place at on text is =
    ap₂ (λ v g. print_piece way calibration state number name v g) at on
    ∙ ap (λ c. event_piece way number name version c (scene_by calibration c grid) (event_in (scene_by calibration c grid) name c)) (sym text)
    ∙ ap (λ f. event_piece way number name version chronology (scene_by calibration chronology grid) f) is

-- A refusal by a fault, which is there where its cause is.
pub fault_shown : (new : Standing) (place : Place) (number : ℕ) (cause : Cause) (fault : Option EditFault) (spare : Option Name) → Some cause ≡ option_map (λ f. Fault f) fault → Shows new (refused number cause place) →
    MatchOption (option_map (λ f. journal.Refused f) fault) (Shows new place) (λ a. (command : Command) → IsSpare command spare → Shows new (answered (record { number = number; command = command }) a place))
fault_shown new place number cause None spare is shows = absurd (cc)
fault_shown new place number cause (Some f) spare is shows = λ command named. (let same : cause ≡ Fault f = cc in subst (λ c. Shows new (refused number c place)) same shows)
