-- A session that does its script line by line.
use Rattle.std.proofs.Common.{◌≡◌, ℕ, zero, suc, ◌<◌, cond, is_some, List, [], ◌∷◌, ◌++◌, length, refl, sym, ap, subst, ◌∙◌, arith, append_assoc, Option, Some, None, Result, Ok, Err, ℤ}
use Rattle.std.specs.Prelude.{slice_get}
use Rattle.cg_meaning.specs.Tree.{Name, Trees}
use Rattle.cg_meaning.specs.Scene.{Grid}
use Rattle.cg_sharing.specs.Edit.{EditFault, result_of}
use Rattle.cg_sharing.specs.Pieces as piece
use Rattle.cg_sharing.specs.Pieces.{Print, Piece}
use Rattle.cg_sharing.specs.Command as command
use Rattle.cg_sharing.specs.Command.{Command, Line}
use Rattle.cg_sharing.specs.Versions.{Version, State, count_of, chronology_at, chronology_of}
use Rattle.cg_sharing.specs.Journal as journal
use Rattle.cg_sharing.specs.Journal.{Act, Answer, Entry, with_result, changed_by, after, state_after}
use Rattle.cg_sharing.specs.Course.{Calibration, Place, act_of, next, grid_of, with_piece, with_grid, event_in, event_piece, print_piece, model_piece, scene_by, done_at, settled, entrance_of, answered, AreOthers, IsRunning, Reaches}
use Rattle.cg_sharing.proofs.JournalLemmas.{state_after-append, grows-changed_by}
use Rattle.cg_sharing.proofs.CourseLemmas.{running-others, running-own, keeps-done_at, act_of-left}

-- the version's text is the same in both states
abbrev pub SameText : State → State → Option ℕ → Type 0
SameText s t None = Unit {0}
SameText s t (Some version) = chronology_of s version ≡ chronology_of t version

chronology_at-front : (versions more : List Version) (number : ℕ) → number < length versions → chronology_at (slice_get (versions ++ more) number) ≡ chronology_at (slice_get versions number)
chronology_at-front [] more number less = absurd (omega arith)
chronology_at-front (v ∷ vs) more zero less = refl
chronology_at-front (v ∷ vs) more (suc number) less = chronology_at-front vs more number (omega arith)

chronology_of-with_result : (parent : ℕ) (result : Result Trees EditFault) (state : State) (number : ℕ) → number < count_of state → chronology_of (with_result parent result state) number ≡ chronology_of state number
chronology_of-with_result parent (Err fault) state number known = refl
chronology_of-with_result parent (Ok top) state number known =
    chronology_at-front state.versions (record { parent = Some parent; chronology = record (chronology_of state parent) { top = top } } ∷ []) number known

-- A version's text never changes.
pub chronology_of-changed_by : (act : Act) (answer : Answer) (state : State) (number : ℕ) → number < count_of state → chronology_of (changed_by act answer state) number ≡ chronology_of state number
chronology_of-changed_by (journal.Change version edit) (journal.Made made) state number known = chronology_of-with_result version (result_of edit (chronology_of state version).top) state number known
chronology_of-changed_by (journal.Commit name base version) (journal.Committed head) state number known = refl
chronology_of-changed_by act answer state number known = refl

pub chronology_of-state_after : (state : State) (entries : List Entry) (number : ℕ) → number < count_of state → chronology_of (state_after state entries) number ≡ chronology_of state number
chronology_of-state_after state [] number known = refl
chronology_of-state_after state (e ∷ es) number known =
    chronology_of-state_after (after state e) es number (omega (arith, grows-changed_by e.act e.answer state)) ∙ chronology_of-changed_by e.act e.answer state number known

print_piece-same : (way : Print → Piece) (calibration : Calibration) (s t : State) (number : ℕ) (name : Name) (version : Option ℕ) (grid : Option Grid) → SameText s t version →
    print_piece way calibration s number name version grid ≡ print_piece way calibration t number name version grid
print_piece-same way calibration s t number name None grid same = refl
print_piece-same way calibration s t number name (Some version) None same = refl
print_piece-same way calibration s t number name (Some version) (Some grid) same =
    ap (λ c. event_piece way number name version c (scene_by calibration c grid) (event_in (scene_by calibration c grid) name c)) same

model_piece-same : (s t : State) (number : ℕ) (version : Option ℕ) → SameText s t version → model_piece s number version ≡ model_piece t number version
model_piece-same s t number None same = refl
model_piece-same s t number (Some version) same = ap (λ c. piece.Model version c) same

done_at-same : (calibration : Calibration) (s t : State) (number : ℕ) (c : Command) (place : Place) → SameText s t place.version → done_at calibration s number c place ≡ done_at calibration t number c place
done_at-same calibration s t number (command.Grid older younger) place same = refl
done_at-same calibration s t number (command.Print name) place same =
    ap (λ p. with_piece p place) (print_piece-same piece.Marginal calibration s t number name place.version place.grid same)
done_at-same calibration s t number (command.Ranges name) place same =
    ap (λ p. with_piece p place) (print_piece-same piece.Ranges calibration s t number name place.version place.grid same)
done_at-same calibration s t number command.Model place same = ap (λ p. with_piece p place) (model_piece-same s t number place.version same)
done_at-same calibration s t number command.Work place same = refl
done_at-same calibration s t number other place same = refl

-- What a session does up to its next act hangs on its version's text alone.
pub settled-same : (calibration : Calibration) (s t : State) (lines : List Line) (place : Place) → SameText s t place.version → settled calibration s lines place ≡ settled calibration t lines place
settled-same calibration s t [] place same = refl
settled-same calibration s t (line ∷ lines) place same =
    let now = done_at calibration t line.number line.command place in
    let kept = keeps-done_at calibration t line.number line.command place in
    let later = settled-same calibration s t lines now (subst (λ v. SameText s t v) (sym kept.version) same) in
    let step = ap (λ p. settled calibration s lines p) (done_at-same calibration s t line.number line.command place same) ∙ later in
    ap (λ p. cond (is_some (act_of place line.command)) (record place { left = line ∷ lines }) p) step

with_grid-left : (number : ℕ) (grid : Result Grid ℤ) (place : Place) (lines : List Line) → with_grid number grid (record place { left = lines }) ≡ record (with_grid number grid place) { left = lines }
with_grid-left number (Ok grid) place lines = refl
with_grid-left number (Err cells) place lines = refl

done_at-left : (calibration : Calibration) (s : State) (number : ℕ) (c : Command) (place : Place) (lines : List Line) → done_at calibration s number c (record place { left = lines }) ≡ record (done_at calibration s number c place) { left = lines }
done_at-left calibration s number (command.Grid older younger) place lines = with_grid-left number (grid_of older younger) place lines
done_at-left calibration s number (command.Print name) place lines = refl
done_at-left calibration s number (command.Ranges name) place lines = refl
done_at-left calibration s number command.Model place lines = refl
done_at-left calibration s number command.Work place lines = refl
done_at-left calibration s number other place lines = refl

-- The lines that were left before don't matter.
pub settled-left : (calibration : Calibration) (s : State) (lines : List Line) (place : Place) (left : List Line) → settled calibration s lines (record place { left = left }) ≡ settled calibration s lines place
settled-left calibration s [] place left = refl
settled-left calibration s (line ∷ lines) place left =
    let step = ap (λ p. settled calibration s lines p) (done_at-left calibration s line.number line.command place left) ∙ settled-left calibration s lines (done_at calibration s line.number line.command place) left in
    rw (act_of-left line.command place left) (ap (λ p. cond (is_some (act_of place line.command)) (record place { left = line ∷ lines }) p) step)

answered-left : (line : Line) (answer : Answer) (place : Place) (lines : List Line) → answered line answer (record place { left = lines }) ≡ record (answered line answer place) { left = lines }
answered-left line (journal.At version) place lines = refl
answered-left line (journal.Made version) place lines = refl
answered-left line (journal.Committed version) place lines = refl
answered-left line other place lines = refl

-- A session reaches the place where it begins.
pub reach_begin : (calibration : Calibration) (session : ℕ) (start : State) → Reaches calibration session start [] [] (entrance_of session)
reach_begin calibration session start = λ rest. record { follows = tt; reached = refl }

-- Commands without an act lead on.
pub reach_done : (calibration : Calibration) (session : ℕ) (start : State) (did more : List Line) (xs : List Entry) (p q : Place) → Reaches calibration session start did xs p →
    ((rest : List Line) → settled calibration (state_after start xs) (more ++ rest) p ≡ settled calibration (state_after start xs) rest q) → Reaches calibration session start (did ++ more) xs q
reach_done calibration session start did more xs p q reach same = λ rest.
    let P : List Line → Type 0 = λ script. IsRunning calibration session start script xs (settled calibration (state_after start xs) rest q) in
    let Q : Place → Type 0 = λ place. IsRunning calibration session start (did ++ (more ++ rest)) xs place in
    subst P (sym (append_assoc did more rest)) (subst Q (same rest) (reach (more ++ rest)))

-- Entries of other seats leave the place.
pub reach_others : (calibration : Calibration) (session : ℕ) (start : State) (did : List Line) (xs ys : List Entry) (p : Place) → Reaches calibration session start did xs p → AreOthers session ys →
    SameText (state_after start xs) (state_after start (xs ++ ys)) p.version → Reaches calibration session start did (xs ++ ys) p
reach_others calibration session start did xs ys p reach others same = λ rest.
    let P : Place → Type 0 = λ place. IsRunning calibration session start (did ++ rest) (xs ++ ys) place in
    subst P (settled-same calibration (state_after start xs) (state_after start (xs ++ ys)) rest p same) (running-others calibration session start (did ++ rest) xs ys (settled calibration (state_after start xs) rest p) (reach rest) others)

pub settled-act : (calibration : Calibration) (s : State) (line : Line) (lines : List Line) (p : Place) (act : Act) → act_of p line.command ≡ Some act → settled calibration s (line ∷ lines) p ≡ record p { left = line ∷ lines }
settled-act calibration s line lines p act is = ap (λ a. cond (is_some a) (record p { left = line ∷ lines }) (settled calibration s lines (done_at calibration s line.number line.command p))) is

-- The answer to a command's act leads on.
pub reach_own : (calibration : Calibration) (session : ℕ) (start : State) (did : List Line) (line : Line) (xs : List Entry) (entry : Entry) (p : Place) → Reaches calibration session start did xs p → entry.seat ≡ session → act_of p line.command ≡ Some entry.act →
    Reaches calibration session start (did ++ line ∷ []) (xs ++ entry ∷ []) (answered line entry.answer p)
reach_own calibration session start did line xs entry p reach own is = λ rest.
    let here : Place = record p { left = line ∷ rest } in
    let now = after (state_after start xs) entry in
    let at = settled-act calibration (state_after start xs) line rest p entry.act is in
    let R : Place → Type 0 = λ place. IsRunning calibration session start (did ++ line ∷ rest) xs place in
    let act : next here ≡ Some entry.act = act_of-left line.command p (line ∷ rest) ∙ is in
    let gone = running-own calibration session start (did ++ line ∷ rest) xs entry here (subst R at (reach (line ∷ rest))) own act in
    let moved : settled calibration now rest (answered line entry.answer here) ≡ settled calibration (state_after start (xs ++ entry ∷ [])) rest (answered line entry.answer p) =
    ap (λ q. settled calibration now rest q) (answered-left line entry.answer p (line ∷ rest))
    ∙ settled-left calibration now rest (answered line entry.answer p) (line ∷ rest)
    ∙ ap (λ s. settled calibration s rest (answered line entry.answer p)) (sym (state_after-append start xs (entry ∷ []))) in
    let P : List Line → Type 0 = λ script. IsRunning calibration session start script (xs ++ entry ∷ []) (settled calibration (state_after start (xs ++ entry ∷ [])) rest (answered line entry.answer p)) in
    let Q : Place → Type 0 = λ place. IsRunning calibration session start (did ++ line ∷ rest) (xs ++ entry ∷ []) place in
    subst P (sym (append_assoc did (line ∷ []) rest)) (subst Q moved gone)
