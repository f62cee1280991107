-- A session that does its script line by line.
use Rattle.std.proofs.Common.{◌≡◌, ℕ, zero, suc, ◌<◌, Bool, true, false, ◌||◌, cond, is_some, List, [], ◌∷◌, ◌++◌, length, refl, sym, ap, subst, ◌∙◌, arith, append_assoc, Option, Some, None, Result, Ok, Err, ℤ}
use Rattle.std.specs.Prelude.{slice_get}
use Rattle.cg_meaning.specs.Tree.{Name, Trees}
use Rattle.cg_meaning.specs.Scene.{Grid}
use Rattle.cg_cache.specs.Deeds.{Reply}
use Rattle.cg_walk.specs.Gets.{Gets, no_more, get}
use Rattle.cg_walk.specs.Walk.{Todo, deed_of, wants, turned}
use Rattle.cg_sharing.specs.Edit.{EditFault, result_of}
use Rattle.cg_courses.specs.Pieces as piece
use Rattle.cg_courses.specs.Pieces.{Print, Piece}
use Rattle.cg_sharing.specs.Command as command
use Rattle.cg_sharing.specs.Command.{Command, Line}
use Rattle.cg_sharing.specs.Versions.{Version, State, count_of, chronology_at, chronology_of}
use Rattle.cg_sharing.specs.Journal as journal
use Rattle.cg_sharing.specs.Journal.{Act, Answer, Entry, with_result, changed_by, after, state_after}
use Rattle.cg_courses.specs.Course.{Calibration, Place, act_of, next, event_gets, gets_at, gets_of, is_get, is_by_acts, counted, with_todo, went, grid_of, with_piece, with_grid, event_in, event_piece, print_piece, model_piece, scene_by, done_at, settled, entrance_of, answered, AreOthers, IsRunning, Reaches, IsGetting}
use Rattle.cg_sharing.proofs.JournalLemmas.{state_after-append, grows-changed_by}
use Rattle.cg_courses.proofs.CourseLemmas.{running-others, running-own, keeps-done_at, act_of-here}

-- the version's text is the same in both states
abbrev pub SameText : State → State → Option ℕ → Type 0
SameText s t None = Unit {0}
SameText s t (Some version) = chronology_of s version ≡ chronology_of t version

chronology_at-front : (versions more : List Version) (number : ℕ) → number < length versions → chronology_at (slice_get (versions ++ more) number) ≡ chronology_at (slice_get versions number)
chronology_at-front [] more number less = absurd (omega arith)
chronology_at-front (v ∷ vs) more zero less = refl
chronology_at-front (v ∷ vs) more (suc number) less = chronology_at-front vs more number (omega arith)

chronology_of-with_result : (parent : ℕ) (result : Result Trees EditFault) (state : State) (number : ℕ) → number < count_of state → chronology_of (with_result parent result state) number ≡ chronology_of state number
chronology_of-with_result parent (Err fault) state number known = refl
chronology_of-with_result parent (Ok top) state number known =
    chronology_at-front state.versions (record { parent = Some parent; chronology = record (chronology_of state parent) { top = top } } ∷ []) number known

-- A version's text never changes.
pub chronology_of-changed_by : (act : Act) (answer : Answer) (state : State) (number : ℕ) → number < count_of state → chronology_of (changed_by act answer state) number ≡ chronology_of state number
chronology_of-changed_by (journal.Change version edit) (journal.Made made) state number known = chronology_of-with_result version (result_of edit (chronology_of state version).top) state number known
chronology_of-changed_by (journal.Commit name base version) (journal.Committed head) state number known = refl
chronology_of-changed_by act answer state number known = refl

pub chronology_of-state_after : (state : State) (entries : List Entry) (number : ℕ) → number < count_of state → chronology_of (state_after state entries) number ≡ chronology_of state number
chronology_of-state_after state [] number known = refl
chronology_of-state_after state (e ∷ es) number known =
    chronology_of-state_after (after state e) es number (omega (arith, grows-changed_by e.act e.answer state)) ∙ chronology_of-changed_by e.act e.answer state number known

print_piece-same : (way : Print → Piece) (calibration : Calibration) (s t : State) (number : ℕ) (name : Name) (version : Option ℕ) (grid : Option Grid) → SameText s t version →
    print_piece way calibration s number name version grid ≡ print_piece way calibration t number name version grid
print_piece-same way calibration s t number name None grid same = refl
print_piece-same way calibration s t number name (Some version) None same = refl
print_piece-same way calibration s t number name (Some version) (Some grid) same =
    ap (λ c. event_piece way number name version c (scene_by calibration c grid) (event_in (scene_by calibration c grid) name c)) same

model_piece-same : (s t : State) (number : ℕ) (version : Option ℕ) → SameText s t version → model_piece s number version ≡ model_piece t number version
model_piece-same s t number None same = refl
model_piece-same s t number (Some version) same = ap (λ c. piece.Model version c) same

done_at-same : (calibration : Calibration) (s t : State) (number : ℕ) (c : Command) (place : Place) → SameText s t place.version → done_at calibration s number c place ≡ done_at calibration t number c place
done_at-same calibration s t number (command.Grid older younger) place same = refl
done_at-same calibration s t number (command.Print name) place same =
    ap (λ p. with_piece p place) (print_piece-same piece.Marginal calibration s t number name place.version place.grid same)
done_at-same calibration s t number (command.Ranges name) place same =
    ap (λ p. with_piece p place) (print_piece-same piece.Ranges calibration s t number name place.version place.grid same)
done_at-same calibration s t number command.Model place same = ap (λ p. with_piece p place) (model_piece-same s t number place.version same)
done_at-same calibration s t number command.Work place same = refl
done_at-same calibration s t number other place same = refl

gets_at-same : (calibration : Calibration) (s t : State) (name : Name) (version : Option ℕ) (grid : Option Grid) → SameText s t version → gets_at calibration s name version grid ≡ gets_at calibration t name version grid
gets_at-same calibration s t name None grid same = refl
gets_at-same calibration s t name (Some version) None same = refl
gets_at-same calibration s t name (Some version) (Some grid) same =
    ap (λ c. event_gets grid (calibration c.curve).number c (event_in (scene_by calibration c grid) name c)) same

gets_of-same : (calibration : Calibration) (s t : State) (c : Command) (place : Place) → SameText s t place.version → gets_of calibration s c place ≡ gets_of calibration t c place
gets_of-same calibration s t (command.Print name) place same = gets_at-same calibration s t name place.version place.grid same
gets_of-same calibration s t (command.Ranges name) place same = gets_at-same calibration s t name place.version place.grid same
gets_of-same calibration s t other place same = refl

-- What a session does up to its next act hangs on its version's text alone.
pub settled-same : (calibration : Calibration) (s t : State) (lines : List Line) (place : Place) → SameText s t place.version → settled calibration s lines place ≡ settled calibration t lines place
settled-same calibration s t [] place same = refl
settled-same calibration s t (line ∷ lines) place same =
    let now = done_at calibration t line.number line.command place in
    let kept = keeps-done_at calibration t line.number line.command place in
    let later = settled-same calibration s t lines now (subst (λ v. SameText s t v) (sym kept.version) same) in
    let step = ap (λ p. settled calibration s lines p) (done_at-same calibration s t line.number line.command place same) ∙ later in
    let act = is_some (act_of place line.command) in
    let here : Gets → Place → Place = λ g p. cond (act || is_get g) (record place { left = line ∷ lines; todo = wants g [] }) p in
    ap (λ g. here g (settled calibration s lines (done_at calibration s line.number line.command place))) (gets_of-same calibration s t line.command place same)
    ∙ ap (λ p. here (gets_of calibration t line.command place) p) step

with_grid-left : (number : ℕ) (grid : Result Grid ℤ) (place : Place) (lines : List Line) (todo : List Todo) →
    with_grid number grid (record place { left = lines; todo = todo }) ≡ record (with_grid number grid place) { left = lines; todo = todo }
with_grid-left number (Ok grid) place lines todo = refl
with_grid-left number (Err cells) place lines todo = refl

done_at-left : (calibration : Calibration) (s : State) (number : ℕ) (c : Command) (place : Place) (lines : List Line) (todo : List Todo) →
    done_at calibration s number c (record place { left = lines; todo = todo }) ≡ record (done_at calibration s number c place) { left = lines; todo = todo }
done_at-left calibration s number (command.Grid older younger) place lines todo = with_grid-left number (grid_of older younger) place lines todo
done_at-left calibration s number (command.Print name) place lines todo = refl
done_at-left calibration s number (command.Ranges name) place lines todo = refl
done_at-left calibration s number command.Model place lines todo = refl
done_at-left calibration s number command.Work place lines todo = refl
done_at-left calibration s number other place lines todo = refl

gets_of-left : (calibration : Calibration) (s : State) (c : Command) (place : Place) (lines : List Line) (todo : List Todo) → gets_of calibration s c (record place { left = lines; todo = todo }) ≡ gets_of calibration s c place
gets_of-left calibration s (command.Print name) place lines todo = refl
gets_of-left calibration s (command.Ranges name) place lines todo = refl
gets_of-left calibration s other place lines todo = refl

-- The lines that were left before don't matter, nor what was to be done.
pub settled-left : (calibration : Calibration) (s : State) (lines : List Line) (place : Place) (left : List Line) (todo : List Todo) → settled calibration s lines (record place { left = left; todo = todo }) ≡ settled calibration s lines place
settled-left calibration s [] place left todo = refl
settled-left calibration s (line ∷ lines) place left todo =
    let step = ap (λ p. settled calibration s lines p) (done_at-left calibration s line.number line.command place left todo) ∙ settled-left calibration s lines (done_at calibration s line.number line.command place) left todo in
    let here : Option Act → Gets → Place → Place = λ a g p. cond (is_some a || is_get g) (record place { left = line ∷ lines; todo = wants g [] }) p in
    rw (act_of-here line.command place left todo, gets_of-left calibration s line.command place left todo) (ap (λ p. here (act_of place line.command) (gets_of calibration s line.command place) p) step)

answered-left : (line : Line) (answer : Answer) (place : Place) (lines : List Line) (todo : List Todo) → answered line answer (record place { left = lines; todo = todo }) ≡ record (answered line answer place) { left = lines; todo = todo }
answered-left line (journal.At version) place lines todo = refl
answered-left line (journal.Made version) place lines todo = refl
answered-left line (journal.Committed version) place lines todo = refl
answered-left line other place lines todo = refl

-- A session reaches the place where it begins.
pub reach_begin : (calibration : Calibration) (session : ℕ) (start : State) → Reaches calibration session start [] [] (entrance_of session)
reach_begin calibration session start = λ rest. record { follows = tt; reached = refl }

-- Commands without an act lead on.
pub reach_done : (calibration : Calibration) (session : ℕ) (start : State) (did more : List Line) (xs : List Entry) (p q : Place) → Reaches calibration session start did xs p →
    ((rest : List Line) → settled calibration (state_after start xs) (more ++ rest) p ≡ settled calibration (state_after start xs) rest q) → Reaches calibration session start (did ++ more) xs q
reach_done calibration session start did more xs p q reach same = λ rest.
    let P : List Line → Type 0 = λ script. IsRunning calibration session start script xs (settled calibration (state_after start xs) rest q) in
    let Q : Place → Type 0 = λ place. IsRunning calibration session start (did ++ (more ++ rest)) xs place in
    subst P (sym (append_assoc did more rest)) (subst Q (same rest) (reach (more ++ rest)))

-- Entries of other seats leave the place.
pub reach_others : (calibration : Calibration) (session : ℕ) (start : State) (did : List Line) (xs ys : List Entry) (p : Place) → Reaches calibration session start did xs p → AreOthers session ys →
    SameText (state_after start xs) (state_after start (xs ++ ys)) p.version → Reaches calibration session start did (xs ++ ys) p
reach_others calibration session start did xs ys p reach others same = λ rest.
    let P : Place → Type 0 = λ place. IsRunning calibration session start (did ++ rest) (xs ++ ys) place in
    subst P (settled-same calibration (state_after start xs) (state_after start (xs ++ ys)) rest p same) (running-others calibration session start (did ++ rest) xs ys (settled calibration (state_after start xs) rest p) (reach rest) others)

-- a command with an act of its own gets no messages
act_gets : (calibration : Calibration) (s : State) (c : Command) (p : Place) (act : Act) → act_of p c ≡ Some act → gets_of calibration s c p ≡ no_more
act_gets calibration s (command.Print name) p act is = absurd (cc)
act_gets calibration s (command.Ranges name) p act is = absurd (cc)
act_gets calibration s other p act is = refl

pub settled-act : (calibration : Calibration) (s : State) (line : Line) (lines : List Line) (p : Place) (act : Act) → act_of p line.command ≡ Some act → settled calibration s (line ∷ lines) p ≡ record p { left = line ∷ lines; todo = [] }
settled-act calibration s line lines p act is =
    let other = settled calibration s lines (done_at calibration s line.number line.command p) in
    let here : Option Act → Gets → Place = λ a g. cond (is_some a || is_get g) (record p { left = line ∷ lines; todo = wants g [] }) other in
    ap (λ a. here a (gets_of calibration s line.command p)) is ∙ ap (λ g. here (Some act) g) (act_gets calibration s line.command p act is)

either : (a b : Bool) → b ≡ true → a || b ≡ true
either true b is = refl
either false b is = is

-- a command with messages stands there
pub settled-gets : (calibration : Calibration) (s : State) (line : Line) (lines : List Line) (p : Place) (gets : Gets) → gets_of calibration s line.command p ≡ gets → is_get gets ≡ true →
    settled calibration s (line ∷ lines) p ≡ record p { left = line ∷ lines; todo = wants gets [] }
settled-gets calibration s line lines p gets is some =
    let other = settled calibration s lines (done_at calibration s line.number line.command p) in
    let here : Bool → Gets → Place = λ b g. cond b (record p { left = line ∷ lines; todo = wants g [] }) other in
    let acts : is_by_acts calibration s line.command p ≡ true = either (is_some (act_of p line.command)) (is_get (gets_of calibration s line.command p)) (ap (λ g. is_get g) is ∙ some) in
    ap (λ b. here b (gets_of calibration s line.command p)) acts ∙ ap (λ g. here true g) is

-- The answer to a command's act leads on.
pub reach_own : (calibration : Calibration) (session : ℕ) (start : State) (did : List Line) (line : Line) (xs : List Entry) (entry : Entry) (p : Place) → Reaches calibration session start did xs p → entry.seat ≡ session → act_of p line.command ≡ Some entry.act →
    Reaches calibration session start (did ++ line ∷ []) (xs ++ entry ∷ []) (answered line entry.answer p)
reach_own calibration session start did line xs entry p reach own is = λ rest.
    let here : Place = record p { left = line ∷ rest; todo = [] } in
    let now = after (state_after start xs) entry in
    let at = settled-act calibration (state_after start xs) line rest p entry.act is in
    let R : Place → Type 0 = λ place. IsRunning calibration session start (did ++ line ∷ rest) xs place in
    let act : next here ≡ Some entry.act = act_of-here line.command p (line ∷ rest) [] ∙ is in
    let gone = running-own calibration session start (did ++ line ∷ rest) xs entry here (subst R at (reach (line ∷ rest))) own act in
    let moved : settled calibration now rest (answered line entry.answer here) ≡ settled calibration (state_after start (xs ++ entry ∷ [])) rest (answered line entry.answer p) =
    ap (λ q. settled calibration now rest q) (answered-left line entry.answer p (line ∷ rest) [])
    ∙ settled-left calibration now rest (answered line entry.answer p) (line ∷ rest) []
    ∙ ap (λ s. settled calibration s rest (answered line entry.answer p)) (sym (state_after-append start xs (entry ∷ []))) in
    let P : List Line → Type 0 = λ script. IsRunning calibration session start script (xs ++ entry ∷ []) (settled calibration (state_after start (xs ++ entry ∷ [])) rest (answered line entry.answer p)) in
    let Q : Place → Type 0 = λ place. IsRunning calibration session start (did ++ line ∷ rest) (xs ++ entry ∷ []) place in
    subst P (sym (append_assoc did (line ∷ []) rest)) (subst Q moved gone)

-- A print begins to get its messages.
pub reach_print : (calibration : Calibration) (session : ℕ) (start : State) (did : List Line) (line : Line) (xs : List Entry) (p : Place) (code : List ℕ) (parts others : Gets) → Reaches calibration session start did xs p →
    gets_of calibration (state_after start xs) line.command p ≡ get code parts others → IsGetting calibration session start did line xs p (wants (get code parts others) [])
reach_print calibration session start did line xs p code parts others reach is = λ rest.
    subst (λ (q : Place). IsRunning calibration session start (did ++ line ∷ rest) xs q) (settled-gets calibration (state_after start xs) line rest p (get code parts others) is refl) (reach (line ∷ rest))

-- There its next act is the first deed.
pub getting_next : (place : Place) (lines : List Line) (todo rest : List Todo) (first : Todo) → todo ≡ first ∷ rest → next (record place { left = lines; todo = todo }) ≡ Some (journal.Do (deed_of first))
getting_next place lines todo rest first is = ap (λ (t : List Todo). next (record place { left = lines; todo = t })) is

-- Entries of other seats leave it there.
pub getting_others : (calibration : Calibration) (session : ℕ) (start : State) (did : List Line) (line : Line) (xs ys : List Entry) (p : Place) (todo : List Todo) → IsGetting calibration session start did line xs p todo → AreOthers session ys →
    IsGetting calibration session start did line (xs ++ ys) p todo
getting_others calibration session start did line xs ys p todo getting others = λ rest.
    running-others calibration session start (did ++ line ∷ rest) xs ys (record p { left = line ∷ rest; todo = todo }) (getting rest) others

-- the place once a reply is counted
abbrev pub with_reply : Todo → Reply → Place → Place
with_reply first reply p = record p { todo = []; counts = counted (deed_of first) reply p.counts }

getting_on : (calibration : Calibration) (session : ℕ) (start : State) (did : List Line) (line : Line) (xs : List Entry) (entry : Entry) (p : Place) (first : Todo) (todo : List Todo) (reply : Reply) → IsGetting calibration session start did line xs p (first ∷ todo) →
    entry.seat ≡ session → entry.act ≡ journal.Do (deed_of first) → entry.answer ≡ journal.Told reply → (rest : List Line) →
    IsRunning calibration session start (did ++ line ∷ rest) (xs ++ entry ∷ []) (with_todo calibration (after (state_after start xs) entry) (turned first reply todo) (record (with_reply first reply p) { left = line ∷ rest; todo = first ∷ todo }))
getting_on calibration session start did line xs entry p first todo reply getting own act answer = λ rest.
    let here : Place = record p { left = line ∷ rest; todo = first ∷ todo } in
    let gone = running-own calibration session start (did ++ line ∷ rest) xs entry here (getting rest) own (ap (λ a. Some a) (sym act)) in
    let now = after (state_after start xs) entry in
    let R : Place → Type 0 = λ place. IsRunning calibration session start (did ++ line ∷ rest) (xs ++ entry ∷ []) place in
    subst R (ap (λ a. went calibration now a here) answer) gone

-- A reply leads on to what is left of the print,
pub getting_own : (calibration : Calibration) (session : ℕ) (start : State) (did : List Line) (line : Line) (xs : List Entry) (entry : Entry) (p : Place) (first second : Todo) (todo more : List Todo) (reply : Reply) →
    IsGetting calibration session start did line xs p (first ∷ todo) → entry.seat ≡ session → entry.act ≡ journal.Do (deed_of first) → entry.answer ≡ journal.Told reply → turned first reply todo ≡ second ∷ more →
    IsGetting calibration session start did line (xs ++ entry ∷ []) (with_reply first reply p) (second ∷ more)
getting_own calibration session start did line xs entry p first second todo more reply getting own act answer turn = λ rest.
    let gone = getting_on calibration session start did line xs entry p first todo reply getting own act answer rest in
    let here : Place = record (with_reply first reply p) { left = line ∷ rest; todo = first ∷ todo } in
    subst (λ (t : List Todo). IsRunning calibration session start (did ++ line ∷ rest) (xs ++ entry ∷ []) (with_todo calibration (after (state_after start xs) entry) t here)) turn gone

-- and the last one to the lines of the print.
pub getting_last : (calibration : Calibration) (session : ℕ) (start : State) (did : List Line) (line : Line) (xs : List Entry) (entry : Entry) (p : Place) (first : Todo) (todo : List Todo) (reply : Reply) →
    IsGetting calibration session start did line xs p (first ∷ todo) → entry.seat ≡ session → entry.act ≡ journal.Do (deed_of first) → entry.answer ≡ journal.Told reply → turned first reply todo ≡ [] →
    Reaches calibration session start (did ++ line ∷ []) (xs ++ entry ∷ []) (done_at calibration (state_after start (xs ++ entry ∷ [])) line.number line.command (with_reply first reply p))
getting_last calibration session start did line xs entry p first todo reply getting own act answer turn = λ rest.
    let gone = getting_on calibration session start did line xs entry p first todo reply getting own act answer rest in
    let here : Place = record (with_reply first reply p) { left = line ∷ rest; todo = first ∷ todo } in
    let now = after (state_after start xs) entry in
    let R : Place → Type 0 = λ place. IsRunning calibration session start (did ++ line ∷ rest) (xs ++ entry ∷ []) place in
    let end = subst (λ (t : List Todo). R (with_todo calibration now t here)) turn gone in
    let done = done_at calibration now line.number line.command (with_reply first reply p) in
    let same : settled calibration now rest (done_at calibration now line.number line.command (record (with_reply first reply p) { left = line ∷ rest; todo = [] })) ≡ settled calibration now rest done =
    ap (λ q. settled calibration now rest q) (done_at-left calibration now line.number line.command (with_reply first reply p) (line ∷ rest) []) ∙ settled-left calibration now rest done (line ∷ rest) [] in
    let S : State → Type 0 = λ s. R (settled calibration s rest (done_at calibration s line.number line.command (with_reply first reply p))) in
    let P : List Line → Type 0 = λ script. IsRunning calibration session start script (xs ++ entry ∷ []) (settled calibration (state_after start (xs ++ entry ∷ [])) rest (done_at calibration (state_after start (xs ++ entry ∷ [])) line.number line.command (with_reply first reply p))) in
    subst P (sym (append_assoc did (line ∷ []) rest)) (subst S (sym (state_after-append start xs (entry ∷ []))) (subst R same end))
