-- All sessions have run to their ends.
use Rattle.std.proofs.Common.{◌≡◌, ℕ, suc, ◌+◌, ◌<◌, Bool, false, ◌||◌, List, [], ◌∷◌, ◌++◌, map, length, refl, sym, ap, ap₂, subst, ◌∙◌, arith, Some, inl}
use Rattle.std.specs.Prelude.{slice_get}
use Rattle.std.specs.List.{list_any}
use Rattle.std.proofs.lemmas.Option.{slice_get_within}
use Rattle.std.proofs.lemmas.List.{length-map}
use Rattle.cg_recipe.specs.Recipe.{recipe}
use Rattle.cg_sharing.specs.Command.{Line}
use Rattle.cg_sharing.specs.Versions.{State, StartModel, start_of}
use Rattle.cg_sharing.specs.Journal.{Entry, Shared, shared_of, IsLegal}
use Rattle.cg_sharing.specs.Course.{Calibration, Place}
use Rattle.cg_sharing.specs.Interleaving.{begun, begins, last_turns, some_stopped}
use Rattle.cg_report.specs.Transcript.{transcript_of, transcripts_of}
use Rattle.cg_curve.specs.Curves.{NamedCurve}
use Rattle.cg_book.specs.Plain.{shared_in}
use Rattle.cg_session.specs.Port.{Seen}
use Rattle.cg_session.specs.declared.session.Session.{Session}
use Rattle.cg_session.specs.Session.{seat_of, script_of, is_stopped, IsIn}
use Rattle.cg_interleaving.specs.declared.run.Run.{Run}
use Rattle.cg_interleaving.specs.declared.sessions.Sessions.{Sessions}
use Rattle.cg_interleaving.specs.Run.{written_in, AreOver, IsRunOf}
use Rattle.cg_interleaving.specs.Taking.{AreAt, CanGoOn, HavePlaces, AreIn, HaveTaken, HasEnd, HasEndAt, AreTexts}
use Rattle.cg_interleaving.proofs.FinishLemmas.{shown_at}
use Rattle.cg_interleaving.proofs.StepLemmas.{left_false, right_false}

-- each session shows its place
abbrev AreShown : List Session → List Place → Type 0
AreShown [] [] = Unit {0}
AreShown [] (place ∷ places) = ⊥
AreShown (session ∷ sessions) [] = ⊥
AreShown (session ∷ sessions) (place ∷ places) = IsIn session place × AreShown sessions places

-- all courses are over
all_shown : (calibration : Calibration) (first : ℕ) (start : State) (xs : List Entry) (sessions : List Session) (places : List Place) → HavePlaces calibration first start xs sessions places →
    ((i : ℕ) (s : Session) → slice_get sessions i ≡ Some s → HasEnd calibration (first + i) start xs s) → AreOver calibration first start (map script_of sessions) xs places × AreShown sessions places
all_shown calibration first start xs [] [] have over = (tt, tt)
all_shown calibration first start xs [] (p ∷ places) have over = absurd have
all_shown calibration first start xs (s ∷ sessions) [] have over = absurd have
all_shown calibration first start xs (s ∷ sessions) (p ∷ places) have over =
    let P : ℕ → Type 0 = λ n. HasEnd calibration n start xs s in
    let none : first + 0 ≡ first = omega arith in
    let here = shown_at calibration first start xs s p have.0 (subst P none (over 0 s refl)) in
    let others = all_shown calibration (first + 1) start xs sessions places have.1
    (λ i t at.
    let Q : ℕ → Type 0 = λ n. HasEnd calibration n start xs t in
    let next : first + suc i ≡ first + 1 + i = omega arith in
    subst Q next (over (suc i) t at)) in
    ((here.1, others.0), (here.0, others.1))

stopped_shown : (sessions : List Session) (places : List Place) → AreShown sessions places → list_any is_stopped sessions ≡ some_stopped places
stopped_shown [] [] shown = refl
stopped_shown [] (p ∷ places) shown = absurd shown
stopped_shown (s ∷ sessions) [] shown = absurd shown
stopped_shown (s ∷ sessions) (p ∷ places) shown = ap₂ (λ (a b : Bool). a || b) shown.0.stopped (stopped_shown sessions places shown.1)

texts_shown : (calibration : Calibration) (seen : Seen) (first : ℕ) (sessions : List Session) (places : List Place) (texts : List (List ℕ)) → AreAt calibration seen first sessions → AreShown sessions places → AreTexts sessions texts → texts ≡ transcripts_of recipe first places
texts_shown calibration seen first [] [] [] at shown are = refl
texts_shown calibration seen first [] [] (t ∷ texts) at shown are = absurd are
texts_shown calibration seen first [] (p ∷ places) texts at shown are = absurd shown
texts_shown calibration seen first (s ∷ sessions) [] texts at shown are = absurd shown
texts_shown calibration seen first (s ∷ sessions) (p ∷ places) [] at shown are = absurd are
texts_shown calibration seen first (s ∷ sessions) (p ∷ places) (t ∷ texts) at shown are =
    ap₂ (λ (a : List ℕ) (b : List (List ℕ)). a ∷ b) (are.0 p shown.0 ∙ ap (λ n. transcript_of recipe n p) at.0) (texts_shown calibration seen (first + 1) sessions places texts at.2 shown.1 are.1)

pub count_texts : (sessions : List Session) (texts : List (List ℕ)) → AreTexts sessions texts → length texts ≡ length sessions
count_texts [] [] are = refl
count_texts [] (t ∷ texts) are = absurd are
count_texts (s ∷ sessions) [] are = absurd are
count_texts (s ∷ sessions) (t ∷ texts) are = ap (λ n. suc n) (count_texts sessions texts are.1)

-- one text more
pub AreTexts-more : (sessions : List Session) (texts : List (List ℕ)) (s : Session) (text : List ℕ) → AreTexts sessions texts → ((place : Place) → IsIn s place → text ≡ transcript_of recipe (seat_of s) place) → AreTexts (sessions ++ s ∷ []) (texts ++ text ∷ [])
AreTexts-more [] [] s text are own = (own, tt)
AreTexts-more [] (t ∷ texts) s text are own = absurd are
AreTexts-more (x ∷ sessions) [] s text are own = absurd are
AreTexts-more (x ∷ sessions) (t ∷ texts) s text are own = (are.0, AreTexts-more sessions texts s text are.1 own)

-- Sessions that begin have the places at which they begin.
pub begin_places : (calibration : Calibration) (start : State) (first : ℕ) (sessions : List Session) → list_any is_stopped sessions ≡ false → HavePlaces calibration first start [] sessions (begins calibration start first (map script_of sessions))
begin_places calibration start first [] going = tt
begin_places calibration start first (s ∷ sessions) going = (
  inl (left_false (is_stopped s) (list_any is_stopped sessions) going, record { follows = tt; reached = refl }),
  begin_places calibration start (first + 1) sessions (right_false (is_stopped s) (list_any is_stopped sessions) going),
)

pub begin_world : (calibration : Calibration) (models : List StartModel) (capacity : ℕ) (curves : List NamedCurve) (scripts : List (List Line)) (all : Sessions) → all.book ≡ record { start = shared_of models capacity; journal = []; origin = curves } →
    map script_of all.list.items ≡ scripts → list_any is_stopped all.list.items ≡ false → AreIn calibration (begun calibration models capacity scripts) all
begin_world calibration models capacity curves scripts all is read going =
    let start = start_of models in
    let places = begins calibration start 1 scripts in
    let L : List (List Line) → Type 0 = λ ls. HavePlaces calibration 1 start [] all.list.items (begins calibration start 1 ls) in
    let B : Seen → Type 0 = λ book. HavePlaces calibration 1 book.start.state book.journal all.list.items places in
    record {
      shared = ap (λ (book : Seen). shared_in book) (sym is);
      journal = ap (λ (book : Seen). book.journal) (sym is);
      places = subst B (sym is) (subst L read (begin_places calibration start 1 all.list.items going));
    }

-- What the run says, where these are its sessions.
pub record Tells (all : Sessions) (run : Run) : Type 0 where
  pub journal : run.journal ≡ all.book.journal
  pub legal : IsLegal all.book.start run.journal
  pub stopped : run.stopped ≡ all.stopped
  pub written : AreTexts all.list.items (written_in run)

-- It is that of these turns.
pub is_run : (calibration : Calibration) (models : List StartModel) (capacity : ℕ) (scripts : List (List Line)) (turns : List ℕ) (met all : Sessions) (run : Run) → CanGoOn calibration all → all.book.start ≡ shared_of models capacity → map script_of all.list.items ≡ scripts →
    (taken : HaveTaken calibration turns (begun calibration models capacity scripts) met) → HaveTaken calibration (last_turns 1 taken.now.places) taken.now all → ((place : ℕ) → place < length all.list.items → HasEndAt calibration place all) → Tells all run → IsRunOf calibration models capacity scripts turns run
is_run calibration models capacity scripts turns met all run can starts read taken out over tells =
    let world = out.now in
    let xs = all.book.journal in
    let shown = all_shown calibration 1 all.book.start.state xs all.list.items world.places out.here.places
    (λ i s at.
    let P : ℕ → Type 0 = λ n. HasEnd calibration n all.book.start.state xs s in
    let next : suc i ≡ 1 + i = omega arith in
    subst P next (over i (slice_get_within all.list.items i s at) s at)) in
    let S : State → Type 0 = λ b. AreOver calibration 1 b (map script_of all.list.items) xs world.places in
    let L : List (List Line) → Type 0 = λ ls. AreOver calibration 1 (start_of models) ls xs world.places in
    let J : List Entry → Type 0 = λ es. AreOver calibration 1 (start_of models) scripts es world.places in
    let B : Shared → Type 0 = λ b. IsLegal b run.journal in
    let K : List Entry → Type 0 = λ es. IsLegal (shared_of models capacity) es in
    let journal = tells.journal ∙ sym out.here.journal in
    record {
      world = world;
      interleaved = record { met = taken.now; taken = taken.taken; run_out = out.taken };
      legal = subst K journal (subst B starts tells.legal);
      over = subst J (sym out.here.journal) (subst L read (subst S (ap (λ (b : Shared). b.state) starts) shown.0));
      journal = journal;
      written = texts_shown calibration all.book 1 all.list.items world.places (written_in run) can.at shown.1 tells.written;
      stopped = tells.stopped ∙ can.stopped ∙ stopped_shown all.list.items world.places shown.1;
    }

pub same_length : (xs ys : List Session) → map script_of xs ≡ map script_of ys → length xs ≡ length ys
same_length xs ys same = sym (length-map xs script_of) ∙ ap (λ (ls : List (List Line)). length ls) same ∙ length-map ys script_of

pub script_count : (sessions : List Session) (scripts : List (List Line)) → map script_of sessions ≡ scripts → length sessions ≡ length scripts
script_count sessions scripts read = sym (length-map sessions script_of) ∙ ap (λ (ls : List (List Line)). length ls) read
