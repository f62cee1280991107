-- Sessions that advance until their courses are over.
use Rattle.std.proofs.Common.{◌≡◌, ◌≢◌, ℕ, zero, suc, ◌+◌, ◌-◌, ◌<◌, ◌≤◌, Bool, true, false, nat_eq, eqb-true, List, [], ◌∷◌, ◌++◌, length, drop, replicate, refl, sym, ap, subst, ◌∙◌, arith, Some, None, inl, inr}
use Rattle.std.specs.Prelude.{slice_get}
use Rattle.std.proofs.lemmas.Bool.{true≢false, eqb-false}
use Rattle.std.proofs.lemmas.List.{replicate-append-replicate}
use Rattle.std.proofs.lemmas.Option.{slice_get_past}
use Rattle.cg_sharing.specs.Versions.{State}
use Rattle.cg_sharing.specs.Journal.{Entry}
use Rattle.cg_sharing.specs.Course.{Calibration, Place}
use Rattle.cg_sharing.specs.Interleaving.{World, place_of, AreTurns, last_turns}
use Rattle.cg_sharing.proofs.TurnLemmas.{AreTurns-append, turns_rest, turns_behind, turn_passes}
use Rattle.cg_session.specs.declared.session.Session.{Session}
use Rattle.cg_session.specs.Session.{script_of, IsIn}
use Rattle.cg_interleaving.specs.Run.{IsOver}
use Rattle.cg_interleaving.specs.declared.sessions.Sessions.{Sessions}
use Rattle.cg_interleaving.specs.Taking.{HasPlace, HavePlaces, AreIn, HaveTaken, lines_of, lines_at, HasTurned, HasTurnedOften, HaveRunOut, HasEnd, HasEndAt}
use Rattle.cg_interleaving.proofs.KeptLemmas.{stopped_left}
use Rattle.cg_interleaving.proofs.WorldLemmas.{same_place}
use Rattle.cg_interleaving.proofs.StepLemmas.{place_get}
use Rattle.cg_interleaving.proofs.ListLemmas.{drop-get}

-- no turns
pub none_taken : (calibration : Calibration) (world : World) (all : Sessions) → AreIn calibration world all → HaveTaken calibration [] world all
none_taken calibration world all here = record { now = world; taken = refl; here = here }

-- and turns behind others
pub more_taken : (calibration : Calibration) (xs ys : List ℕ) (world : World) (mid all : Sessions) (has : HaveTaken calibration xs world mid) → HaveTaken calibration ys has.now all → HaveTaken calibration (xs ++ ys) world all
more_taken calibration xs ys world mid all has more = record { now = more.now; taken = AreTurns-append calibration xs ys world has.now more.now has.taken more.taken; here = more.here }

-- The turn of a session is one turn,
pub turn_taken : (calibration : Calibration) (number place : ℕ) (moved : Bool) (world : World) (all : Sessions) → number ≡ suc place → HasTurned calibration place moved world all → HaveTaken calibration (number ∷ []) world all
turn_taken calibration number place moved world all is has =
    let T : ℕ → Type 0 = λ n. AreTurns calibration (n ∷ []) world has.now in
    record { now = has.now; taken = subst T (sym is) has.taken; here = has.here }

pub count_places : (calibration : Calibration) (first : ℕ) (start : State) (xs : List Entry) (sessions : List Session) (places : List Place) → HavePlaces calibration first start xs sessions places → length places ≡ length sessions
count_places calibration first start xs [] [] have = refl
count_places calibration first start xs [] (p ∷ places) have = absurd have
count_places calibration first start xs (s ∷ sessions) [] have = absurd have
count_places calibration first start xs (s ∷ sessions) (p ∷ places) have = ap (λ n. suc n) (count_places calibration (first + 1) start xs sessions places have.1)

nobody : (places : List Place) (number : ℕ) → (1 ≤ number → length places + 1 ≤ number) → place_of number places ≡ None
nobody places zero past = refl
nobody places (suc i) past = slice_get_past places i (omega (arith, past (omega arith)))

-- and so is that of a number which is no session's: it does nothing.
pub passed : (calibration : Calibration) (world : World) (all : Sessions) (number : ℕ) → (1 ≤ number → length all.list.items + 1 ≤ number) → AreIn calibration world all → HaveTaken calibration (number ∷ []) world all
passed calibration world all number past here =
    let count = count_places calibration 1 all.book.start.state all.book.journal all.list.items world.places here.places in
    let none = nobody world.places number (λ some. omega (arith, past some, count)) in
    record { now = world; taken = (world, inl (sym (turn_passes calibration number world none)), refl); here = here }

-- The session has taken no turn yet,
pub none_often : (calibration : Calibration) (place : ℕ) (world : World) (all : Sessions) → AreIn calibration world all → HasTurnedOften calibration place world all
none_often calibration place world all here = record { count = 0; now = world; taken = refl; here = here; within = omega arith }

replicate-more : (count number : ℕ) → replicate (suc count) number ≡ replicate count number ++ number ∷ []
replicate-more zero number = refl
replicate-more (suc count) number = ap (λ ns. number ∷ ns) (replicate-more count number)

-- or one more, in which it made an event.
pub one_more_often : (calibration : Calibration) (place : ℕ) (world : World) (old new : Sessions) (has : HasTurnedOften calibration place world old) → HasTurned calibration place true has.now new → HasTurnedOften calibration place world new
one_more_often calibration place world old new has step =
    let T : List ℕ → Type 0 = λ ns. AreTurns calibration ns world step.now in record {
      count = suc has.count;
      now = step.now;
      taken = subst T (sym (replicate-more has.count (suc place))) (AreTurns-append calibration (replicate has.count (suc place)) (suc place ∷ []) world has.now step.now has.taken step.taken);
      here = step.here;
      within = omega (arith, has.within, step.fewer refl);
    }

-- A session whose course is over shows its place,
pub shown_at : (calibration : Calibration) (number : ℕ) (start : State) (xs : List Entry) (s : Session) (place : Place) → HasPlace calibration number start xs s place → HasEnd calibration number start xs s → IsIn s place × IsOver calibration number start (script_of s) xs place
shown_at calibration number start xs s place (inr stop) end = (stop.1, inr stop.2)
shown_at calibration number start xs s place (inl run) (inl stopped) = absurd (true≢false (sym stopped ∙ run.0))
shown_at calibration number start xs s place (inl run) (inr end) =
    let same = same_place calibration number start (script_of s) xs end.0 place end.2 run.1 in
    let P : Place → Type 0 = λ p. IsIn s p × IsOver calibration number start (script_of s) xs p in
    subst P same (end.1, inl (end.2, end.3))

-- and has no line left.
over_left : (calibration : Calibration) (number : ℕ) (start : State) (s : Session) (xs : List Entry) (place : Place) → IsOver calibration number start (script_of s) xs place → place.left ≡ []
over_left calibration number start s xs place (inl done) = done.1.0
over_left calibration number start s xs place (inr stop) = stopped_left calibration number start (script_of s) xs place stop

session_at : (sessions : List Session) (i : ℕ) → i < length sessions → (s : Session) × (slice_get sessions i ≡ Some s)
session_at [] i within = absurd (omega arith)
session_at (s ∷ sessions) zero within = (s, refl)
session_at (s ∷ sessions) (suc i) within = session_at sessions i (omega arith)

sum_of : (count more : ℕ) → count ≤ more → count + (1 + (more - count)) ≡ more + 1
sum_of count more within = omega arith

-- With its last turn it has taken one for each line that was left, and one more.
pub finished : (calibration : Calibration) (place : ℕ) (world : World) (mid all : Sessions) (has : HasTurnedOften calibration place world mid) → HasTurned calibration place false has.now all → place < length all.list.items → HasEndAt calibration place all →
    HaveTaken calibration (replicate (lines_at place world + 1) (suc place)) world all
finished calibration place world mid all has last within over =
    let number = suc place in
    let now = last.now in
    let s = session_at all.list.items place within in
    let got = place_get calibration 1 number all.book.start.state all.book.journal all.list.items now.places place s.0 (omega arith) s.1 last.here.places in
    let end = shown_at calibration number all.book.start.state all.book.journal s.0 got.place got.has (over s.0 s.1) in
    let rest = lines_at place world - has.count in
    let rests = turns_rest calibration number rest now got.place got.here (over_left calibration number all.book.start.state s.0 all.book.journal got.place end.1) in
    let first = AreTurns-append calibration (replicate has.count number) (number ∷ []) world has.now now has.taken last.taken in
    let both = AreTurns-append calibration (replicate has.count number ++ number ∷ []) (replicate rest number) world now now first rests in
    let count : (replicate has.count number ++ number ∷ []) ++ replicate rest number ≡ replicate (lines_at place world + 1) number =
    ap (λ ns. ns ++ replicate rest number) (replicate-append-replicate has.count 1 number)
    ∙ replicate-append-replicate (has.count + 1) rest number
    ∙ ap (λ n. replicate n number) (omega (arith, has.within)) in
    let T : List ℕ → Type 0 = λ ns. AreTurns calibration ns world now in
    record { now = now; taken = subst T count both; here = last.here }

-- Before the last turns none has run out,
pub none_out : (calibration : Calibration) (world : World) (all : Sessions) → AreIn calibration world all → HaveRunOut calibration 0 world all
none_out calibration world all here = record { now = world; here = here; later = λ end turns. turns }

-- then one more has,
pub out_more : (calibration : Calibration) (place : ℕ) (world : World) (old new : Sessions) (out : HaveRunOut calibration place world old) → place < length old.list.items → HaveTaken calibration (replicate (lines_at place out.now + 1) (suc place)) out.now new → HaveRunOut calibration (suc place) world new
out_more calibration place world old new out within has =
    let number = suc place in
    let s = session_at old.list.items place within in
    let got = place_get calibration 1 number old.book.start.state old.book.journal old.list.items out.now.places place s.0 (omega arith) s.1 out.here.places in
    let split = drop-get out.now.places place got.place got.here in
    let behind = turns_behind calibration number (lines_at place out.now + 1) out.now has.now has.taken in
    let lines : lines_at place out.now ≡ length got.place.left = ap (λ o. lines_of o) got.here in
    let next : number + 1 ≡ suc number = omega arith in
    record {
      now = has.now;
      here = has.here;
      later = λ end turns.
          let R : List ℕ → Type 0 = λ ns. AreTurns calibration ns has.now end in
          let rest : last_turns (suc number) (drop number has.now.places) ≡ last_turns (number + 1) (drop number out.now.places) =
          ap (λ ps. last_turns (suc number) ps) behind ∙ ap (λ n. last_turns n (drop number out.now.places)) (sym next) in
          let all = AreTurns-append calibration (replicate (lines_at place out.now + 1) number) (last_turns (number + 1) (drop number out.now.places)) out.now has.now end has.taken (subst R rest turns) in
          let W : List ℕ → Type 0 = λ ns. AreTurns calibration ns out.now end in
          let whole : replicate (lines_at place out.now + 1) number ++ last_turns (number + 1) (drop number out.now.places) ≡ last_turns number (drop place out.now.places) =
          ap (λ n. replicate (n + 1) number ++ last_turns (number + 1) (drop number out.now.places)) lines ∙ sym (ap (λ ps. last_turns number ps) split) in
          out.later end (subst W whole all);
    }

no_more : {A : Type 0} (n : ℕ) (xs : List A) → length xs ≤ n → drop n xs ≡ []
no_more zero [] few = refl
no_more (suc n) [] few = refl
no_more zero (x ∷ xs) few = absurd (omega arith)
no_more (suc n) (x ∷ xs) few = no_more n xs (omega arith)

-- and at last all.
pub all_out : (calibration : Calibration) (place : ℕ) (world : World) (all : Sessions) → HaveRunOut calibration place world all → length all.list.items ≤ place → HaveTaken calibration (last_turns 1 world.places) world all
all_out calibration place world all out past =
    let count = count_places calibration 1 all.book.start.state all.book.journal all.list.items out.now.places out.here.places in
    let none = no_more place out.now.places (omega (arith, count)) in
    let R : List Place → Type 0 = λ ps. AreTurns calibration (last_turns (suc place) ps) out.now out.now in
    record { now = out.now; taken = out.later out.now (subst R (sym none) refl); here = out.here }

-- one course more is over
pub over_next : (calibration : Calibration) (place : ℕ) (old new : Sessions) → ((other : ℕ) → other < place → HasEndAt calibration other old) → ((other : ℕ) → other ≢ place → HasEndAt calibration other old → HasEndAt calibration other new) → HasEndAt calibration place new →
    (other : ℕ) → other < place + 1 → HasEndAt calibration other new
over_next calibration place old new over others own other less =
    elim (nat_eq other place) as (λ b. nat_eq other place ≡ b → HasEndAt calibration other new) [
      | true ↦ λ is. subst (λ n. HasEndAt calibration n new) (sym (eqb-true other place is)) own
      | false ↦ λ is. let ne : other ≢ place = eqb-false other place is in others other ne (over other (omega (arith, less, ne)))
    ] refl
