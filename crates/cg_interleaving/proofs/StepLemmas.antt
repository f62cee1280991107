-- What an advance of one session makes of all.
use Rattle.std.proofs.Common.{◌≡◌, ◌≢◌, ℕ, suc, ◌+◌, ◌<◌, Bool, true, false, ◌||◌, List, [], ◌∷◌, ◌++◌, map, length, drop, refl, sym, ap, ap₂, subst, ◌∙◌, arith, append-nil, get_or, Some, inl, inr}
use Rattle.std.specs.Prelude.{slice_get, slice_set, zero}
use Rattle.std.specs.List.{list_any}
use Rattle.std.proofs.lemmas.List.Folds.{list_any-append}
use Rattle.std.proofs.lemmas.List.{length-map}
use Rattle.std.proofs.lemmas.Option.{slice_get-get_or}
use Rattle.std.proofs.lemmas.Bool.{false≢true, true≢false}
use Rattle.cg_sharing.specs.Command.{Line}
use Rattle.cg_sharing.specs.Versions.{State}
use Rattle.cg_sharing.specs.Journal.{Entry, Shared, shared_after, IsLegal}
use Rattle.cg_sharing.specs.Course.{Calibration, Place, settled, AreOthers, IsRunning}
use Rattle.cg_sharing.specs.Interleaving.{World, turn}
use Rattle.cg_sharing.proofs.JournalLemmas.{IsClosed}
use Rattle.cg_sharing.proofs.CourseLemmas.{running_knows}
use Rattle.cg_sharing.proofs.TurnLemmas.{get-set_same, get-set_other, turn_rests}
use Rattle.cg_book.specs.Plain.{state_of}
use Rattle.cg_curve.specs.Curves.{NamedCurve}
use Rattle.cg_session.specs.Calibration.{calibration_of}
use Rattle.cg_session.specs.Port.{Seen}
use Rattle.cg_session.specs.declared.session.Session.{Session}
use Rattle.cg_session.specs.declared.session.Progress.{Progress}
use Rattle.cg_session.specs.declared.session.Progress.TheVariants.{Moved, Ended, Stopped}
use Rattle.cg_session.specs.Session.{seat_of, script_of, left_of, is_stopped, IsAt, Came}
use Rattle.cg_session.proofs.AdvanceLemmas.{closed_start}
use Rattle.cg_interleaving.specs.declared.sessions.Sessions.{Sessions}
use Rattle.cg_interleaving.specs.Taking.{AreAt, CanGoOn, HasPlace, HavePlaces, AreIn, lines_of, HasTurned, HasEnd, HasEndAt, left_in, left_at, Advances}
use Rattle.cg_interleaving.proofs.KeptLemmas.{same_state, stopped_is, stopped_left, place_later, end_later, kept_at, runs_on}
use Rattle.cg_interleaving.proofs.WorldLemmas.{world_at, same_world, same_place, IsNext, turn_makes, turn_shortens}
use Rattle.cg_interleaving.proofs.ListLemmas.{set-same, map-set_at, list_any-set}

-- Entries of one seat came, or none.
pub record Adds (seen new : Seen) (seat : ℕ) : Type 0 where
  pub more : List Entry
  pub theirs : (other : ℕ) → other ≢ seat → AreOthers other more
  pub start : new.start ≡ seen.start
  pub journal : new.journal ≡ seen.journal ++ more
  pub legal : IsLegal new.start new.journal

-- what an advance adds to the journal
abbrev grown : (calibration : Calibration) (progress : Progress) (seen new : Seen) (s t : Session) (seat : ℕ) → seat_of s ≡ seat → Came calibration progress (Unit {0}) seen new s t → IsAt calibration new t → Adds seen new seat
grown calibration Moved seen new s t seat own came at =
    let none = came.grows.none tt in
    let entry : Entry = record { seat = seat_of s; act = came.act; answer = came.answer } in
    record {
      more = entry ∷ [];
      theirs = λ other ne. ((λ is. ne (sym is ∙ own)), tt);
      start = came.grows.start;
      journal = came.grows.journal ∙ ap (λ es. es ++ entry ∷ []) (ap (λ es. seen.journal ++ es) none ∙ append-nil seen.journal);
      legal = at.legal;
    }
grown calibration Ended seen new s t seat own came at = record {
  more = [];
  theirs = λ other ne. tt;
  start = ap (λ (w : Seen). w.start) came.same;
  journal = ap (λ (w : Seen). w.journal) came.same ∙ sym (append-nil seen.journal);
  legal = at.legal;
}
grown calibration Stopped seen new s t seat own came at = record {
  more = [];
  theirs = λ other ne. tt;
  start = came.start;
  journal = came.journal ∙ ap (λ es. seen.journal ++ es) (came.none tt);
  legal = at.legal;
}

-- The session at a place, and its number.
pub at_get : (calibration : Calibration) (seen : Seen) (first : ℕ) (sessions : List Session) (i : ℕ) (s : Session) → slice_get sessions i ≡ Some s → AreAt calibration seen first sessions → (seat_of s ≡ first + i) × IsAt calibration seen s
at_get calibration seen first [] i s here at = absurd (cc)
at_get calibration seen first (x ∷ xs) zero s here at =
    let same : x ≡ s = cc in
    let P : Session → Type 0 = λ y. (seat_of y ≡ first + 0) × IsAt calibration seen y in
    subst P same (omega (arith, at.0), at.1)
at_get calibration seen first (x ∷ xs) (suc i) s here at =
    let there = at_get calibration seen (first + 1) xs i s here at.2 in
    (omega (arith, there.0), there.1)

-- the sessions behind it
at_behind : (calibration : Calibration) (seen new : Seen) (seat first : ℕ) (sessions : List Session) → IsClosed seen.start.state → Adds seen new seat → seat < first → AreAt calibration seen first sessions → AreAt calibration new first sessions
at_behind calibration seen new seat first [] closed adds less at = tt
at_behind calibration seen new seat first (x ∷ xs) closed adds less at =
    let ne : seat_of x ≢ seat = omega (arith, at.0) in
    (at.0, kept_at calibration seen new x adds.more closed at.1 (adds.theirs (seat_of x) ne) adds.start adds.journal adds.legal, at_behind calibration seen new seat (first + 1) xs closed adds (omega arith) at.2)

-- and all of them, once it advanced
at_set : (calibration : Calibration) (seen new : Seen) (seat first : ℕ) (sessions : List Session) (i : ℕ) (t : Session) → IsClosed seen.start.state → Adds seen new seat → seat ≡ first + i → seat_of t ≡ seat → IsAt calibration new t →
    AreAt calibration seen first sessions → AreAt calibration new first (slice_set sessions i t)
at_set calibration seen new seat first [] i t closed adds here own stands at = tt
at_set calibration seen new seat first (x ∷ xs) zero t closed adds here own stands at = (omega (arith, own, here), stands, at_behind calibration seen new seat (first + 1) xs closed adds (omega (arith, here)) at.2)
at_set calibration seen new seat first (x ∷ xs) (suc i) t closed adds here own stands at =
    let ne : seat_of x ≢ seat = omega (arith, at.0, here) in (
      at.0,
      kept_at calibration seen new x adds.more closed at.1 (adds.theirs (seat_of x) ne) adds.start adds.journal adds.legal,
      at_set calibration seen new seat (first + 1) xs i t closed adds (omega (arith, here)) own stands at.2,
    )

-- The place of a session.
pub record HasGot (calibration : Calibration) (number : ℕ) (start : State) (xs : List Entry) (session : Session) (places : List Place) (i : ℕ) : Type 0 where
  pub place : Place
  pub here : slice_get places i ≡ Some place
  pub has : HasPlace calibration number start xs session place

pub place_get : (calibration : Calibration) (first number : ℕ) (start : State) (xs : List Entry) (sessions : List Session) (places : List Place) (i : ℕ) (s : Session) → number ≡ first + i → slice_get sessions i ≡ Some s → HavePlaces calibration first start xs sessions places →
    HasGot calibration number start xs s places i
place_get calibration first number start xs [] places i s is here have = absurd (cc)
place_get calibration first number start xs (x ∷ sessions) [] i s is here have = absurd have
place_get calibration first number start xs (x ∷ sessions) (p ∷ places) zero s is here have =
    let same : x ≡ s = cc in
    let N : ℕ → Type 0 = λ n. HasPlace calibration n start xs x p in
    let S : Session → Type 0 = λ y. HasPlace calibration number start xs y p in
    record { place = p; here = refl; has = subst S same (subst N (omega (arith, is)) have.0) }
place_get calibration first number start xs (x ∷ sessions) (p ∷ places) (suc i) s is here have =
    let got = place_get calibration (first + 1) number start xs sessions places i s (omega (arith, is)) here have.1 in
    record { place = got.place; here = got.here; has = got.has }

-- the places behind it
places_behind : (calibration : Calibration) (seat first : ℕ) (start : State) (xs more : List Entry) (sessions : List Session) (places : List Place) → seat < first → ((other : ℕ) → other ≢ seat → AreOthers other more) → HavePlaces calibration first start xs sessions places →
    HavePlaces calibration first start (xs ++ more) sessions places
places_behind calibration seat first start xs more [] [] less theirs have = tt
places_behind calibration seat first start xs more [] (p ∷ places) less theirs have = absurd have
places_behind calibration seat first start xs more (x ∷ sessions) [] less theirs have = absurd have
places_behind calibration seat first start xs more (x ∷ sessions) (p ∷ places) less theirs have =
    (place_later calibration first start xs more x p (theirs first (omega arith)) have.0, places_behind calibration seat (first + 1) start xs more sessions places (omega arith) theirs have.1)

-- and all of them, once it has another
places_set : (calibration : Calibration) (seat first : ℕ) (start : State) (xs more : List Entry) (sessions : List Session) (places : List Place) (i : ℕ) (t : Session) (p : Place) → seat ≡ first + i → ((other : ℕ) → other ≢ seat → AreOthers other more) → HasPlace calibration seat start (xs ++ more) t p →
    HavePlaces calibration first start xs sessions places → HavePlaces calibration first start (xs ++ more) (slice_set sessions i t) (slice_set places i p)
places_set calibration seat first start xs more [] [] i t p is theirs has have = tt
places_set calibration seat first start xs more [] (q ∷ places) i t p is theirs has have = absurd have
places_set calibration seat first start xs more (x ∷ sessions) [] i t p is theirs has have = absurd have
places_set calibration seat first start xs more (x ∷ sessions) (q ∷ places) zero t p is theirs has have =
    let N : ℕ → Type 0 = λ n. HasPlace calibration n start (xs ++ more) t p in
    let here : seat ≡ first = omega (arith, is) in
    (subst N here has, places_behind calibration seat (first + 1) start xs more sessions places (omega (arith, is)) theirs have.1)
places_set calibration seat first start xs more (x ∷ sessions) (q ∷ places) (suc i) t p is theirs has have =
    (place_later calibration first start xs more x q (theirs first (omega (arith, is))) have.0, places_set calibration seat (first + 1) start xs more sessions places i t p (omega (arith, is)) theirs has have.1)

-- whether it is stopped then
abbrev pub stops : (progress : Progress) → Bool
stops Moved = false
stops Ended = false
stops Stopped = true

stops_is : (calibration : Calibration) (progress : Progress) (alone : Type 0) (seen new : Seen) (s t : Session) → Came calibration progress alone seen new s t → is_stopped t ≡ stops progress
stops_is calibration Moved alone seen new s t came = came.going
stops_is calibration Ended alone seen new s t came = came.here.stopped ∙ came.ended.1
stops_is calibration Stopped alone seen new s t came = came.here.stopped ∙ stopped_is calibration t.number new.start.state t.script new.journal came.place came.stopped

pub or_false : (b : Bool) → (b || false) ≡ b
or_false true = refl
or_false false = refl

pub or_true : (b : Bool) → (b || true) ≡ true
or_true true = refl
or_true false = refl

-- One session advanced: this is how it was and how it is.
pub record IsAdvance (calibration : Calibration) (i : ℕ) (progress : Progress) (before after : Sessions) (s t : Session) : Type 0 where
  pub here : slice_get before.list.items i ≡ Some s
  pub list : after.list.items ≡ slice_set before.list.items i t
  pub came : Came calibration progress (Unit {0}) before.book after.book s t
  pub at : IsAt calibration after.book t
  pub number : seat_of t ≡ seat_of s
  pub script : script_of t ≡ script_of s
  pub repeats : is_stopped s ≡ true → (progress ≡ Stopped) × (t ≡ s)
  pub flag : after.stopped ≡ (before.stopped || stops progress)

-- how the session stood, and its number
was : (calibration : Calibration) (i : ℕ) (progress : Progress) (before after : Sessions) (s t : Session) → CanGoOn calibration before → IsAdvance calibration i progress before after s t → (seat_of s ≡ suc i) × IsAt calibration before.book s
was calibration i progress before after s t can step =
    let at = at_get calibration before.book 1 before.list.items i s step.here can.at in
    (omega (arith, at.0), at.1)

abbrev added_by : (calibration : Calibration) (i : ℕ) (progress : Progress) (before after : Sessions) (s t : Session) → CanGoOn calibration before → IsAdvance calibration i progress before after s t → Adds before.book after.book (suc i)
added_by calibration i progress before after s t can step = grown calibration progress before.book after.book s t (suc i) (was calibration i progress before after s t can step).0 step.came step.at

same_scripts : (calibration : Calibration) (i : ℕ) (progress : Progress) (before after : Sessions) (s t : Session) → IsAdvance calibration i progress before after s t → map script_of after.list.items ≡ map script_of before.list.items
same_scripts calibration i progress before after s t step = ap (λ ss. map script_of ss) step.list ∙ map-set_at script_of before.list.items i s t step.here step.script

stays_stopped : (calibration : Calibration) (i : ℕ) (progress : Progress) (before after : Sessions) (s t : Session) → IsAdvance calibration i progress before after s t → is_stopped s ≡ true → is_stopped t ≡ true
stays_stopped calibration i progress before after s t step is = ap (λ (x : Session). is_stopped x) (step.repeats is).1 ∙ is

can_go_on : (calibration : Calibration) (i : ℕ) (progress : Progress) (before after : Sessions) (s t : Session) → CanGoOn calibration before → IsAdvance calibration i progress before after s t → CanGoOn calibration after
can_go_on calibration i progress before after s t can step =
    let more = added_by calibration i progress before after s t can step in
    let own = was calibration i progress before after s t can step in
    let A : List Session → Type 0 = λ ss. AreAt calibration after.book 1 ss in
    record {
      few = omega (arith, can.few, ap (λ (ls : List (List Line)). length ls) (same_scripts calibration i progress before after s t step), length-map after.list.items script_of, length-map before.list.items script_of);
      at = subst A (sym step.list) (at_set calibration before.book after.book (suc i) 1 before.list.items i t (closed_start calibration before.book s own.1) more (omega arith) (step.number ∙ own.0) step.at can.at);
      stopped = step.flag ∙ ap₂ (λ a b. a || b) can.stopped (sym (stops_is calibration progress (Unit {0}) before.book after.book s t step.came))
          ∙ sym (ap (λ ss. list_any is_stopped ss) step.list ∙ list_any-set is_stopped before.list.items i s t step.here (stays_stopped calibration i progress before after s t step));
    }

pub running-as : (calibration : Calibration) (k l : ℕ) (start begin : State) (script lines : List Line) (xs ys : List Entry) (place : Place) → k ≡ l → start ≡ begin → script ≡ lines → xs ≡ ys → IsRunning calibration k start script xs place → IsRunning calibration l begin lines ys place
running-as calibration k l start begin script lines xs ys place e1 e2 e3 e4 run =
    let P1 : ℕ → Type 0 = λ n. IsRunning calibration n start script xs place in
    let P2 : State → Type 0 = λ b. IsRunning calibration l b script xs place in
    let P3 : List Line → Type 0 = λ ls. IsRunning calibration l begin ls xs place in
    let P4 : List Entry → Type 0 = λ es. IsRunning calibration l begin lines es place in
    subst P4 e4 (subst P3 e3 (subst P2 e2 (subst P1 e1 run)))

-- the place of the same session, told by other words
pub place-as : (calibration : Calibration) (k l : ℕ) (start begin : State) (xs ys : List Entry) (s : Session) (place : Place) → k ≡ l → start ≡ begin → xs ≡ ys → HasPlace calibration k start xs s place → HasPlace calibration l begin ys s place
place-as calibration k l start begin xs ys s place e1 e2 e3 has =
    let P1 : ℕ → Type 0 = λ n. HasPlace calibration n start xs s place in
    let P2 : State → Type 0 = λ b. HasPlace calibration l b xs s place in
    let P3 : List Entry → Type 0 = λ es. HasPlace calibration l begin es s place in
    subst P3 e3 (subst P2 e2 (subst P1 e1 has))

-- the world once the session has a new place
new_world : (calibration : Calibration) (i : ℕ) (progress : Progress) (before after : Sessions) (s t : Session) (can : CanGoOn calibration before) (step : IsAdvance calibration i progress before after s t) (world : World) (p : Place) → AreIn calibration world before → HasPlace calibration (suc i) after.book.start.state after.book.journal t p →
    AreIn calibration (world_at before.book.start (before.book.journal ++ (added_by calibration i progress before after s t can step).more) (slice_set world.places i p)) after
new_world calibration i progress before after s t can step world p here has =
    let more = added_by calibration i progress before after s t can step in
    let start = before.book.start.state in
    let xs = before.book.journal ++ more.more in
    let places = slice_set world.places i p in
    let set = places_set calibration (suc i) 1 start before.book.journal more.more before.list.items world.places i t p (omega arith) more.theirs
    (place-as calibration (suc i) (suc i) after.book.start.state start after.book.journal xs t p refl (same_state more.start) more.journal has) here.places in
    let B : State → Type 0 = λ b. HavePlaces calibration 1 b xs after.list.items places in
    let J : List Entry → Type 0 = λ es. HavePlaces calibration 1 after.book.start.state es after.list.items places in
    let L : List Session → Type 0 = λ ss. HavePlaces calibration 1 start xs ss places in
    record {
      shared = ap₂ (λ (b : Shared) (es : List Entry). shared_after b es) (sym more.start) (sym more.journal);
      journal = sym more.journal;
      places = subst J (sym more.journal) (subst B (sym (same_state more.start)) (subst L (sym step.list) set));
    }

running_of : (calibration : Calibration) (number : ℕ) (start : State) (xs : List Entry) (s : Session) (place : Place) → is_stopped s ≡ false → HasPlace calibration number start xs s place → IsRunning calibration number start (script_of s) xs place
running_of calibration number start xs s place is (inl run) = run.1
running_of calibration number start xs s place is (inr stop) = absurd (true≢false (sym stop.0 ∙ is))

stopped_of : (calibration : Calibration) (number : ℕ) (start : State) (xs : List Entry) (s : Session) (place : Place) → is_stopped s ≡ true → HasPlace calibration number start xs s place → place.left ≡ []
stopped_of calibration number start xs s place is (inl run) = absurd (true≢false (sym is ∙ run.0))
stopped_of calibration number start xs s place is (inr stop) = stopped_left calibration number start (script_of s) xs place stop.2

script_place : (calibration : Calibration) (number : ℕ) (start : State) (xs : List Entry) (s t : Session) (place : Place) → script_of t ≡ script_of s → is_stopped t ≡ false → IsRunning calibration number start (script_of s) xs place → HasPlace calibration number start xs t place
script_place calibration number start xs s t place script going run = let P : List Line → Type 0 = λ ls. IsRunning calibration number start ls xs place in inl (going, subst P (sym script) run)

-- It made an event: that is what its turn makes.
turned_moved : (calibration : Calibration) (i : ℕ) (before after : Sessions) (s t : Session) → CanGoOn calibration before → IsAdvance calibration i Moved before after s t → (world : World) → AreIn calibration world before → HasTurned calibration i true world after
turned_moved calibration i before after s t can step world here =
    let own = was calibration i Moved before after s t can step in
    let start = before.book.start.state in
    let xs = before.book.journal in
    let more = added_by calibration i Moved before after s t can step in
    let entry : Entry = record { seat = seat_of s; act = step.came.act; answer = step.came.answer } in
    let got = place_get calibration 1 (suc i) start xs before.list.items world.places i s (omega arith) step.here here.places in
    let going : is_stopped s ≡ false =
    elim (is_stopped s) as (λ b. is_stopped s ≡ b → b ≡ false) [ true ↦ λ is. absurd (let never : Moved ≡ Stopped = (step.repeats is).0 in cc) | false ↦ λ _. refl ] refl in
    let ran = running_of calibration (suc i) start xs s got.place going got.has in
    let p = settled calibration (state_of after.book) (drop t.done t.script) step.at.stands.0 in
    let runs_now = runs_on calibration after.book t step.came.going step.at in
    let runs = running-as calibration (seat_of t) (suc i) after.book.start.state start (script_of t) (script_of s) after.book.journal (xs ++ entry ∷ []) p (step.number ∙ own.0) (same_state more.start) step.script more.journal runs_now in
    let L : Shared → Type 0 = λ b. IsLegal b after.book.journal in
    let J : List Entry → Type 0 = λ es. IsLegal before.book.start es in
    let next : IsNext calibration (suc i) before.book.start (script_of s) xs entry got.place p = record { own = own.0; ran = ran; runs = runs; legal = subst J more.journal (subst L more.start step.at.legal) } in
    let now = world_at before.book.start (xs ++ entry ∷ []) (slice_set world.places i p) in
    let made : turn calibration (suc i) world ≡ now =
    ap (λ w. turn calibration (suc i) w) (sym (same_world world before.book.start xs xs world.places here.shared here.journal refl refl)) ∙ turn_makes calibration i before.book.start (script_of s) xs world.places entry got.place p got.here next in
    let N : ℕ → Type 0 = λ n. IsRunning calibration n after.book.start.state (script_of t) after.book.journal p in
    record {
      now = now;
      taken = (now, inl (sym made), refl);
      here = new_world calibration i Moved before after s t can step world p here (inl (step.came.going, subst N (step.number ∙ own.0) runs_now));
      fewer = λ _. omega (
        arith,
        turn_shortens calibration (suc i) before.book.start (script_of s) xs entry got.place p (closed_start calibration before.book s own.1) own.1.ready next,
        ap (λ o. lines_of o) got.here,
        ap (λ o. lines_of o) (get-set_same world.places i got.place p got.here),
      );
    }

-- It did nothing: neither does its turn.
rested : (calibration : Calibration) (i : ℕ) (progress : Progress) (before after : Sessions) (s t : Session) (can : CanGoOn calibration before) (step : IsAdvance calibration i progress before after s t) (world : World) (q : Place) → AreIn calibration world before → slice_get world.places i ≡ Some q → q.left ≡ [] →
    (added_by calibration i progress before after s t can step).more ≡ [] → HasPlace calibration (suc i) after.book.start.state after.book.journal t q → HasTurned calibration i false world after
rested calibration i progress before after s t can step world q here at done none has =
    let xs = before.book.journal in
    let more = (added_by calibration i progress before after s t can step).more in
    let now = world_at before.book.start (xs ++ more) (slice_set world.places i q) in
    let same : now ≡ world = same_world world before.book.start xs (xs ++ more) (slice_set world.places i q) here.shared here.journal (ap (λ es. xs ++ es) none ∙ append-nil xs) (set-same world.places i q at) in
    record {
      now = now;
      taken = (now, inl (same ∙ sym (turn_rests calibration (suc i) world q at done)), refl);
      here = new_world calibration i progress before after s t can step world q here has;
      fewer = λ is. absurd (false≢true is);
    }

turned_ended : (calibration : Calibration) (i : ℕ) (before after : Sessions) (s t : Session) → CanGoOn calibration before → IsAdvance calibration i Ended before after s t → (world : World) → AreIn calibration world before → HasTurned calibration i false world after
turned_ended calibration i before after s t can step world here =
    let own = was calibration i Ended before after s t can step in
    let start = before.book.start.state in
    let xs = before.book.journal in
    let got = place_get calibration 1 (suc i) start xs before.list.items world.places i s (omega arith) step.here here.places in
    let going : is_stopped s ≡ false =
    elim (is_stopped s) as (λ b. is_stopped s ≡ b → b ≡ false) [ true ↦ λ is. absurd (let never : Ended ≡ Stopped = (step.repeats is).0 in cc) | false ↦ λ _. refl ] refl in
    let ran = running_of calibration (suc i) start xs s got.place going got.has in
    let begins : after.book.start.state ≡ start = ap (λ (w : Seen). w.start.state) step.came.same in
    let journal : after.book.journal ≡ xs = ap (λ (w : Seen). w.journal) step.came.same in
    let runs = running-as calibration (seat_of t) (suc i) after.book.start.state start (script_of t) (script_of s) after.book.journal xs step.came.place (step.number ∙ own.0) begins step.script journal step.came.running in
    let same = same_place calibration (suc i) start (script_of s) xs got.place step.came.place ran runs in
    let stays = stops_is calibration Ended (Unit {0}) before.book after.book s t step.came in
    rested calibration i Ended before after s t can step world got.place here got.here (ap (λ (p : Place). p.left) same ∙ step.came.ended.0) refl
    (place-as calibration (suc i) (suc i) start after.book.start.state xs after.book.journal t got.place refl (sym begins) (sym journal) (script_place calibration (suc i) start xs s t got.place step.script stays ran))

-- Want of memory had stopped it before,
turned_again : (calibration : Calibration) (i : ℕ) (before after : Sessions) (s t : Session) → CanGoOn calibration before → IsAdvance calibration i Stopped before after s t → (world : World) → AreIn calibration world before → is_stopped s ≡ true → HasTurned calibration i false world after
turned_again calibration i before after s t can step world here is =
    let start = before.book.start.state in
    let xs = before.book.journal in
    let more = added_by calibration i Stopped before after s t can step in
    let got = place_get calibration 1 (suc i) start xs before.list.items world.places i s (omega arith) step.here here.places in
    let T : Session → Type 0 = λ x. HasPlace calibration (suc i) start xs x got.place in
    rested calibration i Stopped before after s t can step world got.place here got.here (stopped_of calibration (suc i) start xs s got.place is got.has) refl
    (place-as calibration (suc i) (suc i) start after.book.start.state xs after.book.journal t got.place refl (sym (same_state more.start)) (sym (more.journal ∙ append-nil xs)) (subst T (sym (step.repeats is).1) got.has))

-- or it did now.
turned_stopped : (calibration : Calibration) (i : ℕ) (before after : Sessions) (s t : Session) → CanGoOn calibration before → IsAdvance calibration i Stopped before after s t → (world : World) → AreIn calibration world before → is_stopped s ≡ false → HasTurned calibration i false world after
turned_stopped calibration i before after s t can step world here is =
    let own = was calibration i Stopped before after s t can step in
    let start = before.book.start.state in
    let xs = before.book.journal in
    let got = place_get calibration 1 (suc i) start xs before.list.items world.places i s (omega arith) step.here here.places in
    let ran = running_of calibration (suc i) start xs s got.place is got.has in
    let known = running_knows calibration (suc i) before.book.start (script_of s) xs got.place (closed_start calibration before.book s own.1) own.1.ready own.1.legal ran in
    let p = step.came.place in
    let now = world_at before.book.start (xs ++ []) (slice_set world.places i p) in
    let stays = stops_is calibration Stopped (Unit {0}) before.book after.book s t step.came in
    let P : ℕ → Type 0 = λ n. HasPlace calibration n after.book.start.state after.book.journal t p in
    record {
      now = now;
      taken = (
        now,
        inr (record {
          before = got.place;
          after = p;
          here = got.here;
          going = known.0.going;
          none = stopped_left calibration t.number after.book.start.state t.script after.book.journal p step.came.stopped;
          stopped = stopped_is calibration t.number after.book.start.state t.script after.book.journal p step.came.stopped;
          same = same_world (record world { places = slice_set world.places i p }) before.book.start xs (xs ++ []) (slice_set world.places i p) here.shared here.journal (append-nil xs) refl;
        }),
        refl,
      );
      here = new_world calibration i Stopped before after s t can step world p here (subst P (step.number ∙ own.0) (inr (stays, step.came.here, step.came.stopped)));
      fewer = λ some. absurd (false≢true some);
    }

-- whether it made an event
abbrev pub moves : Progress → Bool
moves Moved = true
moves Ended = false
moves Stopped = false

-- An advance is a turn.
turned : (calibration : Calibration) (i : ℕ) (progress : Progress) (before after : Sessions) (s t : Session) → CanGoOn calibration before → IsAdvance calibration i progress before after s t → (world : World) → AreIn calibration world before → HasTurned calibration i (moves progress) world after
turned calibration i Moved before after s t can step world here = turned_moved calibration i before after s t can step world here
turned calibration i Ended before after s t can step world here = turned_ended calibration i before after s t can step world here
turned calibration i Stopped before after s t can step world here =
    elim (is_stopped s) as (λ b. is_stopped s ≡ b → HasTurned calibration i false world after) [
      | true ↦ λ is. turned_again calibration i before after s t can step world here is
      | false ↦ λ is. turned_stopped calibration i before after s t can step world here is
    ] refl

end-as : (calibration : Calibration) (k l : ℕ) (start begin : State) (xs ys : List Entry) (s : Session) → k ≡ l → start ≡ begin → xs ≡ ys → HasEnd calibration k start xs s → HasEnd calibration l begin ys s
end-as calibration k l start begin xs ys s e1 e2 e3 end =
    let P1 : ℕ → Type 0 = λ n. HasEnd calibration n start xs s in
    let P2 : State → Type 0 = λ b. HasEnd calibration l b xs s in
    let P3 : List Entry → Type 0 = λ es. HasEnd calibration l begin es s in
    subst P3 e3 (subst P2 e2 (subst P1 e1 end))

-- It leaves the courses over that were,
end_others : (calibration : Calibration) (i : ℕ) (progress : Progress) (before after : Sessions) (s t : Session) (other : ℕ) → CanGoOn calibration before → IsAdvance calibration i progress before after s t → other ≢ i → HasEndAt calibration other before → HasEndAt calibration other after
end_others calibration i progress before after s t other can step ne over = λ session at.
    let more = added_by calibration i progress before after s t can step in
    let there = sym (ap (λ ss. slice_get ss other) step.list ∙ get-set_other before.list.items i other t ne) ∙ at in
    end-as calibration (suc other) (suc other) before.book.start.state after.book.start.state (before.book.journal ++ more.more) after.book.journal session refl (sym (same_state more.start)) (sym more.journal)
    (end_later calibration (suc other) before.book.start.state before.book.journal more.more session (more.theirs (suc other) (omega (arith, ne))) (over session there))

-- and its own where it made no event.
end_now : (calibration : Calibration) (progress : Progress) (alone : Type 0) (seen new : Seen) (s t : Session) → moves progress ≡ false → Came calibration progress alone seen new s t → HasEnd calibration (seat_of t) new.start.state new.journal t
end_now calibration Moved alone seen new s t none came = absurd (true≢false none)
end_now calibration Ended alone seen new s t none came = inr (came.place, came.here, came.running, came.ended)
end_now calibration Stopped alone seen new s t none came = inl (stops_is calibration Stopped alone seen new s t came)

same_some : {A : Type 0} (x y : A) → Some x ≡ Some y → x ≡ y
same_some x y is = cc

end_own : (calibration : Calibration) (i : ℕ) (progress : Progress) (before after : Sessions) (s t : Session) → CanGoOn calibration before → IsAdvance calibration i progress before after s t → moves progress ≡ false → HasEndAt calibration i after
end_own calibration i progress before after s t can step none = λ session at.
    let own = was calibration i progress before after s t can step in
    let there : Some t ≡ Some session = sym (ap (λ ss. slice_get ss i) step.list ∙ get-set_same before.list.items i s t step.here) ∙ at in
    let P : Session → Type 0 = λ x. HasEnd calibration (suc i) after.book.start.state after.book.journal x in
    subst P (same_some t session there) (end-as calibration (seat_of t) (suc i) after.book.start.state after.book.start.state after.book.journal after.book.journal t (step.number ∙ own.0) refl refl
    (end_now calibration progress (Unit {0}) before.book after.book s t none step.came))

fewer_now : (calibration : Calibration) (progress : Progress) (alone : Type 0) (seen new : Seen) (s t : Session) → moves progress ≡ true → Came calibration progress alone seen new s t → left_of t < left_of s
fewer_now calibration Moved alone seen new s t is came = came.fewer
fewer_now calibration Ended alone seen new s t is came = absurd (false≢true is)
fewer_now calibration Stopped alone seen new s t is came = absurd (false≢true is)

fewer_left : (calibration : Calibration) (i : ℕ) (progress : Progress) (before after : Sessions) (s t : Session) → IsAdvance calibration i progress before after s t → moves progress ≡ true → left_at i after < left_at i before
fewer_left calibration i progress before after s t step is =
    let now : left_at i after ≡ left_of t = ap (λ o. left_in o) (ap (λ ss. slice_get ss i) step.list ∙ get-set_same before.list.items i s t step.here) in
    let then : left_at i before ≡ left_of s = ap (λ o. left_in o) step.here in
    omega (arith, now, then, fewer_now calibration progress (Unit {0}) before.book after.book s t is step.came)

-- All of it.
pub advanced_all : (calibration : Calibration) (i : ℕ) (progress : Progress) (before after : Sessions) (s t : Session) → CanGoOn calibration before → IsAdvance calibration i progress before after s t → Advances calibration i (moves progress) before after
advanced_all calibration i progress before after s t can step = record {
  can = can_go_on calibration i progress before after s t can step;
  same = same_scripts calibration i progress before after s t step;
  start = (added_by calibration i progress before after s t can step).start;
  taken = λ world here. turned calibration i progress before after s t can step world here;
  others = λ other ne over. end_others calibration i progress before after s t other can step ne over;
  over = λ none. end_own calibration i progress before after s t can step none;
  fewer = λ some. fewer_left calibration i progress before after s t step some;
}

-- The same, where the curves are told by other words.
pub advanced_by : (cs ds : List NamedCurve) (i : ℕ) (progress : Progress) (before after : Sessions) (s t : Session) → cs ≡ ds → CanGoOn (calibration_of ds) before → IsAdvance (calibration_of cs) i progress before after s t → Advances (calibration_of ds) i (moves progress) before after
advanced_by cs ds i progress before after s t same can step =
    let A : List NamedCurve → Type 0 = λ curves. IsAdvance (calibration_of curves) i progress before after s t in
    advanced_all (calibration_of ds) i progress before after s t can (subst A same step)

-- what a look at a place gives
pub seen_at : (sessions : List Session) (i : ℕ) (s : Session) → i < length sessions → s ≡ get_or sessions i s → slice_get sessions i ≡ Some s
seen_at sessions i s within is = slice_get-get_or sessions i s within ∙ ap (λ x. Some x) (sym is)

pub left_false : (a b : Bool) → (a || b) ≡ false → a ≡ false
left_false false b is = refl
left_false true b is = absurd (true≢false is)

pub right_false : (a b : Bool) → (a || b) ≡ false → b ≡ false
right_false false b is = is
right_false true b is = absurd (true≢false is)

-- One session more stands behind the others.
pub at_more : (calibration : Calibration) (seen : Seen) (first : ℕ) (sessions : List Session) (s : Session) → AreAt calibration seen first sessions → seat_of s ≡ first + length sessions → IsAt calibration seen s → AreAt calibration seen first (sessions ++ s ∷ [])
at_more calibration seen first [] s at number stands = (omega (arith, number), stands, tt)
at_more calibration seen first (x ∷ xs) s at number stands = (at.0, at.1, at_more calibration seen (first + 1) xs s at.2 (omega (arith, number)) stands)

-- and none is stopped if it isn't.
pub going_more : (sessions : List Session) (s : Session) → list_any is_stopped sessions ≡ false → is_stopped s ≡ false → list_any is_stopped (sessions ++ s ∷ []) ≡ false
going_more sessions s going own = list_any-append is_stopped sessions (s ∷ []) ∙ ap₂ (λ a b. a || (b || false)) going own
