-- The messages of each print are got by a walk.
use Rattle.std.proofs.Common.{◌≡◌, ◌≢◌, ℕ, ◌<◌, true, false, nat_eq, List, [], ◌∷◌, ◌++◌, length, refl, sym, ap, subst, ◌∙◌, arith, eqb-true, Some}
use Rattle.std.proofs.lemmas.Bool.{eqb-false}
use Rattle.cg_cache.specs.Deeds.{Deed, Reply, reply_of}
use Rattle.cg_walk.specs.Gets.{Gets, no_more, get}
use Rattle.cg_walk.specs.Walk.{Todo, Want, deed_of, wants, turned, Step, IsReply, Runs}
use Rattle.cg_walk.proofs.WalkLemmas.{walk_is}
use Rattle.cg_sharing.specs.Command.{Line}
use Rattle.cg_sharing.specs.Versions.{State, start_of}
use Rattle.cg_sharing.specs.Journal as journal
use Rattle.cg_sharing.specs.Journal.{Act, Answer, Entry, Shared, shared_of, answer_of, after, state_after, shared_by, shared_after, IsLegal}
use Rattle.cg_courses.specs.Course.{Calibration, Place, first_act, next_of, is_get, counted, finished, with_todo, went, moved, begin, walk, Follows, went_by, done_at}
use Rattle.cg_courses.specs.Taken.{own_steps, PrintsAreWalked}
use Rattle.cg_sharing.proofs.JournalLemmas.{state-shared_after}
use Rattle.cg_courses.proofs.StopLemmas.{IsLegal-later}
use Rattle.cg_courses.proofs.HeldLemmas.{reply_fits}
use Rattle.cg_courses.proofs.CourseLemmas.{length-settled, other_moves, own_moves, walk-append}

-- the second part of a course
pub Follows-later : (calibration : Calibration) (session : ℕ) (state : State) (place : Place) (xs ys : List Entry) → Follows calibration session state place (xs ++ ys) → Follows calibration session (state_after state xs) (walk calibration session state place xs) ys
Follows-later calibration session state place [] ys follows = follows
Follows-later calibration session state place (x ∷ xs) ys follows = Follows-later calibration session (after state x) (moved calibration session (after state x) x place) xs ys follows.1

-- Entries that do all of what is to be done for the first line, and more.
pub record IsDone (calibration : Calibration) (session : ℕ) (state : State) (place : Place) (todo : List Todo) (entries : List Entry) : Type 0 where
  pub own : List Entry
  pub behind : List Entry
  pub all : entries ≡ own ++ behind
  pub runs : Runs todo (own_steps session own) []
  pub done : length (walk calibration session state place own).left < length place.left

steps_other : (session : ℕ) (entry : Entry) (entries : List Entry) → nat_eq entry.seat session ≡ false → own_steps session (entry ∷ entries) ≡ own_steps session entries
steps_other session entry entries other = rw other refl

steps_own : (session : ℕ) (entry : Entry) (entries : List Entry) (deed : Deed) (reply : Reply) → nat_eq entry.seat session ≡ true → entry.act ≡ journal.Do deed → entry.answer ≡ journal.Told reply →
    own_steps session (entry ∷ entries) ≡ record { deed = deed; reply = reply } ∷ own_steps session entries
steps_own session entry entries deed reply own act answer = rw (own, act, answer) refl

runs_more : (first : Todo) (todo : List Todo) (reply : Reply) (steps all : List Step) → IsReply (deed_of first) reply → all ≡ record { deed = deed_of first; reply = reply } ∷ steps → Runs (turned first reply todo) steps [] → Runs (first ∷ todo) all []
runs_more first todo reply steps all may is runs = let P : List Step → Type 0 = λ s. Runs (first ∷ todo) s [] in
    let own : P (record { deed = deed_of first; reply = reply } ∷ steps) = (refl, may, runs) in subst P (sym is) own

-- the step of an entry of another seat
done_other : (calibration : Calibration) (session : ℕ) (state : State) (place : Place) (todo : List Todo) (entry : Entry) (entries : List Entry) → nat_eq entry.seat session ≡ false →
    IsDone calibration session (after state entry) place todo entries → IsDone calibration session state place todo (entry ∷ entries)
done_other calibration session state place todo entry entries other rec =
    let stays = other_moves calibration session (after state entry) entry place (eqb-false entry.seat session other) in
    let W : Place → Type 0 = λ q. length (walk calibration session (after state entry) q rec.own).left < length place.left in
    let R : List Step → Type 0 = λ s. Runs todo s [] in
    record {
      own = entry ∷ rec.own;
      behind = rec.behind;
      all = ap (λ l. entry ∷ l) rec.all;
      runs = subst R (sym (steps_other session entry rec.own other)) rec.runs;
      done = subst W (sym stays) rec.done;
    }

abbrev pub DoneFrom : Calibration → ℕ → Shared → List Entry → Type 0
DoneFrom calibration session shared entries =
    (place : Place) (first : Todo) (todo : List Todo) → place.todo ≡ first ∷ todo → place.left ≢ [] → IsLegal shared entries → Follows calibration session shared.state place entries →
    length (walk calibration session shared.state place entries).left < length place.left → IsDone calibration session shared.state place (first ∷ todo) entries

finished_shortens : (calibration : Calibration) (state : State) (lines : List Line) (place : Place) → lines ≢ [] → length (finished calibration state lines place).left < length lines
finished_shortens calibration state [] place some = absurd (some refl)
finished_shortens calibration state (line ∷ lines) place some = omega (arith, length-settled calibration state lines (done_at calibration state line.number line.command place))

-- The step of an own entry is the last, or there are more.
done_step : (calibration : Calibration) (session : ℕ) (shared : Shared) (place : Place) (first : Todo) (todo : List Todo) (entry : Entry) (entries : List Entry) (reply : Reply) (turn : List Todo) → place.left ≢ [] → nat_eq entry.seat session ≡ true →
    entry.act ≡ journal.Do (deed_of first) → entry.answer ≡ journal.Told reply → IsReply (deed_of first) reply → turned first reply todo ≡ turn →
    let new = with_todo calibration (after shared.state entry) turn (record place { counts = counted (deed_of first) reply place.counts }) in moved calibration session (after shared.state entry) entry place ≡ new →
    DoneFrom calibration session (shared_by shared entry) entries → IsLegal (shared_by shared entry) entries → Follows calibration session (after shared.state entry) new entries →
    length (walk calibration session (after shared.state entry) new entries).left < length place.left → IsDone calibration session shared.state place (first ∷ todo) (entry ∷ entries)
done_step calibration session shared place first todo entry entries reply [] some own act answer may turn goes rec legal follows fewer =
    let told : Place = record place { counts = counted (deed_of first) reply place.counts } in
    let new = with_todo calibration (after shared.state entry) [] told in
    let W : Place → Type 0 = λ q. length q.left < length place.left in
    let R : List Todo → Type 0 = λ t. Runs t [] [] in
    record {
      own = entry ∷ [];
      behind = entries;
      all = refl;
      runs = runs_more first todo reply [] (own_steps session (entry ∷ [])) may (steps_own session entry [] (deed_of first) reply own act answer) (subst R (sym turn) refl);
      done = subst W (sym goes) (finished_shortens calibration (after shared.state entry) place.left (record told { todo = [] }) some);
    }
done_step calibration session shared place first todo entry entries reply (second ∷ more) some own act answer may turn goes rec legal follows fewer =
    let told : Place = record place { counts = counted (deed_of first) reply place.counts } in
    let new = with_todo calibration (after shared.state entry) (second ∷ more) told in
    let end = rec new second more refl some legal follows fewer in
    let R : List Todo → Type 0 = λ t. Runs t (own_steps session end.own) [] in
    let W : Place → Type 0 = λ q. length (walk calibration session (after shared.state entry) q end.own).left < length place.left in
    record {
      own = entry ∷ end.own;
      behind = end.behind;
      all = ap (λ l. entry ∷ l) end.all;
      runs = runs_more first todo reply (own_steps session end.own) (own_steps session (entry ∷ end.own)) may (steps_own session entry end.own (deed_of first) reply own act answer) (subst R (sym turn) end.runs);
      done = subst W (sym goes) end.done;
    }

went_replied : (calibration : Calibration) (state : State) (place : Place) (first : Todo) (todo : List Todo) (answer : Answer) (reply : Reply) → place.todo ≡ first ∷ todo → answer ≡ journal.Told reply →
    went calibration state answer place ≡ with_todo calibration state (turned first reply todo) (record place { counts = counted (deed_of first) reply place.counts })
went_replied calibration state place first todo answer reply at is =
    ap (λ a. went calibration state a place) is ∙ ap (λ t. went_by calibration state t (journal.Told reply) place) at

done_own : (calibration : Calibration) (session : ℕ) (shared : Shared) (place : Place) (first : Todo) (todo : List Todo) (entry : Entry) (entries : List Entry) → place.todo ≡ first ∷ todo → place.left ≢ [] → nat_eq entry.seat session ≡ true →
    DoneFrom calibration session (shared_by shared entry) entries → IsLegal shared (entry ∷ entries) → Follows calibration session shared.state place (entry ∷ entries) →
    length (walk calibration session shared.state place (entry ∷ entries)).left < length place.left → IsDone calibration session shared.state place (first ∷ todo) (entry ∷ entries)
done_own calibration session shared place first todo entry entries at some own rec legal follows fewer =
    let now = after shared.state entry in
    let reply = reply_of shared.cached (deed_of first) in
    let next_is : next_of (first ∷ todo) (first_act place place.left) ≡ Some entry.act = ap (λ t. next_of t (first_act place place.left)) (sym at) ∙ follows.0 (eqb-true entry.seat session own) in
    let act : entry.act ≡ journal.Do (deed_of first) = cc in
    let answer : entry.answer ≡ journal.Told reply = legal.1 ∙ ap (λ a. answer_of shared a) act in
    let goes : moved calibration session now entry place ≡ with_todo calibration now (turned first reply todo) (record place { counts = counted (deed_of first) reply place.counts }) =
    own_moves calibration session now entry place (eqb-true entry.seat session own) ∙ went_replied calibration now place first todo entry.answer reply at answer in
    let F : Place → Type 0 = λ q. Follows calibration session now q entries in
    let W : Place → Type 0 = λ q. length (walk calibration session now q entries).left < length place.left in
    done_step calibration session shared place first todo entry entries reply (turned first reply todo) some own act answer (reply_fits shared.cached (deed_of first)) refl goes rec legal.2 (subst F goes follows.1) (subst W goes fewer)

-- Entries that end a line do all that it has to do with messages.
pub print_done : (calibration : Calibration) (session : ℕ) (shared : Shared) (entries : List Entry) → DoneFrom calibration session shared entries
print_done calibration session shared [] = λ place first todo at some legal follows fewer. absurd (omega (arith, fewer))
print_done calibration session shared (entry ∷ entries) = λ place first todo at some legal follows fewer.
    let now = after shared.state entry in
    let rec = print_done calibration session (shared_by shared entry) entries in
    elim (nat_eq entry.seat session) as (λ b. nat_eq entry.seat session ≡ b → IsDone calibration session shared.state place (first ∷ todo) (entry ∷ entries)) [
      | true ↦ λ own. done_own calibration session shared place first todo entry entries at some own rec legal follows fewer
      | false ↦ λ other.
          let stays = other_moves calibration session now entry place (eqb-false entry.seat session other) in
          let F : Place → Type 0 = λ q. Follows calibration session now q entries in
          let W : Place → Type 0 = λ q. length (walk calibration session now q entries).left < length place.left in
          done_other calibration session shared.state place (first ∷ todo) entry entries other (rec place first todo at some legal.2 (subst F stays follows.1) (subst W stays fewer))
    ] refl

first_want : (gets : Gets) → is_get gets ≡ true → (first : Todo) × (todo : List Todo) × (wants gets [] ≡ first ∷ todo)
first_want no_more some = absurd (cc)
first_want (get code parts others) some = (Want code parts, wants others [], refl)

no_line : (lines : List Line) (n : ℕ) → n < length lines → lines ≢ []
no_line [] n less = absurd (omega arith)
no_line (line ∷ lines) n less = λ none. absurd (cc)

-- The messages of each print that is finished in a course are got by a walk.
pub prints_walked : PrintsAreWalked
prints_walked calibration models capacity session script entries place legal run = λ earlier later gets all some at fewer.
    let start = shared_of models capacity in
    let begins = begin calibration session (start_of models) script in
    let L : List Entry → Type 0 = λ l. IsLegal start l in
    let F : List Entry → Type 0 = λ l. Follows calibration session (start_of models) begins l in
    let here = walk calibration session (start_of models) begins earlier in
    let now = shared_after start earlier in
    let want = first_want gets some in
    let state : now.state ≡ state_after (start_of models) earlier = state-shared_after start earlier in
    let S : State → Type 0 = λ s. Follows calibration session s here later in
    let follows_later = subst S (sym state) (Follows-later calibration session (start_of models) begins earlier later (subst F all run.follows)) in
    let end : walk calibration session (start_of models) begins entries ≡ walk calibration session now.state here later =
    ap (λ l. walk calibration session (start_of models) begins l) all ∙ walk-append calibration session (start_of models) begins earlier later ∙ ap (λ s. walk calibration session s here later) (sym state) in
    let D : Place → Type 0 = λ q. length q.left < length here.left in
    let shorter = subst D end fewer in
    let left = no_line here.left (length (walk calibration session now.state here later).left) shorter in
    let done = print_done calibration session now later here want.0 want.1 (at ∙ want.2) left (IsLegal-later start earlier later (subst L all legal)) follows_later shorter in
    let R : List Todo → Type 0 = λ t. Runs t (own_steps session done.own) [] in
    let T : State → Type 0 = λ s. D (walk calibration session s here done.own) in
    record {
      own = done.own;
      behind = done.behind;
      all = done.all;
      walked = walk_is gets (own_steps session done.own) (subst R (sym want.2) done.runs);
      done = subst D (sym (walk-append calibration session (start_of models) begins earlier done.own)) (subst T state done.done);
    }
