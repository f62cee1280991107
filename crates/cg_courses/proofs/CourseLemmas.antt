-- A course along a journal that grows, and what a session knows at each place of it.
use Rattle.std.proofs.Common.{◌≡◌, ◌≢◌, ℕ, suc, ◌<◌, ◌≤◌, true, false, cond, is_some, nat_eq, ◌||◌, ◌⊎◌, inl, inr, le_refl, List, [], ◌∷◌, ◌++◌, length, refl, sym, ap, subst, ◌∙◌, arith, ne_eqb, eq-eqb, eqb-true, Option, Some, None, Result, Ok, Err, ltb-true, ℤ}
use Rattle.std.specs.Prelude.{nat_lt, bytes_eq, option_map}
use Rattle.std.proofs.lemmas.Bool.{eqb-false}
use Rattle.cg_meaning.specs.Tree.{Name, Trees}
use Rattle.cg_meaning.specs.Scene.{Grid}
use Rattle.cg_cache.specs.Cached.{Cached}
use Rattle.cg_cache.specs.Deeds.{Reply, reply_of}
use Rattle.cg_walk.specs.Gets.{Gets, no_more, get}
use Rattle.cg_walk.specs.Walk.{Todo, deed_of, wants, turned, owed, weight, IsReply}
use Rattle.cg_walk.proofs.WalkLemmas.{weight-turned, owed-wants}
use Rattle.cg_sharing.specs.Edit.{Edit, EditFault, result_of}
use Rattle.cg_sharing.specs.Command as command
use Rattle.cg_sharing.specs.Command.{Command, Line}
use Rattle.cg_sharing.specs.Versions.{State, StartModel, Head, count_of, head_of, parent_of, chronology_of}
use Rattle.cg_sharing.specs.Journal as journal
use Rattle.cg_sharing.specs.Journal.{Act, Answer, Entry, at_or, made_or, is_base, committed_or, answer_of, Shared, shared_of, with_result, changed_by, after, state_after, cached_by, shared_by, shared_after, May, IsLegal, IsInOrder}
use Rattle.cg_courses.specs.Course.{Calibration, Place, act_of, first_act, next_of, next, gets_of, is_get, is_by_acts, counted, finished, with_todo, replied, went_by, grid_of, with_grid, done_at, settled, entrance_of, begin, with_base, bases_after, answered, went_on, went, moved, walk, AreOthers, Follows, IsRunning, IsFit, AreFit}
use Rattle.cg_sharing.proofs.JournalLemmas.{start-closed, IsBelow, AreBelow, IsClosed, IsBelow-more, AreBelow-more, head_of-below, parent_of-below, grows-changed_by, count_of-with_version, commit-known, closed-changed_by}
use Rattle.cg_courses.proofs.HeldLemmas.{held_by, AreOnce, others_keep, own_keeps, may_do_next, reply_fits, once_keeps}

-- The entry of another seat leaves the place.
pub other_moves : (calibration : Calibration) (session : ℕ) (state : State) (entry : Entry) (place : Place) → entry.seat ≢ session → moved calibration session state entry place ≡ place
other_moves calibration session state entry place ne = rw (ne_eqb entry.seat session ne) refl

-- Its own moves it.
pub own_moves : (calibration : Calibration) (session : ℕ) (state : State) (entry : Entry) (place : Place) → entry.seat ≡ session → moved calibration session state entry place ≡ went calibration state entry.answer place
own_moves calibration session state entry place is = rw (eq-eqb entry.seat session is) refl

pub walk-append : (calibration : Calibration) (session : ℕ) (state : State) (place : Place) (xs ys : List Entry) → walk calibration session state place (xs ++ ys) ≡ walk calibration session (state_after state xs) (walk calibration session state place xs) ys
walk-append calibration session state place [] ys = refl
walk-append calibration session state place (x ∷ xs) ys = walk-append calibration session (after state x) (moved calibration session (after state x) x place) xs ys

pub Follows-append : (calibration : Calibration) (session : ℕ) (state : State) (place : Place) (xs ys : List Entry) → Follows calibration session state place xs →
    Follows calibration session (state_after state xs) (walk calibration session state place xs) ys → Follows calibration session state place (xs ++ ys)
Follows-append calibration session state place [] ys first then = then
Follows-append calibration session state place (x ∷ xs) ys first then = (first.0, Follows-append calibration session (after state x) (moved calibration session (after state x) x place) xs ys first.1 then)

-- Entries of other seats leave the place.
pub others_walk : (calibration : Calibration) (session : ℕ) (state : State) (place : Place) (xs : List Entry) → AreOthers session xs → walk calibration session state place xs ≡ place
others_walk calibration session state place [] others = refl
others_walk calibration session state place (x ∷ xs) others =
    ap (λ (q : Place). walk calibration session (after state x) q xs) (other_moves calibration session (after state x) x place others.0) ∙ others_walk calibration session (after state x) place xs others.1

pub others_follow : (calibration : Calibration) (session : ℕ) (state : State) (place : Place) (xs : List Entry) → AreOthers session xs → Follows calibration session state place xs
others_follow calibration session state place [] others = tt
others_follow calibration session state place (x ∷ xs) others = (
  (λ is. absurd (others.0 is)),
  subst (λ (q : Place). Follows calibration session (after state x) q xs) (sym (other_moves calibration session (after state x) x place others.0)) (others_follow calibration session (after state x) place xs others.1),
)

-- A course goes on over entries of other seats.
pub running-others : (calibration : Calibration) (session : ℕ) (start : State) (script : List Line) (xs ys : List Entry) (place : Place) → IsRunning calibration session start script xs place → AreOthers session ys → IsRunning calibration session start script (xs ++ ys) place
running-others calibration session start script xs ys place run others = let first = begin calibration session start script in record {
  follows = Follows-append calibration session start first xs ys run.follows (others_follow calibration session (state_after start xs) (walk calibration session start first xs) ys others);
  reached = run.reached ∙ sym (walk-append calibration session start first xs ys ∙ others_walk calibration session (state_after start xs) (walk calibration session start first xs) ys others);
}

-- It goes on over the answer to its next act.
pub running-own : (calibration : Calibration) (session : ℕ) (start : State) (script : List Line) (xs : List Entry) (entry : Entry) (place : Place) → IsRunning calibration session start script xs place → entry.seat ≡ session → next place ≡ Some entry.act →
    IsRunning calibration session start script (xs ++ entry ∷ []) (went calibration (after (state_after start xs) entry) entry.answer place)
running-own calibration session start script xs entry place run own act =
    let first = begin calibration session start script in
    let state = state_after start xs in
    let step = own_moves calibration session (after state entry) entry place own in
    record {
      follows = Follows-append calibration session start first xs (entry ∷ []) run.follows (subst (λ (q : Place). Follows calibration session state q (entry ∷ [])) run.reached ((λ _. act), tt));
      reached = sym step ∙ ap (λ (q : Place). moved calibration session (after state entry) entry q) run.reached ∙ sym (walk-append calibration session start first xs (entry ∷ []));
    }

-- What a place says of versions is known, and want of memory hasn't come.
pub record Knows (count : ℕ) (place : Place) : Type 0 where
  pub version : IsBelow count place.version
  pub bases : AreBelow count place.bases
  pub going : place.stopped ≡ false

pub Knows-more : {m n : ℕ} → m ≤ n → (place : Place) → Knows m place → Knows n place
Knows-more le place knows = record { version = IsBelow-more le place.version knows.version; bases = AreBelow-more le place.bases knows.bases; going = knows.going }

-- A place is at rest: it has a next act, or no line is left; and messages are got for a line alone.
pub record Rests (place : Place) : Type 0 where
  pub ends : next place ≡ None → place.left ≡ []
  pub idle : place.left ≡ [] → place.todo ≡ []

-- a place that keeps its versions
pub record Keeps (old new : Place) : Type 0 where
  pub version : new.version ≡ old.version
  pub bases : new.bases ≡ old.bases
  pub stopped : new.stopped ≡ old.stopped

pub Keeps-knows : (count : ℕ) (old new : Place) → Keeps old new → Knows count old → Knows count new
Keeps-knows count old new keeps knows = record {
  version = subst (λ v. IsBelow count v) (sym keeps.version) knows.version;
  bases = subst (λ v. AreBelow count v) (sym keeps.bases) knows.bases;
  going = keeps.stopped ∙ knows.going;
}

keeps_with_grid : (number : ℕ) (grid : Result Grid ℤ) (place : Place) → Keeps place (with_grid number grid place)
keeps_with_grid number (Ok grid) place = record { version = refl; bases = refl; stopped = refl }
keeps_with_grid number (Err cells) place = record { version = refl; bases = refl; stopped = refl }

keeps_both : (a b c : Place) → Keeps a b → Keeps b c → Keeps a c
keeps_both a b c first then = record { version = then.version ∙ first.version; bases = then.bases ∙ first.bases; stopped = then.stopped ∙ first.stopped }

-- a command that makes no act keeps them
pub keeps-done_at : (calibration : Calibration) (state : State) (number : ℕ) (c : Command) (place : Place) → Keeps place (done_at calibration state number c place)
keeps-done_at calibration state number (command.Grid older younger) place = keeps_with_grid number (grid_of older younger) place
keeps-done_at calibration state number (command.Print name) place = record { version = refl; bases = refl; stopped = refl }
keeps-done_at calibration state number (command.Ranges name) place = record { version = refl; bases = refl; stopped = refl }
keeps-done_at calibration state number command.Model place = record { version = refl; bases = refl; stopped = refl }
keeps-done_at calibration state number command.Work place = record { version = refl; bases = refl; stopped = refl }
keeps-done_at calibration state number other place = record { version = refl; bases = refl; stopped = refl }

-- and so do the commands up to the next act
pub keeps-settled : (calibration : Calibration) (state : State) (lines : List Line) (place : Place) → Keeps place (settled calibration state lines place)
keeps-settled calibration state [] place = record { version = refl; bases = refl; stopped = refl }
keeps-settled calibration state (line ∷ lines) place =
    let done = done_at calibration state line.number line.command place in
    let step = keeps-done_at calibration state line.number line.command place in
    let later = keeps-settled calibration state lines done in
    elim (is_by_acts calibration state line.command place) as (λ b. Keeps place (cond b (record place { left = line ∷ lines; todo = wants (gets_of calibration state line.command place) [] }) (settled calibration state lines (done_at calibration state line.number line.command place)))) [
      | true ↦ record { version = refl; bases = refl; stopped = refl }
      | false ↦ keeps_both place done (settled calibration state lines done) step later
    ]

-- no line comes back
pub length-settled : (calibration : Calibration) (state : State) (lines : List Line) (place : Place) → length (settled calibration state lines place).left ≤ length lines
length-settled calibration state [] place = omega arith
length-settled calibration state (line ∷ lines) place =
    let later = length-settled calibration state lines (done_at calibration state line.number line.command place) in
    elim (is_by_acts calibration state line.command place) as (λ b. length (cond b (record place { left = line ∷ lines; todo = wants (gets_of calibration state line.command place) [] }) (settled calibration state lines (done_at calibration state line.number line.command place))).left ≤ length (line ∷ lines)) [
      | true ↦ omega arith
      | false ↦ omega (arith, later)
    ]

-- the lines that are left don't matter to an act
pub act_of-left : (c : Command) (place : Place) (lines : List Line) → act_of (record place { left = lines }) c ≡ act_of place c
act_of-left (command.Grid older younger) place lines = refl
act_of-left (command.Open name) place lines = refl
act_of-left (command.Take version) place lines = refl
act_of-left command.Undo place lines = refl
act_of-left (command.Change edit) place lines = refl
act_of-left (command.Commit name) place lines = refl
act_of-left (command.Print name) place lines = refl
act_of-left (command.Ranges name) place lines = refl
act_of-left command.Model place lines = refl
act_of-left command.Work place lines = refl

-- nor does what is to be done with messages
pub act_of-here : (c : Command) (place : Place) (lines : List Line) (todo : List Todo) → act_of (record place { left = lines; todo = todo }) c ≡ act_of place c
act_of-here (command.Grid older younger) place lines todo = refl
act_of-here (command.Open name) place lines todo = refl
act_of-here (command.Take version) place lines todo = refl
act_of-here command.Undo place lines todo = refl
act_of-here (command.Change edit) place lines todo = refl
act_of-here (command.Commit name) place lines todo = refl
act_of-here (command.Print name) place lines todo = refl
act_of-here (command.Ranges name) place lines todo = refl
act_of-here command.Model place lines todo = refl
act_of-here command.Work place lines todo = refl

first_fit : (line : Line) (lines : List Line) → AreFit (line ∷ lines) → IsFit line.command
first_fit line lines fit = fit 0 line (omega arith)

others_fit : (line : Line) (lines : List Line) → AreFit (line ∷ lines) → AreFit lines
others_fit line lines fit = λ i d within. fit (suc i) d (omega arith)

-- a command that is done by acts has one: its own, or that of its first message
no_end : (act : Option Act) (gets : Gets) → is_some act || is_get gets ≡ true → next_of (wants gets []) act ≡ None → ⊥
no_end (Some act) no_more acts none = cc
no_end None no_more acts none = cc
no_end act (get code parts others) acts none = cc

-- A place is at rest once it is settled,
pub rests-settled : (calibration : Calibration) (state : State) (lines : List Line) (place : Place) → Rests (settled calibration state lines place)
rests-settled calibration state [] place = record { ends = λ _. refl; idle = λ _. refl }
rests-settled calibration state (line ∷ lines) place =
    let later = rests-settled calibration state lines (done_at calibration state line.number line.command place) in
    let gets = gets_of calibration state line.command place in
    let here : Place = record place { left = line ∷ lines; todo = wants gets [] } in
    elim (is_by_acts calibration state line.command place) as (λ b. is_by_acts calibration state line.command place ≡ b → Rests (cond b here (settled calibration state lines (done_at calibration state line.number line.command place)))) [
      | true ↦ λ acts. record {
        ends = λ none. absurd (no_end (act_of place line.command) gets acts (ap (λ a. next_of (wants gets []) a) (sym (act_of-here line.command place (line ∷ lines) (wants gets []))) ∙ none));
        idle = λ none. absurd (cc);
      }
      | false ↦ λ _. later
    ] refl

-- with lines that are in order,
fit-settled : (calibration : Calibration) (state : State) (lines : List Line) (place : Place) → AreFit lines → AreFit (settled calibration state lines place).left
fit-settled calibration state [] place fit = fit
fit-settled calibration state (line ∷ lines) place fit =
    let later = fit-settled calibration state lines (done_at calibration state line.number line.command place) (others_fit line lines fit) in
    let here : Place = record place { left = line ∷ lines; todo = wants (gets_of calibration state line.command place) [] } in
    elim (is_by_acts calibration state line.command place) as (λ b. AreFit (cond b here (settled calibration state lines (done_at calibration state line.number line.command place))).left) [ true ↦ fit | false ↦ later ]

-- and owes nothing.
owed-settled : (calibration : Calibration) (state : State) (lines : List Line) (place : Place) → owed (settled calibration state lines place).todo ≡ []
owed-settled calibration state [] place = refl
owed-settled calibration state (line ∷ lines) place =
    let later = owed-settled calibration state lines (done_at calibration state line.number line.command place) in
    let gets = gets_of calibration state line.command place in
    let here : Place = record place { left = line ∷ lines; todo = wants gets [] } in
    elim (is_by_acts calibration state line.command place) as (λ b. owed (cond b here (settled calibration state lines (done_at calibration state line.number line.command place))).todo ≡ []) [
      | true ↦ owed-wants gets []
      | false ↦ later
    ]

-- so is it once a line has its messages
keeps-finished : (calibration : Calibration) (state : State) (lines : List Line) (place : Place) → Keeps place (finished calibration state lines place)
keeps-finished calibration state [] place = record { version = refl; bases = refl; stopped = refl }
keeps-finished calibration state (line ∷ lines) place =
    let done = done_at calibration state line.number line.command place in
    keeps_both place done (settled calibration state lines done) (keeps-done_at calibration state line.number line.command place) (keeps-settled calibration state lines done)

keeps-with_todo : (calibration : Calibration) (state : State) (todo : List Todo) (place : Place) → Keeps place (with_todo calibration state todo place)
keeps-with_todo calibration state [] place =
    let idle : Place = record place { todo = [] } in
    keeps_both place idle (finished calibration state place.left idle) (record { version = refl; bases = refl; stopped = refl }) (keeps-finished calibration state place.left idle)
keeps-with_todo calibration state (first ∷ todo) place = record { version = refl; bases = refl; stopped = refl }

fit-finished : (calibration : Calibration) (state : State) (lines : List Line) (place : Place) → AreFit place.left → AreFit lines → AreFit (finished calibration state lines place).left
fit-finished calibration state [] place here fit = here
fit-finished calibration state (line ∷ lines) place here fit = fit-settled calibration state lines (done_at calibration state line.number line.command place) (others_fit line lines fit)

fit-with_todo : (calibration : Calibration) (state : State) (todo : List Todo) (place : Place) → AreFit place.left → AreFit (with_todo calibration state todo place).left
fit-with_todo calibration state [] place fit = fit-finished calibration state place.left (record place { todo = [] }) fit fit
fit-with_todo calibration state (first ∷ todo) place fit = fit

owed-finished : (calibration : Calibration) (state : State) (lines : List Line) (place : Place) → owed place.todo ≡ [] → owed (finished calibration state lines place).todo ≡ []
owed-finished calibration state [] place none = none
owed-finished calibration state (line ∷ lines) place none = owed-settled calibration state lines (done_at calibration state line.number line.command place)

owed-with_todo : (calibration : Calibration) (state : State) (todo : List Todo) (place : Place) → owed (with_todo calibration state todo place).todo ≡ owed todo
owed-with_todo calibration state [] place = owed-finished calibration state place.left (record place { todo = [] }) refl
owed-with_todo calibration state (first ∷ todo) place = refl

-- the act of a version that is known, if there is one
may_on : (shared : Shared) (seat : ℕ) (to : ℕ → Act) (version : Option ℕ) (act : Act) → ((v : ℕ) → v < count_of shared.state → May shared seat (to v)) → IsBelow (count_of shared.state) version → option_map to version ≡ Some act → May shared seat act
may_on shared seat to None act may below is = absurd (cc)
may_on shared seat to (Some v) act may below is = let same : to v ≡ act = cc in subst (λ a. May shared seat a) same (may v below)

may_commit : (shared : Shared) (seat : ℕ) (name : Name) (base : Option ℕ) (version : ℕ) → IsBelow (count_of shared.state) base → version < count_of shared.state → May shared seat (journal.Commit name base version)
may_commit shared seat name None version base known = known
may_commit shared seat name (Some b) version base known = (base, known)

-- a session may make each act of its commands
may_do : (shared : Shared) (seat : ℕ) (place : Place) (c : Command) (act : Act) → Knows (count_of shared.state) place → IsFit c → act_of place c ≡ Some act → May shared seat act
may_do shared seat place (command.Grid older younger) act knows fit is = absurd (cc)
may_do shared seat place (command.Open name) act knows fit is = let same : journal.Head name ≡ act = cc in subst (λ a. May shared seat a) same tt
may_do shared seat place (command.Take version) act knows fit is = let same : journal.Take version ≡ act = cc in subst (λ a. May shared seat a) same tt
may_do shared seat place command.Undo act knows fit is = may_on shared seat (λ v. journal.Undo v) place.version act (λ v known. known) knows.version is
may_do shared seat place (command.Change edit) act knows fit is = may_on shared seat (λ v. journal.Change v edit) place.version act (λ v known. (known, fit)) knows.version is
may_do shared seat place (command.Commit name) act knows fit is =
    let base = head_of name place.bases in
    may_on shared seat (λ v. journal.Commit name base v) place.version act (λ v known. may_commit shared seat name base v (head_of-below (count_of shared.state) name place.bases knows.bases) known) knows.version is
may_do shared seat place (command.Print name) act knows fit is = absurd (cc)
may_do shared seat place (command.Ranges name) act knows fit is = absurd (cc)
may_do shared seat place command.Model act knows fit is = absurd (cc)
may_do shared seat place command.Work act knows fit is = absurd (cc)

may_first : (shared : Shared) (seat : ℕ) (place : Place) (lines : List Line) (act : Act) → Knows (count_of shared.state) place → AreFit lines → first_act place lines ≡ Some act → May shared seat act
may_first shared seat place [] act knows fit is = absurd (cc)
may_first shared seat place (line ∷ lines) act knows fit is = may_do shared seat place line.command act knows (first_fit line lines fit) is

-- A session knows its versions, is at rest, and holds the claims of its seat.
pub record Steady (session : ℕ) (shared : Shared) (place : Place) : Type 0 where
  pub knows : Knows (count_of shared.state) place
  pub rests : Rests place
  pub fit : AreFit place.left
  pub holds : held_by session shared.cached.claimed ≡ owed place.todo
  pub once : AreOnce shared.cached.claimed

may_todo : (shared : Shared) (session : ℕ) (place : Place) (todo : List Todo) (act : Act) → Steady session shared place → place.todo ≡ todo → next_of todo (first_act place place.left) ≡ Some act → May shared session act
may_todo shared session place [] act steady at is = may_first shared session place place.left act steady.knows steady.fit is
may_todo shared session place (first ∷ todo) act steady at is =
    let same : journal.Do (deed_of first) ≡ act = cc in
    subst (λ a. May shared session a) same (may_do_next session shared.cached first todo steady.once (steady.holds ∙ ap (λ t. owed t) at))

-- So it may make its next act.
pub may_next : (shared : Shared) (session : ℕ) (place : Place) (act : Act) → Steady session shared place → next place ≡ Some act → May shared session act
may_next shared session place act steady is = may_todo shared session place place.todo act steady refl is

-- the version that an answer names is known
abbrev pub SaysBelow : ℕ → Answer → Type 0
SaysBelow count (journal.At version) = version < count
SaysBelow count (journal.Made version) = version < count
SaysBelow count (journal.Committed version) = version < count
SaysBelow count other = Unit {0}

says-more : {m n : ℕ} → m ≤ n → (answer : Answer) → SaysBelow m answer → SaysBelow n answer
says-more le (journal.At version) says = omega arith
says-more le (journal.Made version) says = omega arith
says-more le (journal.Committed version) says = omega arith
says-more le other says = tt

says-at : (count : ℕ) (other : Answer) (version : Option ℕ) → SaysBelow count other → IsBelow count version → SaysBelow count (at_or other version)
says-at count other None says below = says
says-at count other (Some version) says below = below

says-committed : (count : ℕ) (base : Option ℕ) (version : ℕ) (head : Option ℕ) → version < count → SaysBelow count (committed_or base version head)
says-committed count base version None known = tt
says-committed count None version (Some head) known = tt
says-committed count (Some b) version (Some head) known =
    elim (nat_eq b head) as (λ e. SaysBelow count (cond e (journal.Committed version) (journal.Moved head))) [ true ↦ known | false ↦ tt ]

says-change : (state : State) (version : ℕ) (edit : Edit) (result : Result Trees EditFault) → result_of edit (chronology_of state version).top ≡ result →
    SaysBelow (count_of (changed_by (journal.Change version edit) (made_or (count_of state) result) state)) (made_or (count_of state) result)
says-change state version edit (Err fault) is = tt
says-change state version edit (Ok top) is =
    let P : Result Trees EditFault → Type 0 = λ r. count_of state < count_of (with_result version r state) in
    subst P (sym is) (omega (arith, count_of-with_version version top state))

-- after a legal entry
pub says-answer : (shared : Shared) (seat : ℕ) (act : Act) → IsClosed shared.state → May shared seat act →
    SaysBelow (count_of (changed_by act (answer_of shared act) shared.state)) (answer_of shared act)
says-answer shared seat (journal.Head name) closed may = says-at (count_of shared.state) journal.NoModel (head_of name shared.state.heads) tt (head_of-below (count_of shared.state) name shared.state.heads closed.heads)
says-answer shared seat (journal.Take version) closed may =
    elim (nat_lt version (count_of shared.state)) as (λ b. nat_lt version (count_of shared.state) ≡ b → SaysBelow (count_of shared.state) (cond b (journal.At version) (journal.NoVersion (count_of shared.state)))) [
      | true ↦ λ is. ltb-true version (count_of shared.state) is
      | false ↦ λ _. tt
    ] refl
says-answer shared seat (journal.Undo version) closed may = says-at (count_of shared.state) journal.NoParent (parent_of shared.state version) tt (parent_of-below (count_of shared.state) shared.state.versions version closed.parents)
says-answer shared seat (journal.Change version edit) closed may = says-change shared.state version edit (result_of edit (chronology_of shared.state version).top) refl
says-answer shared seat (journal.Commit name base version) closed may =
    says-more (grows-changed_by (journal.Commit name base version) (answer_of shared (journal.Commit name base version)) shared.state) (answer_of shared (journal.Commit name base version))
    (says-committed (count_of shared.state) base version (head_of name shared.state.heads) (commit-known shared seat name base version may))
says-answer shared seat (journal.Do deed) closed may = tt

with_base-below : (count : ℕ) (name : Name) (version : ℕ) (bases : List Head) → version < count → AreBelow count bases → AreBelow count (with_base name version bases)
with_base-below count name version [] known below = (known, tt)
with_base-below count name version (base ∷ bases) known below =
    elim (bytes_eq name base.name) as (λ b. AreBelow count (cond b (record base { version = version } ∷ bases) (base ∷ with_base name version bases))) [
      | true ↦ (known, below.1)
      | false ↦ (below.0, with_base-below count name version bases known below.1)
    ]

bases_after-below : (count : ℕ) (c : Command) (version : ℕ) (bases : List Head) → version < count → AreBelow count bases → AreBelow count (bases_after c version bases)
bases_after-below count (command.Open name) version bases known below = with_base-below count name version bases known below
bases_after-below count (command.Commit name) version bases known below = with_base-below count name version bases known below
bases_after-below count other version bases known below = below

-- a session knows what it is told
knows-answered : (count : ℕ) (line : Line) (answer : Answer) (place : Place) → SaysBelow count answer → Knows count place → Knows count (answered line answer place)
knows-answered count line (journal.At version) place says knows = record { version = says; bases = bases_after-below count line.command version place.bases says knows.bases; going = knows.going }
knows-answered count line (journal.Made version) place says knows = record { version = says; bases = knows.bases; going = knows.going }
knows-answered count line (journal.Committed version) place says knows = record { version = knows.version; bases = bases_after-below count line.command version place.bases says knows.bases; going = knows.going }
knows-answered count line other place says knows = record { version = knows.version; bases = knows.bases; going = knows.going }

-- an act on versions leaves the cache
abbrev IsOfVersions : Act → Type 0
IsOfVersions (journal.Do deed) = ⊥
IsOfVersions act = Unit {0}

of_versions_on : (to : ℕ → Act) (version : Option ℕ) (act : Act) → ((v : ℕ) → IsOfVersions (to v)) → option_map to version ≡ Some act → IsOfVersions act
of_versions_on to None act may is = absurd (cc)
of_versions_on to (Some v) act may is = let same : to v ≡ act = cc in subst (λ a. IsOfVersions a) same (may v)

of_versions : (place : Place) (c : Command) (act : Act) → act_of place c ≡ Some act → IsOfVersions act
of_versions place (command.Grid older younger) act is = absurd (cc)
of_versions place (command.Open name) act is = let same : journal.Head name ≡ act = cc in subst (λ a. IsOfVersions a) same tt
of_versions place (command.Take version) act is = let same : journal.Take version ≡ act = cc in subst (λ a. IsOfVersions a) same tt
of_versions place command.Undo act is = of_versions_on (λ v. journal.Undo v) place.version act (λ v. tt) is
of_versions place (command.Change edit) act is = of_versions_on (λ v. journal.Change v edit) place.version act (λ v. tt) is
of_versions place (command.Commit name) act is = of_versions_on (λ v. journal.Commit name (head_of name place.bases) v) place.version act (λ v. tt) is
of_versions place (command.Print name) act is = absurd (cc)
of_versions place (command.Ranges name) act is = absurd (cc)
of_versions place command.Model act is = absurd (cc)
of_versions place command.Work act is = absurd (cc)

same-versions : (seat : ℕ) (act : Act) (answer : Answer) (cached : Cached) → IsOfVersions act → cached_by seat act answer cached ≡ cached
same-versions seat (journal.Do deed) answer cached never = absurd never
same-versions seat act answer cached is = refl

-- What a seat holds stays over a legal entry of another seat,
pub held-others : (session seat : ℕ) (act : Act) (answer : Answer) (shared : Shared) → seat ≢ session → AreOnce shared.cached.claimed → May shared seat act →
    held_by session (cached_by seat act answer shared.cached).claimed ≡ held_by session shared.cached.claimed
held-others session seat (journal.Do deed) (journal.Told reply) shared ne once may = others_keep session seat deed reply shared.cached ne once may
held-others session seat act answer shared ne once may = refl

-- and no code comes to be claimed twice.
pub once-entry : (seat : ℕ) (act : Act) (answer : Answer) (shared : Shared) → answer ≡ answer_of shared act → AreOnce shared.cached.claimed → AreOnce (cached_by seat act answer shared.cached).claimed
once-entry seat (journal.Do deed) answer shared is once =
    subst (λ a. AreOnce (cached_by seat (journal.Do deed) a shared.cached).claimed) (sym is) (once_keeps seat shared.cached deed once)
once-entry seat act answer shared is once = once

-- A place with fewer lines left, or with less to be done for the first of them.
abbrev pub IsNearer : Place → Place → Type 0
IsNearer new old = (length new.left < length old.left) ⊎ ((length new.left ≤ length old.left) × (weight new.todo < weight old.todo))

finished_nears : (calibration : Calibration) (state : State) (lines : List Line) (place : Place) → lines ≢ [] →
    let new = finished calibration state lines place in Rests new × (length new.left < length lines)
finished_nears calibration state [] place some = absurd (some refl)
finished_nears calibration state (line ∷ lines) place some =
    let done = done_at calibration state line.number line.command place in
    (rests-settled calibration state lines done, omega (arith, length-settled calibration state lines done))

with_todo_nears : (calibration : Calibration) (state : State) (todo : List Todo) (place : Place) (weighs : ℕ) → place.left ≢ [] → weight todo < weighs →
    let new = with_todo calibration state todo place in Rests new × ((length new.left < length place.left) ⊎ ((length new.left ≤ length place.left) × (weight new.todo < weighs)))
with_todo_nears calibration state [] place weighs some less =
    let end = finished_nears calibration state place.left (record place { todo = [] }) some in (end.0, inl end.1)
with_todo_nears calibration state (first ∷ todo) place weighs some less =
    (record { ends = λ none. absurd (cc); idle = λ none. absurd (some none) }, inr (le_refl (length place.left), less))

went_on_nears : (calibration : Calibration) (state : State) (lines : List Line) (answer : Answer) (place : Place) → lines ≢ [] →
    let new = went_on calibration state lines answer place in Rests new × (length new.left < length lines)
went_on_nears calibration state [] answer place some = absurd (some refl)
went_on_nears calibration state (line ∷ lines) answer place some =
    let now = answered line answer place in
    (rests-settled calibration state lines now, omega (arith, length-settled calibration state lines now))

some_lines : (place : Place) (act : Act) → first_act place place.left ≡ Some act → place.left ≢ []
some_lines place act is = λ none. absurd (let both = sym is ∙ ap (λ lines. first_act place lines) none in cc)

-- what an answer to the first of these leaves
abbrev Nears : Calibration → State → List Todo → Answer → Place → Type 0
Nears calibration state todo answer place = let new = went_by calibration state todo answer place in Rests new × IsNearer new place

went_by_nears : (calibration : Calibration) (state : State) (shared : Shared) (place : Place) (todo : List Todo) (act : Act) → Rests place → place.todo ≡ todo → next_of todo (first_act place place.left) ≡ Some act →
    Nears calibration state todo (answer_of shared act) place
went_by_nears calibration state shared place [] act rests at is =
    let end = went_on_nears calibration state place.left (answer_of shared act) place (some_lines place act is) in (end.0, inl end.1)
went_by_nears calibration state shared place (first ∷ todo) act rests at is =
    let some : place.left ≢ [] = λ none. absurd (let bare = sym at ∙ rests.idle none in cc) in
    let same : journal.Do (deed_of first) ≡ act = cc in
    let reply = reply_of shared.cached (deed_of first) in
    let told : Place = record place { counts = counted (deed_of first) reply place.counts } in
    let end = with_todo_nears calibration state (turned first reply todo) told (weight (first ∷ todo)) some (weight-turned first reply todo) in
    let new = with_todo calibration state (turned first reply todo) told in
    let W : List Todo → Type 0 = λ t. (length new.left < length place.left) ⊎ ((length new.left ≤ length place.left) × (weight new.todo < weight t)) in
    let A : Act → Type 0 = λ a. Nears calibration state (first ∷ todo) (answer_of shared a) place in
    let own : A (journal.Do (deed_of first)) = (end.0, subst W (sym at) end.1) in
    subst A same own

-- After the answer to its next act a session is at rest, and nearer to its end.
pub went_nears : (calibration : Calibration) (state : State) (shared : Shared) (place : Place) (act : Act) → Rests place → next place ≡ Some act →
    let new = went calibration state (answer_of shared act) place in Rests new × IsNearer new place
went_nears calibration state shared place act rests is = went_by_nears calibration state shared place place.todo act rests refl is

stopped-answered : (line : Line) (answer : Answer) (place : Place) → (answered line answer place).stopped ≡ place.stopped
stopped-answered line (journal.At version) place = refl
stopped-answered line (journal.Made version) place = refl
stopped-answered line (journal.Committed version) place = refl
stopped-answered line other place = refl

stopped-went_on : (calibration : Calibration) (state : State) (lines : List Line) (answer : Answer) (place : Place) → (went_on calibration state lines answer place).stopped ≡ place.stopped
stopped-went_on calibration state [] answer place = refl
stopped-went_on calibration state (line ∷ lines) answer place = (keeps-settled calibration state lines (answered line answer place)).stopped ∙ stopped-answered line answer place

stopped-replied : (calibration : Calibration) (state : State) (first : Todo) (todo : List Todo) (answer : Answer) (place : Place) → (replied calibration state first todo answer place).stopped ≡ place.stopped
stopped-replied calibration state first todo (journal.Told reply) place =
    (keeps-with_todo calibration state (turned first reply todo) (record place { counts = counted (deed_of first) reply place.counts })).stopped
stopped-replied calibration state first todo other place = refl

stopped-went_by : (calibration : Calibration) (state : State) (todo : List Todo) (answer : Answer) (place : Place) → (went_by calibration state todo answer place).stopped ≡ place.stopped
stopped-went_by calibration state [] answer place = stopped-went_on calibration state place.left answer place
stopped-went_by calibration state (first ∷ todo) answer place = stopped-replied calibration state first todo answer place

-- No answer stops a session, or lets a stopped one go on.
pub stopped-went : (calibration : Calibration) (state : State) (answer : Answer) (place : Place) → (went calibration state answer place).stopped ≡ place.stopped
stopped-went calibration state answer place = stopped-went_by calibration state place.todo answer place

-- what a session knows and holds after an entry of its own
abbrev Knowing : ℕ → Shared → ℕ → Act → Answer → Place → Type 0
Knowing session shared seat act answer new =
    Knows (count_of (changed_by act answer shared.state)) new × AreFit new.left × (held_by session (cached_by seat act answer shared.cached).claimed ≡ owed new.todo)

went_first : (calibration : Calibration) (session : ℕ) (shared : Shared) (entry : Entry) (place : Place) (lines : List Line) → Knows (count_of shared.state) place → AreFit lines → held_by session shared.cached.claimed ≡ [] →
    IsClosed shared.state → first_act place lines ≡ Some entry.act → entry.answer ≡ answer_of shared entry.act →
    Knowing session shared entry.seat entry.act entry.answer (went_on calibration (after shared.state entry) lines entry.answer place)
went_first calibration session shared entry place [] knows fit holds closed is right = absurd (cc)
went_first calibration session shared entry place (line ∷ lines) knows fit holds closed is right =
    let now = after shared.state entry in
    let answer = entry.answer in
    let may = may_do shared session place line.command entry.act knows (first_fit line lines fit) is in
    let P : Answer → Type 0 = λ a. SaysBelow (count_of (changed_by entry.act a shared.state)) a in
    let says = subst P (sym right) (says-answer shared session entry.act closed may) in
    let told = knows-answered (count_of now) line answer place says (Knows-more (grows-changed_by entry.act answer shared.state) place knows) in
    let C : Cached → Type 0 = λ c. held_by session c.claimed ≡ owed (settled calibration now lines (answered line answer place)).todo in
    let same = same-versions entry.seat entry.act answer shared.cached (of_versions place line.command entry.act is) in (
      Keeps-knows (count_of now) (answered line answer place) (settled calibration now lines (answered line answer place)) (keeps-settled calibration now lines (answered line answer place)) told,
      fit-settled calibration now lines (answered line answer place) (others_fit line lines fit),
      subst C (sym same) (holds ∙ sym (owed-settled calibration now lines (answered line answer place))),
    )

went_replied : (calibration : Calibration) (session : ℕ) (shared : Shared) (entry : Entry) (place : Place) (first : Todo) (todo : List Todo) (reply : Reply) → Steady session shared place → place.todo ≡ first ∷ todo →
    entry.seat ≡ session → entry.act ≡ journal.Do (deed_of first) → entry.answer ≡ journal.Told reply → IsReply (deed_of first) reply →
    Knowing session shared entry.seat entry.act entry.answer (replied calibration (after shared.state entry) first todo entry.answer place)
went_replied calibration session shared entry place first todo reply steady at seat act answer may =
    let told : Place = record place { counts = counted (deed_of first) reply place.counts } in
    let turn = turned first reply todo in
    let new = with_todo calibration shared.state turn told in
    let E : ℕ → Act → Answer → Type 0 = λ k a x. Knowing session shared k a x (replied calibration (changed_by a x shared.state) first todo x place) in
    let known : Knows (count_of shared.state) told = record { version = steady.knows.version; bases = steady.knows.bases; going = steady.knows.going } in
    let own : E session (journal.Do (deed_of first)) (journal.Told reply) = (
      Keeps-knows (count_of shared.state) told new (keeps-with_todo calibration shared.state turn told) known,
      fit-with_todo calibration shared.state turn told steady.fit,
      own_keeps session shared.cached first todo reply may steady.once (steady.holds ∙ ap (λ t. owed t) at) ∙ sym (owed-with_todo calibration shared.state turn told),
    ) in
    subst (λ k. E k entry.act entry.answer) (sym seat) (subst (λ a. E session a entry.answer) (sym act) (subst (λ x. E session (journal.Do (deed_of first)) x) (sym answer) own))

went_todo : (calibration : Calibration) (session : ℕ) (shared : Shared) (entry : Entry) (place : Place) (todo : List Todo) → Steady session shared place → IsClosed shared.state → place.todo ≡ todo → entry.seat ≡ session →
    next_of todo (first_act place place.left) ≡ Some entry.act → entry.answer ≡ answer_of shared entry.act →
    Knowing session shared entry.seat entry.act entry.answer (went_by calibration (after shared.state entry) todo entry.answer place)
went_todo calibration session shared entry place [] steady closed at seat is right =
    went_first calibration session shared entry place place.left steady.knows steady.fit (steady.holds ∙ ap (λ t. owed t) at) closed is right
went_todo calibration session shared entry place (first ∷ todo) steady closed at seat is right =
    let act : entry.act ≡ journal.Do (deed_of first) = cc in
    went_replied calibration session shared entry place first todo (reply_of shared.cached (deed_of first)) steady at seat act
    (right ∙ ap (λ a. answer_of shared a) act) (reply_fits shared.cached (deed_of first))

-- After the answer to its next act a session is steady, and nearer to its end.
pub went_next : (calibration : Calibration) (session : ℕ) (shared : Shared) (entry : Entry) (place : Place) → Steady session shared place → IsClosed shared.state → entry.seat ≡ session → next place ≡ Some entry.act → entry.answer ≡ answer_of shared entry.act →
    let new = went calibration (after shared.state entry) entry.answer place in Steady session (shared_by shared entry) new × IsNearer new place
went_next calibration session shared entry place steady closed seat is right =
    let now = after shared.state entry in
    let knowing = went_todo calibration session shared entry place place.todo steady closed refl seat is right in
    let N : Answer → Type 0 = λ a. let new = went calibration now a place in Rests new × IsNearer new place in
    let near = subst N (sym right) (went_nears calibration now shared place entry.act steady.rests is) in
    (record { knows = knowing.0; rests = near.0; fit = knowing.1; holds = knowing.2; once = once-entry entry.seat entry.act entry.answer shared right steady.once }, near.1)

-- It is so where it begins
pub begin_knows : (calibration : Calibration) (session : ℕ) (start : State) (script : List Line) → Knows (count_of start) (begin calibration session start script)
begin_knows calibration session start script =
    Keeps-knows (count_of start) (entrance_of session) (begin calibration session start script) (keeps-settled calibration start script (entrance_of session)) (record { version = tt; bases = tt; going = refl })

-- What is shared at a start: its versions are known, and nothing is claimed.
pub record IsFresh (start : Shared) : Type 0 where
  pub closed : IsClosed start.state
  pub unclaimed : start.cached.claimed ≡ []

pub fresh : (models : List StartModel) (capacity : ℕ) → IsFresh (shared_of models capacity)
fresh models capacity = record { closed = start-closed models; unclaimed = refl }

pub begin_steady : (calibration : Calibration) (session : ℕ) (start : Shared) (script : List Line) → IsFresh start → AreFit script → Steady session start (begin calibration session start.state script)
begin_steady calibration session start script fresh fit = record {
  knows = begin_knows calibration session start.state script;
  rests = rests-settled calibration start.state script (entrance_of session);
  fit = fit-settled calibration start.state script (entrance_of session) fit;
  holds = ap (λ l. held_by session l) fresh.unclaimed ∙ sym (owed-settled calibration start.state script (entrance_of session));
  once = subst (λ l. AreOnce l) (sym fresh.unclaimed) tt;
}

-- over an entry of another seat,
pub steady_others : (session : ℕ) (shared : Shared) (entry : Entry) (place : Place) → Steady session shared place → May shared entry.seat entry.act → entry.answer ≡ answer_of shared entry.act → entry.seat ≢ session → Steady session (shared_by shared entry) place
steady_others session shared entry place steady may right ne = record {
  knows = Knows-more (grows-changed_by entry.act entry.answer shared.state) place steady.knows;
  rests = steady.rests;
  fit = steady.fit;
  holds = held-others session entry.seat entry.act entry.answer shared ne steady.once may ∙ steady.holds;
  once = once-entry entry.seat entry.act entry.answer shared right steady.once;
}

moved_on : (calibration : Calibration) (session : ℕ) (shared : Shared) (entry : Entry) (place : Place) → Steady session shared place → IsClosed shared.state → May shared entry.seat entry.act → entry.answer ≡ answer_of shared entry.act →
    (entry.seat ≡ session → next place ≡ Some entry.act) → Steady session (shared_by shared entry) (moved calibration session (after shared.state entry) entry place)
moved_on calibration session shared entry place steady closed may right follows =
    let now = after shared.state entry in
    elim (nat_eq entry.seat session) as (λ b. nat_eq entry.seat session ≡ b → Steady session (shared_by shared entry) (cond b (went calibration now entry.answer place) place)) [
      | true ↦ λ own. let seat = eqb-true entry.seat session own in (went_next calibration session shared entry place steady closed seat (follows seat) right).0
      | false ↦ λ other. steady_others session shared entry place steady may right (eqb-false entry.seat session other)
    ] refl

-- and along a legal journal.
pub walk_steady : (calibration : Calibration) (session : ℕ) (shared : Shared) (place : Place) (xs : List Entry) → Steady session shared place → IsClosed shared.state → IsLegal shared xs → Follows calibration session shared.state place xs →
    Steady session (shared_after shared xs) (walk calibration session shared.state place xs)
walk_steady calibration session shared place [] steady closed legal follows = steady
walk_steady calibration session shared place (x ∷ xs) steady closed legal follows =
    let now = after shared.state x in
    walk_steady calibration session (shared_by shared x) (moved calibration session now x place) xs (moved_on calibration session shared x place steady closed legal.0 legal.1 follows.0)
    (closed-changed_by x.seat x.act x.answer shared legal.0 closed) legal.2 follows.1

-- How a session stands at a place of its course over a legal journal.
pub running_steady : (calibration : Calibration) (session : ℕ) (start : Shared) (script : List Line) (xs : List Entry) (place : Place) → IsFresh start → AreFit script → IsLegal start xs → IsRunning calibration session start.state script xs place →
    Steady session (shared_after start xs) place
running_steady calibration session start script xs place fresh fit legal run =
    subst (λ (p : Place). Steady session (shared_after start xs) p) (sym run.reached)
    (walk_steady calibration session start (begin calibration session start.state script) xs (begin_steady calibration session start script fresh fit) fresh.closed legal run.follows)
