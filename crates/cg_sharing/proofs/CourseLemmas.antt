-- A course along a journal that grows, and what a session knows at each place of it.
use Rattle.std.proofs.Common.{◌≡◌, ◌≢◌, ℕ, suc, ◌<◌, ◌≤◌, true, false, cond, is_some, nat_eq, List, [], ◌∷◌, ◌++◌, length, refl, sym, ap, subst, ◌∙◌, arith, ne_eqb, eq-eqb, eqb-true, Option, Some, None, Result, Ok, Err, ltb-true, ℤ}
use Rattle.std.specs.Prelude.{nat_lt, bytes_eq, option_map}
use Rattle.cg_meaning.specs.Tree.{Name, Trees}
use Rattle.cg_meaning.specs.Scene.{Grid}
use Rattle.cg_sharing.specs.Edit.{Edit, EditFault, result_of}
use Rattle.cg_sharing.specs.Command as command
use Rattle.cg_sharing.specs.Command.{Command, Line}
use Rattle.cg_sharing.specs.Versions.{State, Head, count_of, head_of, parent_of, chronology_of}
use Rattle.cg_sharing.specs.Journal as journal
use Rattle.cg_sharing.specs.Journal.{Act, Answer, Entry, at_or, made_or, is_base, committed_or, answer_of, Shared, with_result, changed_by, after, state_after, shared_by, May, IsLegal, IsInOrder}
use Rattle.cg_sharing.specs.Course.{Calibration, Place, act_of, first_act, next, grid_of, with_grid, done_at, settled, entrance_of, begin, with_base, bases_after, answered, went_on, went, moved, walk, AreOthers, Follows, IsRunning, IsFit, AreFit}
use Rattle.cg_sharing.proofs.JournalLemmas.{IsBelow, AreBelow, IsClosed, IsBelow-more, AreBelow-more, head_of-below, parent_of-below, grows-changed_by, count_of-with_version, commit-known, closed-changed_by}

-- The entry of another seat leaves the place.
pub other_moves : (calibration : Calibration) (session : ℕ) (state : State) (entry : Entry) (place : Place) → entry.seat ≢ session → moved calibration session state entry place ≡ place
other_moves calibration session state entry place ne = rw (ne_eqb entry.seat session ne) refl

-- Its own moves it.
pub own_moves : (calibration : Calibration) (session : ℕ) (state : State) (entry : Entry) (place : Place) → entry.seat ≡ session → moved calibration session state entry place ≡ went calibration state entry.answer place
own_moves calibration session state entry place is = rw (eq-eqb entry.seat session is) refl

pub walk-append : (calibration : Calibration) (session : ℕ) (state : State) (place : Place) (xs ys : List Entry) → walk calibration session state place (xs ++ ys) ≡ walk calibration session (state_after state xs) (walk calibration session state place xs) ys
walk-append calibration session state place [] ys = refl
walk-append calibration session state place (x ∷ xs) ys = walk-append calibration session (after state x) (moved calibration session (after state x) x place) xs ys

pub Follows-append : (calibration : Calibration) (session : ℕ) (state : State) (place : Place) (xs ys : List Entry) → Follows calibration session state place xs →
    Follows calibration session (state_after state xs) (walk calibration session state place xs) ys → Follows calibration session state place (xs ++ ys)
Follows-append calibration session state place [] ys first then = then
Follows-append calibration session state place (x ∷ xs) ys first then = (first.0, Follows-append calibration session (after state x) (moved calibration session (after state x) x place) xs ys first.1 then)

-- Entries of other seats leave the place.
pub others_walk : (calibration : Calibration) (session : ℕ) (state : State) (place : Place) (xs : List Entry) → AreOthers session xs → walk calibration session state place xs ≡ place
others_walk calibration session state place [] others = refl
others_walk calibration session state place (x ∷ xs) others =
    ap (λ (q : Place). walk calibration session (after state x) q xs) (other_moves calibration session (after state x) x place others.0) ∙ others_walk calibration session (after state x) place xs others.1

pub others_follow : (calibration : Calibration) (session : ℕ) (state : State) (place : Place) (xs : List Entry) → AreOthers session xs → Follows calibration session state place xs
others_follow calibration session state place [] others = tt
others_follow calibration session state place (x ∷ xs) others = (
  (λ is. absurd (others.0 is)),
  subst (λ (q : Place). Follows calibration session (after state x) q xs) (sym (other_moves calibration session (after state x) x place others.0)) (others_follow calibration session (after state x) place xs others.1),
)

-- A course goes on over entries of other seats.
pub running-others : (calibration : Calibration) (session : ℕ) (start : State) (script : List Line) (xs ys : List Entry) (place : Place) → IsRunning calibration session start script xs place → AreOthers session ys → IsRunning calibration session start script (xs ++ ys) place
running-others calibration session start script xs ys place run others = let first = begin calibration session start script in record {
  follows = Follows-append calibration session start first xs ys run.follows (others_follow calibration session (state_after start xs) (walk calibration session start first xs) ys others);
  reached = run.reached ∙ sym (walk-append calibration session start first xs ys ∙ others_walk calibration session (state_after start xs) (walk calibration session start first xs) ys others);
}

-- It goes on over the answer to its next act.
pub running-own : (calibration : Calibration) (session : ℕ) (start : State) (script : List Line) (xs : List Entry) (entry : Entry) (place : Place) → IsRunning calibration session start script xs place → entry.seat ≡ session → next place ≡ Some entry.act →
    IsRunning calibration session start script (xs ++ entry ∷ []) (went calibration (after (state_after start xs) entry) entry.answer place)
running-own calibration session start script xs entry place run own act =
    let first = begin calibration session start script in
    let state = state_after start xs in
    let step = own_moves calibration session (after state entry) entry place own in
    record {
      follows = Follows-append calibration session start first xs (entry ∷ []) run.follows (subst (λ (q : Place). Follows calibration session state q (entry ∷ [])) run.reached ((λ _. act), tt));
      reached = sym step ∙ ap (λ (q : Place). moved calibration session (after state entry) entry q) run.reached ∙ sym (walk-append calibration session start first xs (entry ∷ []));
    }

-- What a place says of versions is known, and want of memory hasn't come.
pub record Knows (count : ℕ) (place : Place) : Type 0 where
  pub version : IsBelow count place.version
  pub bases : AreBelow count place.bases
  pub going : place.stopped ≡ false

pub Knows-more : {m n : ℕ} → m ≤ n → (place : Place) → Knows m place → Knows n place
Knows-more le place knows = record { version = IsBelow-more le place.version knows.version; bases = AreBelow-more le place.bases knows.bases; going = knows.going }

-- A place is at rest: it has a next act, or no line is left; and the changes that are left are in order.
pub record Rests (place : Place) : Type 0 where
  pub ends : next place ≡ None → place.left ≡ []
  pub fit : AreFit place.left

-- a place that differs in its lines, its text and its grid alone
pub record Keeps (old new : Place) : Type 0 where
  pub version : new.version ≡ old.version
  pub bases : new.bases ≡ old.bases
  pub stopped : new.stopped ≡ old.stopped

pub Keeps-knows : (count : ℕ) (old new : Place) → Keeps old new → Knows count old → Knows count new
Keeps-knows count old new keeps knows = record {
  version = subst (λ v. IsBelow count v) (sym keeps.version) knows.version;
  bases = subst (λ v. AreBelow count v) (sym keeps.bases) knows.bases;
  going = keeps.stopped ∙ knows.going;
}

keeps_with_grid : (number : ℕ) (grid : Result Grid ℤ) (place : Place) → Keeps place (with_grid number grid place)
keeps_with_grid number (Ok grid) place = record { version = refl; bases = refl; stopped = refl }
keeps_with_grid number (Err cells) place = record { version = refl; bases = refl; stopped = refl }

-- a command that makes no act keeps them
pub keeps-done_at : (calibration : Calibration) (state : State) (number : ℕ) (c : Command) (place : Place) → Keeps place (done_at calibration state number c place)
keeps-done_at calibration state number (command.Grid older younger) place = keeps_with_grid number (grid_of older younger) place
keeps-done_at calibration state number (command.Print name) place = record { version = refl; bases = refl; stopped = refl }
keeps-done_at calibration state number (command.Ranges name) place = record { version = refl; bases = refl; stopped = refl }
keeps-done_at calibration state number command.Model place = record { version = refl; bases = refl; stopped = refl }
keeps-done_at calibration state number command.Work place = record { version = refl; bases = refl; stopped = refl }
keeps-done_at calibration state number other place = record { version = refl; bases = refl; stopped = refl }

-- and so do the commands up to the next act
pub keeps-settled : (calibration : Calibration) (state : State) (lines : List Line) (place : Place) → Keeps place (settled calibration state lines place)
keeps-settled calibration state [] place = record { version = refl; bases = refl; stopped = refl }
keeps-settled calibration state (line ∷ lines) place =
    let step = keeps-done_at calibration state line.number line.command place in
    let later = keeps-settled calibration state lines (done_at calibration state line.number line.command place) in
    elim (is_some (act_of place line.command)) as (λ b. Keeps place (cond b (record place { left = line ∷ lines }) (settled calibration state lines (done_at calibration state line.number line.command place)))) [
      | true ↦ record { version = refl; bases = refl; stopped = refl }
      | false ↦ record { version = later.version ∙ step.version; bases = later.bases ∙ step.bases; stopped = later.stopped ∙ step.stopped }
    ]

-- no line comes back
pub length-settled : (calibration : Calibration) (state : State) (lines : List Line) (place : Place) → length (settled calibration state lines place).left ≤ length lines
length-settled calibration state [] place = omega arith
length-settled calibration state (line ∷ lines) place =
    let later = length-settled calibration state lines (done_at calibration state line.number line.command place) in
    elim (is_some (act_of place line.command)) as (λ b. length (cond b (record place { left = line ∷ lines }) (settled calibration state lines (done_at calibration state line.number line.command place))).left ≤ length (line ∷ lines)) [
      | true ↦ omega arith
      | false ↦ omega (arith, later)
    ]

-- the lines that are left don't matter to an act
pub act_of-left : (c : Command) (place : Place) (lines : List Line) → act_of (record place { left = lines }) c ≡ act_of place c
act_of-left (command.Grid older younger) place lines = refl
act_of-left (command.Open name) place lines = refl
act_of-left (command.Take version) place lines = refl
act_of-left command.Undo place lines = refl
act_of-left (command.Change edit) place lines = refl
act_of-left (command.Commit name) place lines = refl
act_of-left (command.Print name) place lines = refl
act_of-left (command.Ranges name) place lines = refl
act_of-left command.Model place lines = refl
act_of-left command.Work place lines = refl

first_fit : (line : Line) (lines : List Line) → AreFit (line ∷ lines) → IsFit line.command
first_fit line lines fit = fit 0 line (omega arith)

others_fit : (line : Line) (lines : List Line) → AreFit (line ∷ lines) → AreFit lines
others_fit line lines fit = λ i d within. fit (suc i) d (omega arith)

not_none : {A : Type 0} (o : Option A) → is_some o ≡ true → o ≡ None → ⊥
not_none None some none = cc
not_none (Some x) some none = cc

-- a place is at rest once it is settled
pub rests-settled : (calibration : Calibration) (state : State) (lines : List Line) (place : Place) → AreFit lines → Rests (settled calibration state lines place)
rests-settled calibration state [] place fit = record { ends = λ _. refl; fit = fit }
rests-settled calibration state (line ∷ lines) place fit =
    let later = rests-settled calibration state lines (done_at calibration state line.number line.command place) (others_fit line lines fit) in
    elim (is_some (act_of place line.command)) as (λ b. is_some (act_of place line.command) ≡ b → Rests (cond b (record place { left = line ∷ lines }) (settled calibration state lines (done_at calibration state line.number line.command place)))) [
      | true ↦ λ some. record { ends = λ none. absurd (not_none (act_of place line.command) some (sym (act_of-left line.command place (line ∷ lines)) ∙ none)); fit = fit }
      | false ↦ λ _. later
    ] refl

-- the act of a version that is known, if there is one
may_on : (shared : Shared) (seat : ℕ) (to : ℕ → Act) (version : Option ℕ) (act : Act) → ((v : ℕ) → v < count_of shared.state → May shared seat (to v)) → IsBelow (count_of shared.state) version → option_map to version ≡ Some act → May shared seat act
may_on shared seat to None act may below is = absurd (cc)
may_on shared seat to (Some v) act may below is = let same : to v ≡ act = cc in subst (λ a. May shared seat a) same (may v below)

may_commit : (shared : Shared) (seat : ℕ) (name : Name) (base : Option ℕ) (version : ℕ) → IsBelow (count_of shared.state) base → version < count_of shared.state → May shared seat (journal.Commit name base version)
may_commit shared seat name None version base known = known
may_commit shared seat name (Some b) version base known = (base, known)

-- a session may make each act of its commands
may_do : (shared : Shared) (seat : ℕ) (place : Place) (c : Command) (act : Act) → Knows (count_of shared.state) place → IsFit c → act_of place c ≡ Some act → May shared seat act
may_do shared seat place (command.Grid older younger) act knows fit is = absurd (cc)
may_do shared seat place (command.Open name) act knows fit is = let same : journal.Head name ≡ act = cc in subst (λ a. May shared seat a) same tt
may_do shared seat place (command.Take version) act knows fit is = let same : journal.Take version ≡ act = cc in subst (λ a. May shared seat a) same tt
may_do shared seat place command.Undo act knows fit is = may_on shared seat (λ v. journal.Undo v) place.version act (λ v known. known) knows.version is
may_do shared seat place (command.Change edit) act knows fit is = may_on shared seat (λ v. journal.Change v edit) place.version act (λ v known. (known, fit)) knows.version is
may_do shared seat place (command.Commit name) act knows fit is =
    let base = head_of name place.bases in
    may_on shared seat (λ v. journal.Commit name base v) place.version act (λ v known. may_commit shared seat name base v (head_of-below (count_of shared.state) name place.bases knows.bases) known) knows.version is
may_do shared seat place (command.Print name) act knows fit is = absurd (cc)
may_do shared seat place (command.Ranges name) act knows fit is = absurd (cc)
may_do shared seat place command.Model act knows fit is = absurd (cc)
may_do shared seat place command.Work act knows fit is = absurd (cc)

may_first : (shared : Shared) (seat : ℕ) (place : Place) (lines : List Line) (act : Act) → Knows (count_of shared.state) place → AreFit lines → first_act place lines ≡ Some act → May shared seat act
may_first shared seat place [] act knows fit is = absurd (cc)
may_first shared seat place (line ∷ lines) act knows fit is = may_do shared seat place line.command act knows (first_fit line lines fit) is

-- and so its next one
pub may_next : (shared : Shared) (seat : ℕ) (place : Place) (act : Act) → Knows (count_of shared.state) place → AreFit place.left → next place ≡ Some act → May shared seat act
may_next shared seat place act knows fit is = may_first shared seat place place.left act knows fit is

-- the version that an answer names is known
abbrev pub SaysBelow : ℕ → Answer → Type 0
SaysBelow count (journal.At version) = version < count
SaysBelow count (journal.Made version) = version < count
SaysBelow count (journal.Committed version) = version < count
SaysBelow count other = Unit {0}

says-more : {m n : ℕ} → m ≤ n → (answer : Answer) → SaysBelow m answer → SaysBelow n answer
says-more le (journal.At version) says = omega arith
says-more le (journal.Made version) says = omega arith
says-more le (journal.Committed version) says = omega arith
says-more le other says = tt

says-at : (count : ℕ) (other : Answer) (version : Option ℕ) → SaysBelow count other → IsBelow count version → SaysBelow count (at_or other version)
says-at count other None says below = says
says-at count other (Some version) says below = below

says-committed : (count : ℕ) (base : Option ℕ) (version : ℕ) (head : Option ℕ) → version < count → SaysBelow count (committed_or base version head)
says-committed count base version None known = tt
says-committed count None version (Some head) known = tt
says-committed count (Some b) version (Some head) known =
    elim (nat_eq b head) as (λ e. SaysBelow count (cond e (journal.Committed version) (journal.Moved head))) [ true ↦ known | false ↦ tt ]

says-change : (state : State) (version : ℕ) (edit : Edit) (result : Result Trees EditFault) → result_of edit (chronology_of state version).top ≡ result →
    SaysBelow (count_of (changed_by (journal.Change version edit) (made_or (count_of state) result) state)) (made_or (count_of state) result)
says-change state version edit (Err fault) is = tt
says-change state version edit (Ok top) is =
    let P : Result Trees EditFault → Type 0 = λ r. count_of state < count_of (with_result version r state) in
    subst P (sym is) (omega (arith, count_of-with_version version top state))

-- after a legal entry
pub says-answer : (shared : Shared) (seat : ℕ) (act : Act) → IsClosed shared.state → May shared seat act →
    SaysBelow (count_of (changed_by act (answer_of shared act) shared.state)) (answer_of shared act)
says-answer shared seat (journal.Head name) closed may = says-at (count_of shared.state) journal.NoModel (head_of name shared.state.heads) tt (head_of-below (count_of shared.state) name shared.state.heads closed.heads)
says-answer shared seat (journal.Take version) closed may =
    elim (nat_lt version (count_of shared.state)) as (λ b. nat_lt version (count_of shared.state) ≡ b → SaysBelow (count_of shared.state) (cond b (journal.At version) (journal.NoVersion (count_of shared.state)))) [
      | true ↦ λ is. ltb-true version (count_of shared.state) is
      | false ↦ λ _. tt
    ] refl
says-answer shared seat (journal.Undo version) closed may = says-at (count_of shared.state) journal.NoParent (parent_of shared.state version) tt (parent_of-below (count_of shared.state) shared.state.versions version closed.parents)
says-answer shared seat (journal.Change version edit) closed may = says-change shared.state version edit (result_of edit (chronology_of shared.state version).top) refl
says-answer shared seat (journal.Commit name base version) closed may =
    says-more (grows-changed_by (journal.Commit name base version) (answer_of shared (journal.Commit name base version)) shared.state) (answer_of shared (journal.Commit name base version))
    (says-committed (count_of shared.state) base version (head_of name shared.state.heads) (commit-known shared seat name base version may))
says-answer shared seat (journal.Do deed) closed may = tt

with_base-below : (count : ℕ) (name : Name) (version : ℕ) (bases : List Head) → version < count → AreBelow count bases → AreBelow count (with_base name version bases)
with_base-below count name version [] known below = (known, tt)
with_base-below count name version (base ∷ bases) known below =
    elim (bytes_eq name base.name) as (λ b. AreBelow count (cond b (record base { version = version } ∷ bases) (base ∷ with_base name version bases))) [
      | true ↦ (known, below.1)
      | false ↦ (below.0, with_base-below count name version bases known below.1)
    ]

bases_after-below : (count : ℕ) (c : Command) (version : ℕ) (bases : List Head) → version < count → AreBelow count bases → AreBelow count (bases_after c version bases)
bases_after-below count (command.Open name) version bases known below = with_base-below count name version bases known below
bases_after-below count (command.Commit name) version bases known below = with_base-below count name version bases known below
bases_after-below count other version bases known below = below

-- a session knows what it is told
knows-answered : (count : ℕ) (line : Line) (answer : Answer) (place : Place) → SaysBelow count answer → Knows count place → Knows count (answered line answer place)
knows-answered count line (journal.At version) place says knows = record { version = says; bases = bases_after-below count line.command version place.bases says knows.bases; going = knows.going }
knows-answered count line (journal.Made version) place says knows = record { version = says; bases = knows.bases; going = knows.going }
knows-answered count line (journal.Committed version) place says knows = record { version = knows.version; bases = bases_after-below count line.command version place.bases says knows.bases; going = knows.going }
knows-answered count line other place says knows = record { version = knows.version; bases = knows.bases; going = knows.going }

went_first : (calibration : Calibration) (shared : Shared) (seat : ℕ) (place : Place) (lines : List Line) (act : Act) (answer : Answer) → Knows (count_of shared.state) place → AreFit lines → IsClosed shared.state → first_act place lines ≡ Some act →
    answer ≡ answer_of shared act → let now = changed_by act answer shared.state in let new = went_on calibration now lines answer place in Knows (count_of now) new × Rests new × (length new.left < length lines)
went_first calibration shared seat place [] act answer knows fit closed is right = absurd (cc)
went_first calibration shared seat place (line ∷ lines) act answer knows fit closed is right =
    let now = changed_by act answer shared.state in
    let may = may_do shared seat place line.command act knows (first_fit line lines fit) is in
    let P : Answer → Type 0 = λ a. SaysBelow (count_of (changed_by act a shared.state)) a in
    let says = subst P (sym right) (says-answer shared seat act closed may) in
    let told = knows-answered (count_of now) line answer place says (Knows-more (grows-changed_by act answer shared.state) place knows) in (
      Keeps-knows (count_of now) (answered line answer place) (settled calibration now lines (answered line answer place)) (keeps-settled calibration now lines (answered line answer place)) told,
      rests-settled calibration now lines (answered line answer place) (others_fit line lines fit),
      omega (arith, length-settled calibration now lines (answered line answer place)),
    )

-- After the answer to its next act a session knows its versions and is at rest, with fewer lines left.
pub went_next : (calibration : Calibration) (shared : Shared) (seat : ℕ) (place : Place) (act : Act) (answer : Answer) → Knows (count_of shared.state) place → Rests place → IsClosed shared.state → next place ≡ Some act → answer ≡ answer_of shared act →
    let now = changed_by act answer shared.state in let new = went calibration now answer place in Knows (count_of now) new × Rests new × (length new.left < length place.left)
went_next calibration shared seat place act answer knows rests closed is right = went_first calibration shared seat place place.left act answer knows rests.fit closed is right

-- It does where it begins
pub begin_knows : (calibration : Calibration) (session : ℕ) (start : State) (script : List Line) → Knows (count_of start) (begin calibration session start script)
begin_knows calibration session start script =
    Keeps-knows (count_of start) (entrance_of session) (begin calibration session start script) (keeps-settled calibration start script (entrance_of session)) (record { version = tt; bases = tt; going = refl })

moved_on : (calibration : Calibration) (session : ℕ) (shared : Shared) (entry : Entry) (place : Place) → Knows (count_of shared.state) place → Rests place → IsClosed shared.state → May shared entry.seat entry.act → entry.answer ≡ answer_of shared entry.act →
    (entry.seat ≡ session → next place ≡ Some entry.act) → Knows (count_of (after shared.state entry)) (moved calibration session (after shared.state entry) entry place) × Rests (moved calibration session (after shared.state entry) entry place)
moved_on calibration session shared entry place knows rests closed may right follows =
    let now = after shared.state entry in
    elim (nat_eq entry.seat session) as (λ b. nat_eq entry.seat session ≡ b → let new = cond b (went calibration now entry.answer place) place in Knows (count_of now) new × Rests new) [
      | true ↦ λ own. let new = went_next calibration shared entry.seat place entry.act entry.answer knows rests closed (follows (eqb-true entry.seat session own)) right in (new.0, new.1)
      | false ↦ λ _. (Knows-more (grows-changed_by entry.act entry.answer shared.state) place knows, rests)
    ] refl

-- and along a legal journal.
pub walk_knows : (calibration : Calibration) (session : ℕ) (shared : Shared) (place : Place) (xs : List Entry) → Knows (count_of shared.state) place → Rests place → IsClosed shared.state → IsLegal shared xs → Follows calibration session shared.state place xs →
    Knows (count_of (state_after shared.state xs)) (walk calibration session shared.state place xs) × Rests (walk calibration session shared.state place xs)
walk_knows calibration session shared place [] knows rests closed legal follows = (knows, rests)
walk_knows calibration session shared place (x ∷ xs) knows rests closed legal follows =
    let now = after shared.state x in
    let new = moved_on calibration session shared x place knows rests closed legal.0 legal.1 follows.0 in
    walk_knows calibration session (shared_by shared x) (moved calibration session now x place) xs new.0 new.1 (closed-changed_by x.seat x.act x.answer shared legal.0 closed) legal.2 follows.1

-- What a session knows at a place of its course over a legal journal.
pub running_knows : (calibration : Calibration) (session : ℕ) (start : Shared) (script : List Line) (xs : List Entry) (place : Place) → IsClosed start.state → AreFit script → IsLegal start xs → IsRunning calibration session start.state script xs place →
    Knows (count_of (state_after start.state xs)) place × Rests place
running_knows calibration session start script xs place closed fit legal run =
    let P : Place → Type 0 = λ p. Knows (count_of (state_after start.state xs)) p × Rests p in
    subst P (sym run.reached) (walk_knows calibration session start (begin calibration session start.state script) xs (begin_knows calibration session start.state script) (rests-settled calibration start.state script (entrance_of session) fit) closed legal run.follows)
