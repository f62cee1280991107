-- A session that want of memory stops gives all its claims back, the newest first.
use Rattle.std.proofs.Common.{◌≡◌, ◌≢◌, inl, inr, ℕ, ◌+◌, ◌<◌, true, false, cond, nat_eq, List, [], ◌∷◌, ◌++◌, map, take, drop, length, refl, sym, ap, subst, ◌∙◌, arith, append_assoc, append-nil, eqb-true, Option, Some, None}
use Rattle.std.proofs.lemmas.Bool.{eqb-false}
use Rattle.std.proofs.lemmas.List.Elements.{All-take}
use Rattle.cg_cache.specs.Deeds.{reply_of}
use Rattle.cg_walk.specs.Walk.{Todo, Want, Owe, Return, deed_of, owed, returns}
use Rattle.cg_walk.proofs.WalkLemmas.{owed-returns}
use Rattle.cg_sharing.specs.Command.{Line}
use Rattle.cg_sharing.specs.Versions.{State}
use Rattle.cg_sharing.specs.Journal as journal
use Rattle.cg_sharing.specs.Journal.{Act, Answer, Entry, Shared, answer_of, after, state_after, shared_by, shared_after, cached_by, May, IsLegal}
use Rattle.cg_courses.specs.Pieces.{Piece}
use Rattle.cg_courses.specs.Course.{Calibration, Place, first_act, next_of, next, with_piece, counted, finished, with_todo, went_by, went, moved, IsFit, walk, AreOthers, Follows, IsRunning, Reaches, IsGetting, IsStopped, IsCourse, IsPrintAtMost, stopped_at, AreFit}
use Rattle.cg_sharing.proofs.JournalLemmas.{state-shared_after, state_after-append, shared_after-append, IsLegal-front}
use Rattle.cg_courses.proofs.HeldLemmas.{held_by, AreOnce, own_keeps, may_do_next, reply_fits}
use Rattle.cg_courses.proofs.CourseLemmas.{own_moves, walk-append, Follows-append, others_walk, others_follow, held-others, once-entry, IsFresh, may_next, running_steady}

-- what comes later in a legal journal is legal from there on
pub IsLegal-later : (shared : Shared) (xs ys : List Entry) → IsLegal shared (xs ++ ys) → IsLegal (shared_after shared xs) ys
IsLegal-later shared [] ys legal = legal
IsLegal-later shared (x ∷ xs) ys legal = IsLegal-later (shared_by shared x) xs ys legal.2

-- all that is to be done is to give claims back
abbrev pub AreReturns : List Todo → Type 0
AreReturns [] = Unit {0}
AreReturns (Want code parts ∷ todo) = ⊥
AreReturns (Owe code ∷ todo) = ⊥
AreReturns (Return code ∷ todo) = AreReturns todo

pub returns_are : (todo : List Todo) → AreReturns (returns todo)
returns_are todo = of_codes (owed todo)
  where
    of_codes : (codes : List (List ℕ)) → AreReturns (map (λ code. Return code) codes)
    of_codes [] = tt
    of_codes (code ∷ codes) = of_codes codes

-- How a stopped session stands: it has no line left, gives claims back, and its seat has no others.
pub record Returning (session : ℕ) (shared : Shared) (place : Place) : Type 0 where
  pub left : place.left ≡ []
  pub stopped : place.stopped ≡ true
  pub todo : AreReturns place.todo
  pub holds : held_by session shared.cached.claimed ≡ owed place.todo
  pub once : AreOnce shared.cached.claimed

-- It does so where it is stopped.
pub stopped_returns : (session : ℕ) (shared : Shared) (place : Place) → held_by session shared.cached.claimed ≡ owed place.todo → AreOnce shared.cached.claimed → Returning session shared (stopped_at place)
stopped_returns session shared place holds once =
    record { left = refl; stopped = refl; todo = returns_are place.todo; holds = holds ∙ sym (owed-returns place.todo); once = once }

may_return : (session : ℕ) (shared : Shared) (todo : List Todo) (act : Option Act) (made : Act) → AreOnce shared.cached.claimed → held_by session shared.cached.claimed ≡ owed todo → act ≡ None → next_of todo act ≡ Some made → May shared session made
may_return session shared [] act made once holds none is = absurd (let same = sym none ∙ is in cc)
may_return session shared (first ∷ todo) act made once holds none is =
    let same : journal.Do (deed_of first) ≡ made = cc in subst (λ a. May shared session a) same (may_do_next session shared.cached first todo once holds)

-- It may give back the next one.
pub may_give_back : (session : ℕ) (shared : Shared) (place : Place) (act : Act) → Returning session shared place → next place ≡ Some act → May shared session act
may_give_back session shared place act stands is =
    may_return session shared place.todo (first_act place place.left) act stands.once stands.holds (ap (λ lines. first_act place lines) stands.left) is

-- what is to be done after a return, and then no line
abbrev Gives : Calibration → ℕ → Shared → Entry → List Todo → Place → Type 0
Gives calibration session shared entry todo old = let new = went calibration (after shared.state entry) entry.answer old in
    Returning session (shared_by shared entry) new × (new.todo ≡ todo) × (new.written ≡ old.written)

todo_none : (calibration : Calibration) (state : State) (todo : List Todo) (place : Place) → place.left ≡ [] → with_todo calibration state todo place ≡ record place { todo = todo }
todo_none calibration state [] place left = ap (λ lines. finished calibration state lines (record place { todo = [] })) left
todo_none calibration state (first ∷ todo) place left = refl

gives_todo : (calibration : Calibration) (session : ℕ) (shared : Shared) (entry : Entry) (place : Place) (todo : List Todo) → Returning session shared place → place.todo ≡ todo → entry.seat ≡ session →
    next_of todo (first_act place place.left) ≡ Some entry.act → entry.answer ≡ answer_of shared entry.act →
    (code : List ℕ) × (more : List Todo) × (todo ≡ Return code ∷ more) × (entry.act ≡ journal.Do (deed_of (Return code))) × Gives calibration session shared entry more place
gives_todo calibration session shared entry place [] stands at seat is right = absurd (let none = sym (ap (λ lines. first_act place lines) stands.left) ∙ is in cc)
gives_todo calibration session shared entry place (Want code parts ∷ todo) stands at seat is right = absurd (let P : List Todo → Type 0 = λ t. AreReturns t in subst P at stands.todo)
gives_todo calibration session shared entry place (Owe code ∷ todo) stands at seat is right = absurd (let P : List Todo → Type 0 = λ t. AreReturns t in subst P at stands.todo)
gives_todo calibration session shared entry place (Return code ∷ todo) stands at seat is right =
    let act : entry.act ≡ journal.Do (deed_of (Return code)) = cc in
    let reply = reply_of shared.cached (deed_of (Return code)) in
    let answer : entry.answer ≡ journal.Told reply = right ∙ ap (λ a. answer_of shared a) act in
    let told : Place = record place { counts = counted (deed_of (Return code)) reply place.counts } in
    let R : List Todo → Type 0 = λ t. AreReturns t in
    let goes : went calibration (after shared.state entry) entry.answer place ≡ record told { todo = todo } =
    ap (λ a. went calibration (after shared.state entry) a place) answer ∙ ap (λ t. went_by calibration (after shared.state entry) t (journal.Told reply) place) at ∙ todo_none calibration (after shared.state entry) todo told stands.left in
    let kept : held_by session (cached_by session (journal.Do (deed_of (Return code))) (journal.Told reply) shared.cached).claimed ≡ owed todo =
    own_keeps session shared.cached (Return code) todo reply (reply_fits shared.cached (deed_of (Return code))) stands.once (stands.holds ∙ ap (λ t. owed t) at) in
    let K : ℕ → Act → Answer → Type 0 = λ k a x. held_by session (cached_by k a x shared.cached).claimed ≡ owed todo in
    let holds = subst (λ k. K k entry.act entry.answer) (sym seat) (subst (λ a. K session a entry.answer) (sym act) (subst (λ x. K session (journal.Do (deed_of (Return code))) x) (sym answer) kept)) in
    let N : Place → Type 0 = λ q. Returning session (shared_by shared entry) q × (q.todo ≡ todo) × (q.written ≡ place.written) in
    (code, todo, refl, act, subst N (sym goes) (record { left = stands.left; stopped = stands.stopped; todo = subst R at stands.todo; holds = holds; once = once-entry entry.seat entry.act entry.answer shared right stands.once }, refl, refl))

-- Its next act gives back the newest claim, and it goes on with the others; it writes nothing.
pub gives_back : (calibration : Calibration) (session : ℕ) (shared : Shared) (entry : Entry) (place : Place) → Returning session shared place → entry.seat ≡ session → next place ≡ Some entry.act → entry.answer ≡ answer_of shared entry.act →
    (code : List ℕ) × (more : List Todo) × (place.todo ≡ Return code ∷ more) × (entry.act ≡ journal.Do (deed_of (Return code))) × Gives calibration session shared entry more place
gives_back calibration session shared entry place stands seat is right = gives_todo calibration session shared entry place place.todo stands refl seat is right

-- Where there is no next act nothing is to be done.
pub none_left : (todo : List Todo) (act : Option Act) → next_of todo act ≡ None → todo ≡ []
none_left [] act none = refl
none_left (first ∷ todo) act none = absurd (cc)

-- At its end it has none.
pub all_given : (session : ℕ) (shared : Shared) (place : Place) → Returning session shared place → next place ≡ None → (place.todo ≡ []) × (held_by session shared.cached.claimed ≡ [])
all_given session shared place stands none =
    let done = none_left place.todo (first_act place place.left) none in (done, stands.holds ∙ ap (λ t. owed t) done)

-- Entries of other seats leave it so.
pub others_return : (session : ℕ) (shared : Shared) (entry : Entry) (place : Place) → Returning session shared place → May shared entry.seat entry.act → entry.answer ≡ answer_of shared entry.act → entry.seat ≢ session →
    Returning session (shared_by shared entry) place
others_return session shared entry place stands may right ne = record {
  left = stands.left;
  stopped = stands.stopped;
  todo = stands.todo;
  holds = held-others session entry.seat entry.act entry.answer shared ne stands.once may ∙ stands.holds;
  once = once-entry entry.seat entry.act entry.answer shared right stands.once;
}

-- along a legal journal
pub walk_returns : (calibration : Calibration) (session : ℕ) (shared : Shared) (place : Place) (xs : List Entry) → Returning session shared place → IsLegal shared xs → Follows calibration session shared.state place xs →
    Returning session (shared_after shared xs) (walk calibration session shared.state place xs)
walk_returns calibration session shared place [] stands legal follows = stands
walk_returns calibration session shared place (x ∷ xs) stands legal follows =
    let now = after shared.state x in
    walk_returns calibration session (shared_by shared x) (moved calibration session now x place) xs
    (elim (nat_eq x.seat session) as (λ b. nat_eq x.seat session ≡ b → Returning session (shared_by shared x) (cond b (went calibration now x.answer place) place)) [
      | true ↦ λ own. (gives_back calibration session shared x place stands (eqb-true x.seat session own) (follows.0 (eqb-true x.seat session own)) legal.1).4.0
      | false ↦ λ other. others_return session shared x place stands legal.0 legal.1 (eqb-false x.seat session other)
    ] refl) legal.2 follows.1

-- Want of memory stops a session where it is in its course: before a print of what it has written, or before its next line.
pub stop_begins : (calibration : Calibration) (session : ℕ) (start : State) (script : List Line) (xs : List Entry) (commands : ℕ) (last : Place) (told missed : List Piece) → IsRunning calibration session start (take commands script) xs last →
    last.written ≡ told ++ missed → IsPrintAtMost missed → 0 < length last.left + length (drop commands script) + length missed → IsStopped calibration session start script xs (stopped_at (record last { written = told }))
stop_begins calibration session start script xs commands last told missed run written few some = record {
  commands = commands;
  earlier = xs;
  later = [];
  last = last;
  told = told;
  missed = missed;
  running = run;
  written = written;
  few = few;
  unfinished = some;
  follows = tt;
  reached = refl;
  all = sym (append-nil xs);
}

-- the course of the lines that are done
reached_here : (calibration : Calibration) (session : ℕ) (start : State) (did script : List Line) (xs : List Entry) (commands : ℕ) (p : Place) → take commands script ≡ did → Reaches calibration session start did xs p →
    IsRunning calibration session start (take commands script) xs (record p { left = []; todo = [] })
reached_here calibration session start did script xs commands p is reach =
    let P : List Line → Type 0 = λ lines. IsRunning calibration session start lines xs (record p { left = []; todo = [] }) in
    subst P (append-nil did ∙ sym is) (reach [])

-- so between two of its lines,
pub stop_reached : (calibration : Calibration) (session : ℕ) (start : State) (did script : List Line) (xs : List Entry) (commands : ℕ) (p : Place) → take commands script ≡ did → Reaches calibration session start did xs p →
    0 < length (drop commands script) → IsStopped calibration session start script xs (stopped_at (record p { todo = [] }))
stop_reached calibration session start did script xs commands p is reach some =
    let last : Place = record p { left = []; todo = [] } in
    stop_begins calibration session start script xs commands last p.written [] (reached_here calibration session start did script xs commands p is reach) (sym (append-nil p.written)) tt (omega arith)

-- before the print that the last of them tells,
pub stop_missed : (calibration : Calibration) (session : ℕ) (start : State) (did script : List Line) (xs : List Entry) (commands : ℕ) (p : Place) (piece : Piece) → take commands script ≡ did → IsPrintAtMost (piece ∷ []) →
    Reaches calibration session start did xs (with_piece piece p) → IsStopped calibration session start script xs (stopped_at (record p { todo = [] }))
stop_missed calibration session start did script xs commands p piece is few reach =
    let last : Place = record (with_piece piece p) { left = []; todo = [] } in
    stop_begins calibration session start script xs commands last p.written (piece ∷ []) (reached_here calibration session start did script xs commands (with_piece piece p) is reach) refl few (omega arith)

-- and while it gets messages.
pub stop_getting : (calibration : Calibration) (session : ℕ) (start : State) (did script : List Line) (line : Line) (xs : List Entry) (commands : ℕ) (p : Place) (todo : List Todo) → take commands script ≡ did ++ line ∷ [] →
    IsGetting calibration session start did line xs p todo → IsStopped calibration session start script xs (stopped_at (record p { todo = todo }))
stop_getting calibration session start did script line xs commands p todo is getting =
    let last : Place = record p { left = line ∷ []; todo = todo } in
    let R : List Line → Type 0 = λ lines. IsRunning calibration session start lines xs last in
    stop_begins calibration session start script xs commands last p.written [] (subst R (sym is) (getting [])) (sym (append-nil p.written)) tt (omega arith)

-- Its course goes on over entries of other seats,
pub stop_others : (calibration : Calibration) (session : ℕ) (start : State) (script : List Line) (xs ys : List Entry) (place : Place) → IsStopped calibration session start script xs place → AreOthers session ys → IsStopped calibration session start script (xs ++ ys) place
stop_others calibration session start script xs ys place stop others =
    let state = state_after start stop.earlier in
    let first = stopped_at (record stop.last { written = stop.told }) in
    let now = walk calibration session state first stop.later in
    record {
      commands = stop.commands;
      earlier = stop.earlier;
      later = stop.later ++ ys;
      last = stop.last;
      told = stop.told;
      missed = stop.missed;
      running = stop.running;
      written = stop.written;
      few = stop.few;
      unfinished = stop.unfinished;
      follows = Follows-append calibration session state first stop.later ys stop.follows (others_follow calibration session (state_after state stop.later) now ys others);
      reached = stop.reached ∙ sym (walk-append calibration session state first stop.later ys ∙ others_walk calibration session (state_after state stop.later) now ys others);
      all = ap (λ l. l ++ ys) stop.all ∙ append_assoc stop.earlier stop.later ys;
    }

-- and over its own.
pub stop_own : (calibration : Calibration) (session : ℕ) (start : State) (script : List Line) (xs : List Entry) (entry : Entry) (place : Place) → IsStopped calibration session start script xs place → entry.seat ≡ session → next place ≡ Some entry.act →
    IsStopped calibration session start script (xs ++ entry ∷ []) (went calibration (after (state_after start xs) entry) entry.answer place)
stop_own calibration session start script xs entry place stop own act =
    let state = state_after start stop.earlier in
    let first = stopped_at (record stop.last { written = stop.told }) in
    let now = state_after state stop.later in
    let same : state_after start xs ≡ now = ap (λ l. state_after start l) stop.all ∙ state_after-append start stop.earlier stop.later in
    let step = own_moves calibration session (after now entry) entry place own in
    let goes : went calibration (after (state_after start xs) entry) entry.answer place ≡ walk calibration session state first (stop.later ++ entry ∷ []) =
    ap (λ s. went calibration (after s entry) entry.answer place) same ∙ sym step ∙ ap (λ (q : Place). moved calibration session (after now entry) entry q) stop.reached ∙ sym (walk-append calibration session state first stop.later (entry ∷ [])) in
    record {
      commands = stop.commands;
      earlier = stop.earlier;
      later = stop.later ++ entry ∷ [];
      last = stop.last;
      told = stop.told;
      missed = stop.missed;
      running = stop.running;
      written = stop.written;
      few = stop.few;
      unfinished = stop.unfinished;
      follows = Follows-append calibration session state first stop.later (entry ∷ []) stop.follows (subst (λ (q : Place). Follows calibration session now q (entry ∷ [])) stop.reached ((λ _. act), tt));
      reached = goes;
      all = ap (λ l. l ++ entry ∷ []) stop.all ∙ append_assoc stop.earlier stop.later (entry ∷ []);
    }

fit-take : (commands : ℕ) (script : List Line) → AreFit script → AreFit (take commands script)
fit-take commands script fit = All-take (λ (line : Line). IsFit line.command) commands script fit

-- How a stopped session stands at a place of its course over a legal journal.
pub stopped_returning : (calibration : Calibration) (session : ℕ) (start : Shared) (script : List Line) (xs : List Entry) (place : Place) → IsFresh start → AreFit script → IsLegal start xs →
    IsStopped calibration session start.state script xs place → Returning session (shared_after start xs) place
stopped_returning calibration session start script xs place fresh fit legal stop =
    let L : List Entry → Type 0 = λ l. IsLegal start l in
    let all = subst L stop.all legal in
    let steady = running_steady calibration session start (take stop.commands script) stop.earlier stop.last fresh (fit-take stop.commands script fit) (IsLegal-front start stop.earlier stop.later all) stop.running in
    let now = shared_after start stop.earlier in
    let state : state_after start.state stop.earlier ≡ now.state = sym (state-shared_after start stop.earlier) in
    let last : Place = record stop.last { written = stop.told } in
    let first = stopped_at last in
    let F : State → Type 0 = λ s. Follows calibration session s first stop.later in
    let end = walk_returns calibration session now first stop.later (stopped_returns session now last steady.holds steady.once) (IsLegal-later start stop.earlier stop.later all) (subst F state stop.follows) in
    let S : Shared → Type 0 = λ s. Returning session s place in
    let P : Place → Type 0 = λ q. Returning session (shared_after now stop.later) q in
    let at : walk calibration session now.state first stop.later ≡ place = ap (λ s. walk calibration session s first stop.later) (sym state) ∙ sym stop.reached in
    subst S (sym (ap (λ l. shared_after start l) stop.all ∙ shared_after-append start stop.earlier stop.later)) (subst P at end)

-- The claims that the seat holds are those that its session owes, the newest first, and no code is claimed twice.
pub held_here : (calibration : Calibration) (session : ℕ) (start : Shared) (script : List Line) (xs : List Entry) (place : Place) → IsFresh start → AreFit script → IsLegal start xs → IsCourse calibration session start.state script xs place →
    (held_by session (shared_after start xs).cached.claimed ≡ owed place.todo) × AreOnce (shared_after start xs).cached.claimed
held_here calibration session start script xs place fresh fit legal (inl run) =
    let steady = running_steady calibration session start script xs place fresh fit legal run in (steady.holds, steady.once)
held_here calibration session start script xs place fresh fit legal (inr stop) =
    let stands = stopped_returning calibration session start script xs place fresh fit legal stop in (stands.holds, stands.once)

-- So the session may make its next act.
pub may_here : (calibration : Calibration) (session : ℕ) (start : Shared) (script : List Line) (xs : List Entry) (place : Place) (act : Act) → IsFresh start → AreFit script → IsLegal start xs → IsCourse calibration session start.state script xs place →
    next place ≡ Some act → May (shared_after start xs) session act
may_here calibration session start script xs place act fresh fit legal (inl run) is =
    may_next (shared_after start xs) session place act (running_steady calibration session start script xs place fresh fit legal run) is
may_here calibration session start script xs place act fresh fit legal (inr stop) is =
    may_give_back session (shared_after start xs) place act (stopped_returning calibration session start script xs place fresh fit legal stop) is
