use Rattle.std.proofs.Common.{◌≡◌, ◌∙◌, [], length, true, refl, sym, subst, append-nil, ℕ}
use Rattle.std.proofs.lemmas.Option.{slice_get_within}
use Rattle.cg_sharing.specs.Course.{stopped_at}
use Rattle.cg_sharing.specs.Journal.{Act, May}
use Rattle.cg_message.specs.Value as message
use Rattle.cg_book.specs.declared.event.Event.{Event}
use Rattle.cg_book.specs.Plain.{shared_in, asked, answered}
use Rattle.cg_book.proofs.QuestionLemmas.{brings-event_of}
use Rattle.cg_book.specs.Replies.{question_in}
use Rattle.cg_session.specs.Port.{code_in, curves_in, Brings, Grows}
use Rattle.cg_session.specs.Calibration.{calibration_of}
use Rattle.cg_session.specs.Session.{IsPrepared}
use Rattle.cg_session.proofs.AdvanceLemmas.{may_at, stopped_on, stands_stopped, ended_at, settled_at}
use Rattle.cg_session.proofs.PortLemmas.{asks_it, of_versions}
use Rattle.cg_session.proofs.StepLemmas.{counts_settled}
use Rattle.cg_session.proofs.session.Session.advance.Goals as goal

pub event-reply-requires-clause-may : goal.event-reply-requires-clause-may
event-reply-requires-clause-may g c =
    let seen = g.Q.Port.seen c.args.port.now in
    let s = c.prepare.new.self in
    let next : IsPrepared c.in-Ok-Some.field-0-0 s = rw c.in-Ok-Some.field-0-is at c.in-Ok-Some.ensures.next in
    let same = c.prepare.ensures.same in
    let asks = asks_it c.in-Ok-Some.field-0-0.question c.event-event.result c.event-event.ensures in
    let A : Act → Type 0 = λ act. May (shared_in seen) (g.Q.Port.seat c.args.port.now) act in
    let N : ℕ → Type 0 = λ n. May (shared_in seen) n (question_in c.in-Ok-Some.field-0-0.question) in
    subst A (sym asks) (subst N (same.number ∙ sym c.requires.seat)
    (may_at (calibration_of c.args.curves.now) seen s next.line (question_in c.in-Ok-Some.field-0-0.question) (same.stopped ∙ c.if-self.false) (c.prepare.ensures.at seen c.if-self.false c.requires.at) next.here next.act))

pub event-reply-requires-clause-offered : goal.event-reply-requires-clause-offered
event-reply-requires-clause-offered g c =
    let seen = g.Q.Port.seen c.args.port.now in
    let B : Event message.Seen → Type 0 = λ e. Brings seen (g.Q.Port.seat c.args.port.now) e in
    subst B (sym c.event-event.ensures) (brings-event_of code_in curves_in seen (g.Q.Port.seat c.args.port.now) c.in-Ok-Some.field-0-0.question)

pub settle-requires-clause-told : goal.settle-requires-clause-told
settle-requires-clause-told g c =
    of_versions c.in-Ok-Some.field-0-0.question c.event-event.result c.event-reply.result c.event-event.ensures c.event-reply.ensures.suits

pub settle-requires-clause-within : goal.settle-requires-clause-within
settle-requires-clause-within g c =
    let next : IsPrepared c.in-Ok-Some.field-0-0 c.prepare.new.self = rw c.in-Ok-Some.field-0-is at c.in-Ok-Some.ensures.next in
    slice_get_within c.prepare.new.self.script c.prepare.new.self.done next.line next.here

pub returns-in-Ok-Some-clause-at : goal.returns-in-Ok-Some-clause-at
returns-in-Ok-Some-clause-at g c =
    let seen = g.Q.Port.seen c.args.port.now in
    let new = g.Q.Port.seen c.event-reply.new.self in
    let s = c.prepare.new.self in
    let same = c.prepare.ensures.same in
    let next : IsPrepared c.in-Ok-Some.field-0-0 s = rw c.in-Ok-Some.field-0-is at c.in-Ok-Some.ensures.next in
    let act = question_in c.in-Ok-Some.field-0-0.question in
    let asks = asks_it c.in-Ok-Some.field-0-0.question c.event-event.result c.event-event.ensures in
    let A : Act → Type 0 = λ a. Grows (g.Q.Port.seat c.args.port.now) (g.Q.Port.alone c.args.port.now) a (answered c.event-reply.result) seen new in
    let G : ℕ → Type 0 = λ n. Grows n (g.Q.Port.alone c.args.port.now) act (answered c.event-reply.result) seen new in
    let grows = subst G (c.requires.seat ∙ sym same.number) (subst A asks c.event-reply.ensures.grows) in
    (settled_at (calibration_of c.args.curves.now) seen new (g.Q.Port.alone c.args.port.now) c.args.self.now s c.settle.new.self next.line act c.in-Ok-Some.field-0-0.spare c.settle.result (answered c.event-reply.result) (same.stopped ∙ c.if-self.false)
    (c.prepare.ensures.at seen c.if-self.false c.requires.at) same.number same.script c.prepare.ensures.forward next.here next.act next.spare grows c.event-reply.ensures.legal c.settle.ensures.same.0 c.settle.ensures.same.1
    (λ text. c.settle.ensures.text new (g.Q.Port.seat c.args.port.now) (asked c.event-event.result) text c.event-reply.ensures.carries) c.settle.ensures.came).0

pub returns-in-Ok-Some-clause-came : goal.returns-in-Ok-Some-clause-came
returns-in-Ok-Some-clause-came g c =
    let seen = g.Q.Port.seen c.args.port.now in
    let new = g.Q.Port.seen c.event-reply.new.self in
    let s = c.prepare.new.self in
    let same = c.prepare.ensures.same in
    let next : IsPrepared c.in-Ok-Some.field-0-0 s = rw c.in-Ok-Some.field-0-is at c.in-Ok-Some.ensures.next in
    let act = question_in c.in-Ok-Some.field-0-0.question in
    let asks = asks_it c.in-Ok-Some.field-0-0.question c.event-event.result c.event-event.ensures in
    let A : Act → Type 0 = λ a. Grows (g.Q.Port.seat c.args.port.now) (g.Q.Port.alone c.args.port.now) a (answered c.event-reply.result) seen new in
    let G : ℕ → Type 0 = λ n. Grows n (g.Q.Port.alone c.args.port.now) act (answered c.event-reply.result) seen new in
    let grows = subst G (c.requires.seat ∙ sym same.number) (subst A asks c.event-reply.ensures.grows) in
    (settled_at (calibration_of c.args.curves.now) seen new (g.Q.Port.alone c.args.port.now) c.args.self.now s c.settle.new.self next.line act c.in-Ok-Some.field-0-0.spare c.settle.result (answered c.event-reply.result) (same.stopped ∙ c.if-self.false)
    (c.prepare.ensures.at seen c.if-self.false c.requires.at) same.number same.script c.prepare.ensures.forward next.here next.act next.spare grows c.event-reply.ensures.legal c.settle.ensures.same.0 c.settle.ensures.same.1
    (λ text. c.settle.ensures.text new (g.Q.Port.seat c.args.port.now) (asked c.event-event.result) text c.event-reply.ensures.carries) c.settle.ensures.came).1

pub returns-in-Ok-None-clause-came : goal.returns-in-Ok-None-clause-came
returns-in-Ok-None-clause-came g c =
    let seen = g.Q.Port.seen c.args.port.now in
    let s = c.prepare.new.self in
    let all : s.done ≡ length s.script = rw c.in-Ok-None.field-0-is at c.in-Ok-None.ensures.next in
    ended_at (calibration_of c.args.curves.now) seen s (c.prepare.ensures.same.stopped ∙ c.if-self.false) (c.prepare.ensures.at seen c.if-self.false c.requires.at) all

pub returns-in-Err-clause-at : goal.returns-in-Err-clause-at
returns-in-Err-clause-at g c =
    let calibration = calibration_of c.args.curves.now in
    let seen = g.Q.Port.seen c.args.port.now in
    let s = c.prepare.new.self in
    let run = c.prepare.ensures.same.stopped ∙ c.if-self.false in
    let at = c.prepare.ensures.at seen c.if-self.false c.requires.at in
    let place = at.stands.0 in
    record {
      models = at.models;
      capacity = at.capacity;
      start = at.start;
      legal = at.legal;
      ready = at.ready;
      within = at.within;
      stands = (stopped_at place, stopped_on calibration seen seen s (record s { stopped = true }) [] place run c.in-Err.ensures.unfinished tt refl (sym (append-nil seen.journal)) refl refl refl refl at.stands.1.0.shows at.stands.1);
      text = at.text;
    }

pub returns-in-Err-clause-came : goal.returns-in-Err-clause-came
returns-in-Err-clause-came g c =
    let calibration = calibration_of c.args.curves.now in
    let seen = g.Q.Port.seen c.args.port.now in
    let s = c.prepare.new.self in
    let run = c.prepare.ensures.same.stopped ∙ c.if-self.false in
    let at = c.prepare.ensures.at seen c.if-self.false c.requires.at in
    let place = at.stands.0 in
    let stands = stopped_on calibration seen seen s (record s { stopped = true }) [] place run c.in-Err.ensures.unfinished tt refl (sym (append-nil seen.journal)) refl refl refl refl at.stands.1.0.shows at.stands.1 in
    record {
      others = [];
      theirs = tt;
      none = λ _. refl;
      start = refl;
      journal = sym (append-nil seen.journal);
      place = stopped_at place;
      here = stands.0;
      stopped = stands_stopped calibration seen (record s { stopped = true }) (stopped_at place) refl stands;
    }

pub returns-then-self-clause-came : goal.returns-then-self-clause-came
returns-then-self-clause-came g c =
    let calibration = calibration_of c.args.curves.now in
    let seen = g.Q.Port.seen c.args.port.now in
    let place = c.requires.at.stands.0 in
    let stands = c.requires.at.stands.1 in
    record {
      others = [];
      theirs = tt;
      none = λ _. refl;
      start = refl;
      journal = sym (append-nil seen.journal);
      place = place;
      here = stands.0;
      stopped = stands_stopped calibration seen c.args.self.now place c.if-self.true stands;
    }

pub returns-in-Ok-Some-clause-ticks : goal.returns-in-Ok-Some-clause-ticks
returns-in-Ok-Some-clause-ticks g c = λ place stands.
    let calibration = calibration_of c.args.curves.now in
    let seen = g.Q.Port.seen c.args.port.now in
    let new = g.Q.Port.seen c.event-reply.new.self in
    let alone = g.Q.Port.alone c.args.port.now in
    let s = c.prepare.new.self in
    let same = c.prepare.ensures.same in
    let next : IsPrepared c.in-Ok-Some.field-0-0 s = rw c.in-Ok-Some.field-0-is at c.in-Ok-Some.ensures.next in
    let act = question_in c.in-Ok-Some.field-0-0.question in
    let asks = asks_it c.in-Ok-Some.field-0-0.question c.event-event.result c.event-event.ensures in
    let A : Act → Type 0 = λ a. Grows (g.Q.Port.seat c.args.port.now) alone a (answered c.event-reply.result) seen new in
    let G : ℕ → Type 0 = λ n. Grows n alone act (answered c.event-reply.result) seen new in
    let grows = subst G (c.requires.seat ∙ sym same.number) (subst A asks c.event-reply.ensures.grows) in
    counts_settled calibration seen new alone c.args.steps.now c.prepare.new.steps place s c.settle.new.self next.line act c.in-Ok-Some.field-0-0.spare c.settle.result (answered c.event-reply.result) (same.stopped ∙ c.if-self.false)
    (c.prepare.ensures.at seen c.if-self.false c.requires.at) next.here next.act next.spare grows c.settle.ensures.same.0 c.settle.ensures.same.1 c.settle.ensures.came (c.in-Ok-Some.ensures.ticks seen place c.if-self.false c.requires.at stands)

pub returns-in-Err-clause-ticks : goal.returns-in-Err-clause-ticks
returns-in-Err-clause-ticks g c = λ place stands.
    let calibration = calibration_of c.args.curves.now in
    let seen = g.Q.Port.seen c.args.port.now in
    let s = c.prepare.new.self in
    let counts = c.in-Err.ensures.cut seen place c.if-self.false c.requires.at stands in
    record {
      place = stopped_at counts.place;
      stands = stopped_on calibration seen seen s (record s { stopped = true }) [] counts.place (c.prepare.ensures.same.stopped ∙ c.if-self.false) c.in-Err.ensures.unfinished tt refl (sym (append-nil seen.journal)) refl refl refl refl
          counts.stands.0.shows counts.stands;
      more = counts.more;
      written = counts.written;
      ticks = counts.ticks;
    }
