use Rattle.std.proofs.Common.{arith}
use Rattle.std.proofs.lemmas.List.{length-map}
use Rattle.cg_words.proofs.FilesLemmas.{are-sessions, no-session, many-sessions}
use Rattle.cg_words.proofs.words.sessions_in.Goals as goal

pub returns-in_default-clause-none : goal.returns-in_default-clause-none
returns-in_default-clause-none c = λ sessions are. no-session c.args.list.now sessions (rw c.in_default.is at c.in_ok-sessions.ensures.none) are

pub returns-then-len-le-MAX_SESSIONS-clause-some : goal.returns-then-len-le-MAX_SESSIONS-clause-some
returns-then-len-le-MAX_SESSIONS-clause-some c =
    let read = rw c.in-Some.is at c.in_ok-sessions.ensures.some in
    are-sessions c.args.list.now _ read (rw length-map (omega (arith, c.in-Some.sessions.ok.0)))

pub returns-clause-none : goal.returns-clause-none
returns-clause-none c = λ sessions are.
    let read = rw c.in-Some.is at c.in_ok-sessions.ensures.some in
    many-sessions c.args.list.now _ sessions read (rw length-map (omega (arith, c.in-Some.sessions.ok.0))) are
