use Rattle.std.proofs.Common.{◌≡◌, ◌++◌, map, vec_capacity}
use Rattle.cg_interleaving.specs.Taking.{AreTexts}
use Rattle.cg_interleaving.proofs.sessions.Sessions.close.Given as goal

-- the transcripts so far are there, and there is room for the rest
abbrev pub invariant-loop-session : goal.invariant-loop-session
invariant-loop-session l = record {
  whole : l.yielded ++ l.session-iterator.rest.items ≡ l.fn.self.list.items;
  written : AreTexts l.yielded (map (λ transcript. transcript.items) l.transcripts.items);
  room : vec_capacity l.transcripts ≡ vec_capacity l.fn.transcripts;
}
