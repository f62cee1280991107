-- How much room a transcript has.
use Rattle.std.specs.Prelude.{ℕ, ◌+◌, ◌≤◌, vec_len, vec_capacity}
use Rattle.cg_session.specs.declared.transcript.Transcript.{Transcript}

-- there is room for so many bytes more, and behind them for the last line
abbrev pub HasRoom : Transcript → ℕ → Type 0
HasRoom transcript more = vec_len transcript.bytes + more + 33 ≤ vec_capacity transcript.bytes
