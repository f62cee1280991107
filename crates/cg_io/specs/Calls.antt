-- Calls that are counted from 1, of which some are to fail. chron's own.
use Rattle.std.specs.Prelude.{ℕ, ◌+◌, List, [], ◌∷◌, ◌++◌, Contains}
use Rattle.cg_io.specs.Causes.{one_more}

-- the calls so far, and the numbers of those that are to fail
pub record Counted : Type 0 where
  pub made : ℕ
  pub failing : List ℕ

-- no call yet, and none that is to fail
abbrev pub no_calls : Counted
no_calls = record { made = 0; failing = [] }

-- this call is to fail, too
abbrev pub with_failing : Counted → ℕ → Counted
with_failing calls call = record calls { failing = calls.failing ++ call ∷ [] }

-- one call later
abbrev pub after_call : Counted → Counted
after_call calls = record calls { made = one_more calls.made }

-- the next call is one that is to fail
abbrev pub IsToFail : Counted → Type 0
IsToFail calls = Contains calls.failing (calls.made + 1)
