-- What holds of all prints. chron's own.
use Rattle.std.specs.Prelude.{◌↔◌, ℕ, ◌<◌, ◌≤◌, List, [], ◌∷◌}
use Rattle.cg_cache.specs.Deeds.{Reply}
use Rattle.cg_meaning.specs.Tree.{Trees}
use Rattle.cg_model.specs.Limits.{IsWithinLimits}
use Rattle.cg_code.specs.Content.{Content}
use Rattle.cg_walk.specs.Gets.{Gets, print_gets}
use Rattle.cg_walk.specs.Walk.{Todo, wants, turned, weight_of, weight, Step, Runs, IsWalk}

-- the steps that leave nothing of what is to be got are the walks through it
abbrev pub PrintsAreWalks : Type 0
PrintsAreWalks = (gets : Gets) (steps : List Step) → Runs (wants gets []) steps [] ↔ IsWalk gets steps

-- whatever is told
abbrev pub DeedsLeaveLess : Type 0
DeedsLeaveLess = (first : Todo) (reply : Reply) (todo : List Todo) → weight (turned first reply todo) < weight (first ∷ todo)

-- at most 161 messages are got, each by a claim and at most one publication
abbrev pub PrintsAreShort : Type 0
PrintsAreShort =
    (code : Content → List ℕ) (top : Trees) (event : ℕ) → IsWithinLimits top → weight_of (print_gets code top event) ≤ 322
