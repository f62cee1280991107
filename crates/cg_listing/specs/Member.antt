-- The members of a Sequence one after another, and their Boundary pairs.
use Rattle.std.specs.Prelude.{ℕ, Option, Some, if◌then◌else◌}
use Rattle.cg_meaning.specs.Tree.{Tree}
use Rattle.cg_meaning.specs.Pairs.{pair_of}
use Rattle.cg_model.specs.Member.{is_boundary}

-- the pair that a member of a Sequence hands down, from the nearest Boundaries and the pair from further out
abbrev pub pair_for : Tree → Option ℕ → Option ℕ → Option (ℕ × ℕ) → Option (ℕ × ℕ)
pair_for t before after outer = if is_boundary t then outer else pair_of before after outer

-- the nearest Boundary before what follows a member, whose events are numbered from `number`
abbrev pub boundary_before : Tree → Option ℕ → ℕ → Option ℕ
boundary_before t before number = if is_boundary t then Some number else before
