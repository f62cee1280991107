use Rattle.std.proofs.Common.{◌≡◌, ℕ, ◌+◌, ◌-◌, length}
use Rattle.std.specs.Arc.{arc_value}
use Rattle.cg_message.specs.Parts.{part_at, seen_in}
use Rattle.cg_message.proofs.parts.Parts.put.Given as goal

-- all places have what they had
abbrev pub invariant-loop-self : goal.invariant-loop-self
invariant-loop-self l = (other : ℕ) → part_at (seen_in (λ m. arc_value m) l.self-inside.slots.items) other ≡ part_at l.fn.self other

-- the places that aren't there yet
abbrev pub decreases-loop-self : goal.decreases-loop-self
decreases-loop-self l = l.place + 1 - length l.self-inside.slots.items
