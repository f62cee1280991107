-- Links both ways as contracts see them. chron's own.
use Rattle.std.specs.Prelude.{◌≡◌, ℕ, ◌<◌, List, length, slice_set}
use Rattle.std.specs.List.{All}

-- the next and the previous node of each node
pub record Arrows : Type 0 where
  pub next : List ℕ
  pub prev : List ℕ

-- as many of both, and each goes to a node
pub record AreArrows (arrows : Arrows) : Type 0 where
  pub paired : length arrows.prev ≡ length arrows.next
  pub next_known : All (λ node. node < length arrows.next) arrows.next
  pub prev_known : All (λ node. node < length arrows.next) arrows.prev

-- another node is next to one
abbrev pub with_next : ℕ → ℕ → Arrows → Arrows
with_next node to arrows = record { next = slice_set arrows.next node to; prev = arrows.prev }

-- another node is before one
abbrev pub with_prev : ℕ → ℕ → Arrows → Arrows
with_prev node to arrows = record { next = arrows.next; prev = slice_set arrows.prev node to }

-- one node comes right after another
abbrev pub joined : ℕ → ℕ → Arrows → Arrows
joined node after arrows = with_prev after node (with_next node after arrows)
