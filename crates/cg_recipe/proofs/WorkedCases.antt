-- Divisors of small models, and how many products their tables and parts take, on a grid of 4 years, computed: 4! is 24.
use Rattle.std.proofs.Common.{◌≡◌, ℕ, ◌+◌, ◌*◌, refl, []}
use Rattle.cg_meaning.specs.Tree.{Tree, Leaf, Boundary, Group, Trees, none, more, Kind, Sequence, Phase, After, Before, Free}
use Rattle.cg_part.specs.Elements.{element_of}
use Rattle.cg_recipe.specs.Enclosed.{divisor}
use Rattle.cg_recipe.specs.Ticks.{ticks_of, part_ticks}

-- the first event is over 2, the next over 3, and so on
abbrev m : ℕ → ℕ
m number = number + 2

abbrev date : Tree
date = Leaf [] Free

abbrev boundary : Tree
boundary = Boundary []

abbrev group : Kind → Trees → Tree
group kind ts = Group kind [] ts

abbrev over : Tree → ℕ
over tree = divisor 4 m (element_of 0 tree)

-- Sequence {A; B; C}
abbrev ordered : Tree
ordered = group Sequence (more date (more date (more date none)))

in_order-case : over ordered ≡ 2 * 3 * 4
in_order-case = refl

-- Phase {A; After {B; C}; D}
abbrev beside : Tree
beside = group Phase (more date (more (group After (more date (more date none))) (more date none)))

side_by_side-case : over beside ≡ 2 * 3 * 4 * 5
side_by_side-case = refl

-- Sequence {Boundary S; A; B; Boundary E; C}: A and B have a weight of the span each, and E has no multiplier
abbrev span : Tree
span = group Sequence (more boundary (more date (more date (more boundary (more date none)))))

span-case : over span ≡ 2 * (3 * 4 * (24 * 24)) * 6
span-case = refl

-- Sequence {Boundary S; A}: no span
open-case : over (group Sequence (more boundary (more date none))) ≡ 2 * 3
open-case = refl

-- Sequence {Boundary S; Sequence {Boundary U; A; Boundary V}; Boundary E}: U and V are open in the outer span
abbrev nested : Tree
nested = group Sequence (more boundary (more (group Sequence (more boundary (more date (more boundary none)))) (more boundary none)))

nested-case : over nested ≡ 2 * (3 * (4 * 24) * (24 * 24))
nested-case = refl

-- three events, one after another: 10 products each
ordered-ticks : ticks_of 4 (element_of 0 ordered) ≡ 30
ordered-ticks = refl

-- as many for B: A before it, C after it, and B between both
ordered-part : part_ticks 4 1 (element_of 0 ordered) ≡ 30
ordered-part = refl

-- five times one beside another: 20 each
beside-ticks : ticks_of 4 (element_of 0 beside) ≡ 100
beside-ticks = refl

-- as many for C: A and D are the others of the group, and B that of C
beside-part : part_ticks 4 2 (element_of 0 beside) ≡ 100
beside-part = refl

-- S and C take 10 each, A and B in the span as much, the span 10 and its two open events 4 each; and the span is an item: 20
span-ticks : ticks_of 4 (element_of 0 span) ≡ 10 + (10 + 10 + (10 + 8) + 20) + 10
span-ticks = refl

-- E, which closes it: 10 more than the table
span-end : part_ticks 4 3 (element_of 0 span) ≡ 88
span-end = refl

-- A, by the context of the span: no more than the table
span-part : part_ticks 4 1 (element_of 0 span) ≡ 78
span-part = refl

-- a Before group takes what a Phase takes
before-ticks : ticks_of 4 (element_of 0 (group Before (more date (more date none)))) ≡ 40
before-ticks = refl
