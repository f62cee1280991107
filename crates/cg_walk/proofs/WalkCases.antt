-- Walks through small models, computed: what a print gets, and what is left to be done.
use Rattle.std.proofs.Common.{◌≡◌, ℕ, refl, List, [], ◌∷◌, pos}
use Rattle.std.specs.Prelude.{codes}
use Rattle.cg_meaning.specs.Tree.{Tree, Leaf, Group, Trees, none, more, Sequence, Phase, Free, Exact, Normal}
use Rattle.cg_code.specs.Content.{Content, Row, Table, Marginal}
use Rattle.cg_code.specs.Code.{code_of}
use Rattle.cg_cache.specs.Cached.{Hit, Mine, NoRoom}
use Rattle.cg_cache.specs.Deeds.{Claimed}
use Rattle.cg_walk.specs.Gets.{no_more, get, print_gets}
use Rattle.cg_walk.specs.Walk.{Want, Owe, turned}

-- what is got is told apart by one number
abbrev number_of : Content → List ℕ
number_of (Row dating) = 1 ∷ []
number_of (Table tree) = 2 ∷ []
number_of (Marginal top event) = 3 ∷ []

abbrev dated : Tree
dated = Leaf (codes "B") (Normal (pos 1999) (pos 5000))

-- Sequence("s"){Date("A");C_Date("B",-50,5);};
abbrev a_and_b : Trees
a_and_b = more (Group Sequence (codes "s") (more (Leaf (codes "A") Free) (more dated none))) none

-- the undated event takes the row of the other, and the dated one its own
of_a : print_gets number_of a_and_b 0 ≡ get (3 ∷ []) (get (1 ∷ []) no_more no_more) no_more
of_a = refl

of_b : print_gets number_of a_and_b 1 ≡ get (3 ∷ []) (get (1 ∷ []) no_more no_more) no_more
of_b = refl

-- an exact date has no row to be got
exact_date : print_gets number_of (more (Leaf (codes "P") (Exact (pos 1999))) none) 0 ≡ get (3 ∷ []) no_more no_more
exact_date = refl

-- Phase("p"){C_Date("B",-50,5);};Date("A"); of A, the group's table is got with the row that it takes
abbrev phase_and_a : Trees
phase_and_a = more (Group Phase (codes "p") (more dated none)) (more (Leaf (codes "A") Free) none)

beside_a_group : print_gets number_of phase_and_a 1 ≡ get (3 ∷ []) (get (2 ∷ []) (get (1 ∷ []) no_more no_more) no_more) no_more
beside_a_group = refl

-- one's own marginal is owed until its parts are there; without room there is nothing to publish; a hit is all
own : turned (Want (3 ∷ []) (get (1 ∷ []) no_more no_more)) (Claimed Mine) [] ≡ Want (1 ∷ []) no_more ∷ Owe (3 ∷ []) ∷ []
own = refl

without_room : turned (Want (3 ∷ []) (get (1 ∷ []) no_more no_more)) (Claimed NoRoom) [] ≡ Want (1 ∷ []) no_more ∷ []
without_room = refl

hit : turned (Want (3 ∷ []) (get (1 ∷ []) no_more no_more)) (Claimed Hit) [] ≡ []
hit = refl

-- the marginal of A of the Sequence, on 2001 to 1999 and without a curve
its_code : code_of (Marginal a_and_b 0) (record { oldest = pos 2001; cells = 3 }) 0
    ≡ 77 ∷ 11 ∷ 185 ∷ 11 ∷ 183 ∷ 0 ∷ 80 ∷ 0 ∷ 1 ∷ 83 ∷ 0 ∷ 2 ∷ 68 ∷ 78 ∷ 11 ∷ 183 ∷ 0 ∷ 0 ∷ 19 ∷ 136 ∷ 0 ∷ 0 ∷ []
its_code = refl
