-- The texts of the generator: each by the number x as it stands when its first draw is made. chron's own.
use Rattle.std.specs.Prelude.{ℕ, ◌+◌, ◌-◌, ◌*◌, List, [], ◌∷◌, ◌++◌, map, codes, decimal, Some, pos}
use Rattle.std.specs.List.{flat_map, range_with_len}
use Rattle.cg_meaning.specs.Tree.{Name, Carbon, Tree, Leaf, Boundary, Group, Sequence, Phase, Trees, none, more, Chronology}
use Rattle.cg_writing.specs.Text.{quoted, line, model_text}
use Rattle.cg_gen.specs.Draws.{after, draw}

-- a letter and a number
abbrev pub numbered : List ℕ → ℕ → Name
numbered letter number = letter ++ decimal number

-- a row of the curve: year, age and sigma
abbrev pub row_text : ℕ → ℕ → ℕ → List ℕ
row_text bp age sigma = line 0 (decimal bp ++ codes "," ++ decimal age ++ codes "," ++ decimal sigma)

abbrev pub drawn_row : ℕ → ℕ → List ℕ
drawn_row bp x = row_text bp (bp - 70 + draw x 0 41) (10 + draw x 1 11)

-- a row for each tenth year from 3000 to 2000 cal BP
abbrev pub curve_text : ℕ → List ℕ
curve_text x =
    line 0 (codes "# generated") ++ flat_map (λ i. drawn_row (3000 - 10 * i) (after x (2 * i))) (range_with_len 0 101)

-- a radiocarbon date, by its age and error in years
abbrev pub dated : ℕ → ℕ → ℕ → Tree
dated number age error = Leaf (numbered (codes "d") number) (Carbon (pos (1000 * age)) (pos (1000 * error)))

-- of an age from the least one on
abbrev pub drawn_date : ℕ → ℕ → ℕ → Tree
drawn_date number least x = dated number (least + draw x 0 40) (20 + draw x 1 31)

-- members of a group
abbrev pub trees : List Tree → Trees
trees [] = none
trees (t ∷ ts) = more t (trees ts)

-- a Phase of ten such dates
abbrev pub phase : ℕ → ℕ → ℕ → Tree
phase number least x =
    Group Phase (numbered (codes "p") number)
    (trees (map (λ i. drawn_date (10 * number + i) least (after x (2 * i))) (range_with_len 0 10)))

abbrev pub boundary : ℕ → Tree
boundary number = Boundary (numbered (codes "b") number)

-- two Phases between three Boundaries, the older first
abbrev pub members : ℕ → List Tree
members x = boundary 0 ∷ phase 0 2690 x ∷ boundary 1 ∷ phase 1 2570 (after x 20) ∷ boundary 2 ∷ []

abbrev pub model : ℕ → Chronology
model x = record {
  curve = Some (codes "C.14c");
  top = more (Group Sequence (codes "s") (trees (members x))) none;
}

-- the line that prints an event
abbrev pub print_line : ℕ → List ℕ
print_line number = line 0 (codes "print " ++ quoted (numbered (codes "d") number))

-- the line that gives an event another date
abbrev pub set_line : ℕ → ℕ → ℕ → List ℕ
set_line number age error =
    line 0 (codes "set " ++ quoted (numbered (codes "d") number)
    ++ codes " R_Date(" ++ decimal age ++ codes "," ++ decimal error ++ codes ");")

abbrev pub drawn_set : ℕ → List ℕ
drawn_set x = set_line (draw x 0 20) (2570 + draw x 1 160) (20 + draw x 2 31)

-- script k prints five events, changes one, and commits
abbrev pub script_text : ℕ → ℕ → List ℕ
script_text k x =
    line 0 (codes "open main") ++ line 0 (codes "grid 2799 2600")
    ++ flat_map (λ i. print_line (5 * k + i)) (range_with_len 0 5)
    ++ drawn_set x ++ line 0 (codes "ranges \"b1\"") ++ line 0 (codes "commit main") ++ line 0 (codes "work")

-- four of them
abbrev pub scripts : ℕ → List (List ℕ)
scripts x = map (λ k. script_text k (after x (3 * k))) (range_with_len 0 4)

-- all that belongs to a number
pub record Texts : Type 0 where
  pub curve : List ℕ
  pub model : List ℕ
  pub scripts : List (List ℕ)

abbrev pub texts : ℕ → Texts
texts number = record {
  curve = curve_text number;
  model = model_text (model (after number 202));
  scripts = scripts (after number 242);
}
