-- A tree has a dating for each event.
use Rattle.std.proofs.Common.{◌≡◌, ◌+◌, length, refl, ap₂, ◌∙◌, length-append}
use Rattle.cg_meaning.specs.Tree.{Tree, Trees, Leaf, Boundary, Group, none, more, count, count_all, datings_of, datings_of_all}

mutual
  pub length-datings_of : (tree : Tree) → length (datings_of tree) ≡ count tree
  length-datings_of (Leaf name d) = refl
  length-datings_of (Boundary name) = refl
  length-datings_of (Group kind name ts) = length-datings_of_all ts

  pub length-datings_of_all : (ts : Trees) → length (datings_of_all ts) ≡ count_all ts
  length-datings_of_all none = refl
  length-datings_of_all (more t ts) =
      length-append (datings_of t) (datings_of_all ts) ∙ ap₂ (λ a b. a + b) (length-datings_of t) (length-datings_of_all ts)
