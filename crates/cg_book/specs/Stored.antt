-- A tree as stored data.
use Rattle.std.specs.Prelude.{[], refl}
use Rattle.std.specs.Coded.{Coded, code_by}
use Rattle.cg_meaning.specs.Tree.{Tree, Leaf, Trees, none, more, Free}
use Rattle.cg_model.specs.Stored.{coded_trees}

-- the first of trees
abbrev pub first_of_trees : Trees → Tree
first_of_trees none = Leaf [] Free
first_of_trees (more t ts) = t

abbrev pub coded_tree : Coded Tree
coded_tree = code_by Trees coded_trees (λ t. more t none) first_of_trees (λ _. refl)
