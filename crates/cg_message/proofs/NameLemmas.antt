-- Names don't count: equal codes stand for equal values.
use Rattle.std.proofs.Common.{◌≡◌, ℕ, ◌+◌, ◌++◌, List, [], refl, sym, ap, ap₂, ◌∙◌}
use Rattle.std.specs.Prelude.{slice_index_or}
use Rattle.cg_meaning.specs.Tree as tree
use Rattle.cg_meaning.specs.Tree.{Tree, Trees, Dating, Sequence, Phase, After, Before, Kind, count, count_all, datings_of, datings_of_all}
use Rattle.cg_meaning.specs.Scene.{Grid, Scene, scene_of}
use Rattle.cg_part.specs.Elements.{Event, Group, Span, none, more, put_before, element_of, members_of, items_of, items_behind}
use Rattle.cg_recipe.specs.Recipe.{table_of, recipe, parts_of}
use Rattle.cg_like.specs.Likelihood.{weights_of}
use Rattle.cg_marginal.specs.Finished.{finished}
use Rattle.cg_code.specs.Content as content
use Rattle.cg_code.specs.Content.{Content, without_names, all_without_names, nameless}
use Rattle.cg_code.specs.Code.{code_of}
use Rattle.cg_code.specs.Laws.{IsEvaluation}
use Rattle.cg_code.proofs.CodeLemmas.{equal_codes}
use Rattle.cg_message.specs.Curve.{rows_at}
use Rattle.cg_message.specs.Value.{Value, Table, Marginal, Seen, value_of, pass_in, IsMessage, IsValue, HasValue}

-- as many events, of the same datings
mutual
  count-nameless : (t : Tree) → count (without_names t) ≡ count t
  count-nameless (tree.Leaf name dating) = refl
  count-nameless (tree.Boundary name) = refl
  count-nameless (tree.Group kind name ts) = count_all-nameless ts

  count_all-nameless : (ts : Trees) → count_all (all_without_names ts) ≡ count_all ts
  count_all-nameless tree.none = refl
  count_all-nameless (tree.more t ts) = ap₂ (λ a b. a + b) (count-nameless t) (count_all-nameless ts)

mutual
  datings-nameless : (t : Tree) → datings_of (without_names t) ≡ datings_of t
  datings-nameless (tree.Leaf name dating) = refl
  datings-nameless (tree.Boundary name) = refl
  datings-nameless (tree.Group kind name ts) = datings_all-nameless ts

  datings_all-nameless : (ts : Trees) → datings_of_all (all_without_names ts) ≡ datings_of_all ts
  datings_all-nameless tree.none = refl
  datings_all-nameless (tree.more t ts) = ap₂ (λ (a b : List Dating). a ++ b) (datings-nameless t) (datings_all-nameless ts)

-- the same elements
mutual
  element-nameless : (number : ℕ) (t : Tree) → element_of number (without_names t) ≡ element_of number t
  element-nameless number (tree.Leaf name dating) = refl
  element-nameless number (tree.Boundary name) = refl
  element-nameless number (tree.Group Sequence name ts) = ap (Group Sequence) (items-nameless number ts)
  element-nameless number (tree.Group Phase name ts) = ap (Group Phase) (members-nameless number ts)
  element-nameless number (tree.Group After name ts) = ap (Group After) (members-nameless number ts)
  element-nameless number (tree.Group Before name ts) = ap (Group Before) (members-nameless number ts)

  members-nameless : (number : ℕ) (ts : Trees) → members_of number (all_without_names ts) ≡ members_of number ts
  members-nameless number tree.none = refl
  members-nameless number (tree.more t ts) =
      ap₂ more (element-nameless number t) (ap (λ n. members_of (number + n) (all_without_names ts)) (count-nameless t) ∙ members-nameless (number + count t) ts)

  items-nameless : (number : ℕ) (ts : Trees) → items_of number (all_without_names ts) ≡ items_of number ts
  items-nameless number tree.none = refl
  items-nameless number (tree.more (tree.Boundary name) ts) = ap (more (Event number)) (behind-nameless (number + 1) ts)
  items-nameless number (tree.more (tree.Leaf name dating) ts) = ap (more (Event number)) (items-nameless (number + 1) ts)
  items-nameless number (tree.more (tree.Group kind name us) ts) =
      ap₂ more (element-nameless number (tree.Group kind name us))
      (ap (λ n. items_of (number + n) (all_without_names ts)) (count_all-nameless us) ∙ items-nameless (number + count_all us) ts)

  behind-nameless : (number : ℕ) (ts : Trees) → items_behind number (all_without_names ts) ≡ items_behind number ts
  behind-nameless number tree.none = refl
  behind-nameless number (tree.more (tree.Boundary name) ts) = ap (more (Span none number)) (behind-nameless (number + 1) ts)
  behind-nameless number (tree.more (tree.Leaf name dating) ts) = ap (put_before (Event number)) (behind-nameless (number + 1) ts)
  behind-nameless number (tree.more (tree.Group kind name us) ts) =
      ap₂ put_before (element-nameless number (tree.Group kind name us))
      (ap (λ n. items_behind (number + n) (all_without_names ts)) (count_all-nameless us) ∙ behind-nameless (number + count_all us) ts)

-- the rows, and what they give
rows-nameless : (scene : Scene) (t : Tree) → pass_in scene (without_names t) ≡ pass_in scene t
rows-nameless scene t = ap (λ (datings : List Dating). record { cells = scene.grid.cells; rows = λ (number : ℕ). weights_of scene (slice_index_or datings number tree.Free) }) (datings-nameless t)

table-nameless : (scene : Scene) (t : Tree) → table_of (pass_in scene (without_names t)) (element_of 0 (without_names t)) ≡ table_of (pass_in scene t) (element_of 0 t)
table-nameless scene t = ap₂ table_of (rows-nameless scene t) (element-nameless 0 t)

recipe-nameless : (scene : Scene) (t : Tree) (event : ℕ) → recipe (without_names t) scene event ≡ recipe t scene event
unfolding recipe
recipe-nameless scene t event = ap₂ (λ pass e. finished (parts_of pass event e)) (rows-nameless scene t) (element-nameless 0 t)

-- names don't count
value-nameless : (scene : Scene) (x : Content) → value_of scene (nameless x) ≡ value_of scene x
value-nameless scene (content.Row dating) = refl
value-nameless scene (content.Table t) = ap Table (table-nameless scene t)
value-nameless scene (content.Marginal top event) = ap Marginal (recipe-nameless scene (tree.Group Phase [] top) event)

pub same_value : (scene : Scene) (x y : Content) → nameless x ≡ nameless y → value_of scene x ≡ value_of scene y
same_value scene x y same = sym (value-nameless scene x) ∙ ap (value_of scene) same ∙ value-nameless scene y

-- so a message has the value of all that its code stands for
pub message-value : (seen : Seen) (value : Value) → IsMessage seen value → IsValue seen value
message-value seen value m content grid curve is code_is =
    let same = (equal_codes m.content content m.grid grid m.curve curve m.is is).0 (sym m.code_is ∙ code_is) in
    m.value_is ∙ same_value (scene_of m.grid (rows_at seen.curves m.curve)) m.content content same.0
    ∙ ap₂ (λ g n. value_of (scene_of g (rows_at seen.curves n)) content) same.1 same.2

-- and no other
pub has-value : (seen : Seen) (content : Content) (grid : Grid) (curve : ℕ) → IsEvaluation content grid curve → seen.code ≡ code_of content grid curve →
    HasValue seen (value_of (scene_of grid (rows_at seen.curves curve)) content)
has-value seen content grid curve is code_is held worth = worth content grid curve is code_is
