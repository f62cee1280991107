-- Trees one after another, as a loop over members makes them.
use Rattle.std.proofs.Common.{◌≡◌, ℕ, true, false, cond, ◌+◌, ◌<◌, ◌≤◌, List, [], ◌∷◌, ◌++◌, map, length, take, get_or, refl, sym, ap, ◌∙◌}
use Rattle.std.proofs.lemmas.List.{take_more, take_all}
use Rattle.cg_meaning.specs.Tree.{Name, Dating, Tree, Trees, none, more}
use Rattle.cg_model.specs.Found.{has_name}
use Rattle.cg_model.specs.Node.{tree_of, trees, trees_with}
use Rattle.cg_model.specs.declared.node.Node.{Node}
use Rattle.cg_model.proofs.NodeLemmas.{trees-push}
use Rattle.cg_sharing.specs.Edit.{dated, dated_all, extended, extended_all, preceded, preceded_all, without, without_all, renamed, renamed_all}

-- the trees of the first members
abbrev pub trees_to : List Node → ℕ → Trees
trees_to items i = trees (map tree_of (take i items))

-- one more member adds its tree
pub trees_to-next : (items : List Node) (i : ℕ) (x : Node) → i < length items → x ≡ get_or items i x → trees_to items (i + 1) ≡ trees_with (trees_to items i) (tree_of x)
trees_to-next items i x within is =
    ap (λ xs. trees (map tree_of xs)) (take_more items i x within ∙ ap (λ y. take i items ++ y ∷ []) (sym is))
    ∙ trees-push (take i items) x

-- and past the last member they are all
pub trees_to-all : (items : List Node) (i : ℕ) → length items ≤ i → trees_to items i ≡ trees (map tree_of items)
trees_to-all items i past = ap (λ xs. trees (map tree_of xs)) (take_all i items past)

pub dated_all-trees_with : (name : Name) (dating : Dating) (ts : Trees) (t : Tree) → dated_all name dating (trees_with ts t) ≡ trees_with (dated_all name dating ts) (dated name dating t)
dated_all-trees_with name dating none t = refl
dated_all-trees_with name dating (more u us) t = ap (λ vs. more (dated name dating u) vs) (dated_all-trees_with name dating us t)

pub extended_all-trees_with : (name : Name) (node : Tree) (ts : Trees) (t : Tree) → extended_all name node (trees_with ts t) ≡ trees_with (extended_all name node ts) (extended name node t)
extended_all-trees_with name node none t = refl
extended_all-trees_with name node (more u us) t = ap (λ vs. more (extended name node u) vs) (extended_all-trees_with name node us t)

pub renamed_all-trees_with : (name new : Name) (ts : Trees) (t : Tree) → renamed_all name new (trees_with ts t) ≡ trees_with (renamed_all name new ts) (renamed name new t)
renamed_all-trees_with name new none t = refl
renamed_all-trees_with name new (more u us) t = ap (λ vs. more (renamed name new u) vs) (renamed_all-trees_with name new us t)

-- where the last member has the name, another comes before it
pub preceded_all-own : (name : Name) (node : Tree) (ts : Trees) (t : Tree) → has_name name t ≡ true → preceded_all name node (trees_with ts t) ≡ trees_with (trees_with (preceded_all name node ts) node) (preceded name node t)
preceded_all-own name node none t own = ap (λ b. cond b (more node (more (preceded name node t) none)) (more (preceded name node t) none)) own
preceded_all-own name node (more u us) t own =
    let first = preceded name node u in
    let later = preceded_all-own name node us t own in
    elim (has_name name u) as (λ b. cond b (more node (more first (preceded_all name node (trees_with us t)))) (more first (preceded_all name node (trees_with us t))) ≡ trees_with (trees_with (cond b (more node (more first (preceded_all name node us))) (more first (preceded_all name node us))) node) (preceded name node t)) [
      | true ↦ ap (λ vs. more node (more first vs)) later
      | false ↦ ap (λ vs. more first vs) later
    ]

pub preceded_all-else : (name : Name) (node : Tree) (ts : Trees) (t : Tree) → has_name name t ≡ false → preceded_all name node (trees_with ts t) ≡ trees_with (preceded_all name node ts) (preceded name node t)
preceded_all-else name node none t other = ap (λ b. cond b (more node (more (preceded name node t) none)) (more (preceded name node t) none)) other
preceded_all-else name node (more u us) t other =
    let first = preceded name node u in
    let later = preceded_all-else name node us t other in
    elim (has_name name u) as (λ b. cond b (more node (more first (preceded_all name node (trees_with us t)))) (more first (preceded_all name node (trees_with us t))) ≡ trees_with (cond b (more node (more first (preceded_all name node us))) (more first (preceded_all name node us))) (preceded name node t)) [
      | true ↦ ap (λ vs. more node (more first vs)) later
      | false ↦ ap (λ vs. more first vs) later
    ]

-- where it has the name it goes
pub without_all-own : (name : Name) (ts : Trees) (t : Tree) → has_name name t ≡ true → without_all name (trees_with ts t) ≡ without_all name ts
without_all-own name none t own = ap (λ b. cond b none (more (without name t) none)) own
without_all-own name (more u us) t own =
    let later = without_all-own name us t own in
    elim (has_name name u) as (λ b. cond b (without_all name (trees_with us t)) (more (without name u) (without_all name (trees_with us t))) ≡ cond b (without_all name us) (more (without name u) (without_all name us))) [
      | true ↦ later
      | false ↦ ap (λ vs. more (without name u) vs) later
    ]

pub without_all-else : (name : Name) (ts : Trees) (t : Tree) → has_name name t ≡ false → without_all name (trees_with ts t) ≡ trees_with (without_all name ts) (without name t)
without_all-else name none t other = ap (λ b. cond b none (more (without name t) none)) other
without_all-else name (more u us) t other =
    let later = without_all-else name us t other in
    elim (has_name name u) as (λ b. cond b (without_all name (trees_with us t)) (more (without name u) (without_all name (trees_with us t))) ≡ trees_with (cond b (without_all name us) (more (without name u) (without_all name us))) (without name t)) [
      | true ↦ later
      | false ↦ ap (λ vs. more (without name u) vs) later
    ]
