-- Steps of the code and of the definitions.
use Rattle.std.proofs.Common.{◌≡◌, ℕ, Bool, false, not, ◌&&◌, ◌||◌, List, [], ◌∷◌, map, ◌+◌, ◌++◌, refl, sym, ap, ap₂, ◌∙◌, eqb, ltb, append_assoc}
use Rattle.std.proofs.lemmas.Bool.{ne_eqb}
use Rattle.std.proofs.lemmas.List.{map-append}
use Rattle.std.specs.List.{list_any}
use Rattle.cg_meaning.specs.Order.{is_sequence, is_before, is_after, passes_before, passes_after, precedes}
use Rattle.cg_meaning.specs.Tree as spec
use Rattle.cg_meaning.specs.Tree.{Tree, Trees, more, paths_of, paths_of_all}
use Rattle.cg_model.specs.Group.{kind_in}
use Rattle.cg_listing.specs.Step.{step_of}
use Rattle.cg_listing.specs.declared.path.Step.{Step}

pub passes_before-map : (path : List Step) → passes_before (map step_of path) ≡ list_any (λ step. is_before (kind_in step.kind)) path
passes_before-map [] = refl
passes_before-map (s ∷ p) = ap (λ b. is_before (kind_in s.kind) || b) (passes_before-map p)

pub passes_after-map : (path : List Step) → passes_after (map step_of path) ≡ list_any (λ step. is_after (kind_in step.kind)) path
passes_after-map [] = refl
passes_after-map (s ∷ p) = ap (λ b. is_after (kind_in s.kind) || b) (passes_after-map p)

-- two paths that part at their first steps
pub precedes-parting : (s t : Step) (p q : List Step) → (s.place ≡ t.place → ⊥) →
    precedes (map step_of (s ∷ p)) (map step_of (t ∷ q))
    ≡ (is_sequence (kind_in s.kind) && ltb s.place t.place
    && not (list_any (λ step. is_before (kind_in step.kind)) p) && not (list_any (λ step. is_after (kind_in step.kind)) q))
precedes-parting s t p q part =
    let other : eqb s.place t.place ≡ false = ne_eqb s.place t.place part in
    let earlier : Bool = is_sequence (kind_in s.kind) && ltb s.place t.place in
    rw other (ap₂ (λ before after. earlier && not before && not after) (passes_before-map p) (passes_after-map q))

-- further steps behind one step
map-under : (to : List spec.Step) (step : spec.Step) (ps : List (List spec.Step)) →
    map (λ path. to ++ path) (map (λ path. step ∷ path) ps) ≡ map (λ path. (to ++ step ∷ []) ++ path) ps
map-under to step [] = refl
map-under to step (p ∷ ps) = ap₂ (λ q qs. q ∷ qs) (sym (append_assoc to (step ∷ []) p)) (map-under to step ps)

-- the paths of one more member
pub paths-next : (done more_done : List (List spec.Step)) (to inner : List spec.Step) (kind : spec.Kind) (place : ℕ) (t : Tree) (ts : Trees) →
    inner ≡ to ++ record { kind = kind; place = place } ∷ [] → more_done ≡ done ++ map (λ path. inner ++ path) (paths_of t) →
    more_done ++ map (λ path. to ++ path) (paths_of_all kind (place + 1) ts) ≡ done ++ map (λ path. to ++ path) (paths_of_all kind place (more t ts))
paths-next done more_done to inner kind place t ts inner_is more_is =
    let step : spec.Step = record { kind = kind; place = place } in
    let own : List (List spec.Step) = map (λ path. to ++ path) (map (λ path. step ∷ path) (paths_of t)) in
    let later : List (List spec.Step) = map (λ path. to ++ path) (paths_of_all kind (place + 1) ts) in
    let e : more_done ≡ done ++ own =
    more_is ∙ ap (λ path. done ++ map (λ p. path ++ p) (paths_of t)) inner_is ∙ ap (λ ps. done ++ ps) (sym (map-under to step (paths_of t))) in
    ap (λ ps. ps ++ later) e ∙ append_assoc done own later
    ∙ ap (λ ps. done ++ ps) (sym (map-append (λ path. to ++ path) (map (λ path. step ∷ path) (paths_of t)) (paths_of_all kind (place + 1) ts)))

-- no steps before a path
map-nothing : (ps : List (List spec.Step)) → map (λ path. [] ++ path) ps ≡ ps
map-nothing [] = refl
map-nothing (p ∷ ps) = ap (λ qs. p ∷ qs) (map-nothing ps)

-- the paths of all members, from the root
pub paths-all : (none_done all_done : List (List spec.Step)) (to : List spec.Step) (kind : spec.Kind) (ts us : Trees) →
    none_done ≡ [] → to ≡ [] → ts ≡ us → all_done ≡ none_done ++ map (λ path. to ++ path) (paths_of_all kind 0 ts) →
    all_done ≡ paths_of_all kind 0 us
paths-all none_done all_done to kind ts us nothing root same all_is =
    all_is ∙ ap₂ (λ done start. done ++ map (λ path. start ++ path) (paths_of_all kind 0 ts)) nothing root
    ∙ map-nothing (paths_of_all kind 0 ts) ∙ ap (λ vs. paths_of_all kind 0 vs) same
