-- The search for a name, node by node.
use Rattle.std.proofs.Common.{◌≡◌, ℕ, zero, suc, ◌+◌, ◌≤◌, true, false, cond, List, [], ◌∷◌, ◌++◌, length, take, refl, ap, ap₂, ◌∙◌, arith, add-zero, Some}
use Rattle.std.specs.Prelude.{slice_get}
use Rattle.std.specs.List.{filter}
use Rattle.cg_meaning.specs.Tree.{Name, Tree, Trees, nodes_of_all}
use Rattle.cg_model.specs.declared.find.Found.TheVariants.{One, Many}
use Rattle.cg_model.specs.Found.{has_name, places_from, found_at, found_in}

-- no more places than nodes
pub length-places_from : (place : ℕ) (name : Name) (nodes : List Tree) → length (places_from place name nodes) ≤ length nodes
length-places_from place name [] = omega arith
length-places_from place name (t ∷ ts) = let later = length-places_from (place + 1) name ts in elim (has_name name t) as (λ b. length (cond b (place ∷ places_from (place + 1) name ts) (places_from (place + 1) name ts)) ≤ length (t ∷ ts)) [
  | true ↦ omega (arith, later)
  | false ↦ omega (arith, later)
]

-- one more node of the name adds its place
pub places_from-yes : (place : ℕ) (name : Name) (nodes : List Tree) (n : ℕ) (t : Tree) → slice_get nodes n ≡ Some t → has_name name t ≡ true → places_from place name (take (suc n) nodes) ≡ places_from place name (take n nodes) ++ (place + n) ∷ []
places_from-yes place name [] n t is named = absurd (cc)
places_from-yes place name (u ∷ us) zero t is named =
    let same : u ≡ t = cc in let own : has_name name u ≡ true = ap (λ v. has_name name v) same ∙ named in
    rw (own, add-zero)
places_from-yes place name (u ∷ us) (suc n) t is named =
    let later = places_from-yes (place + 1) name us n t is named in
    let at : (place + 1) + n ≡ place + suc n = omega arith in
    let all = later ∙ ap (λ k. places_from (place + 1) name (take n us) ++ k ∷ []) at in
    elim (has_name name u) as (λ b. cond b (place ∷ places_from (place + 1) name (take (suc n) us)) (places_from (place + 1) name (take (suc n) us)) ≡ cond b (place ∷ places_from (place + 1) name (take n us)) (places_from (place + 1) name (take n us)) ++ (place + suc n) ∷ []) [
      | true ↦ ap (λ ps. place ∷ ps) all
      | false ↦ all
    ]

-- one of another name adds none
pub places_from-no : (place : ℕ) (name : Name) (nodes : List Tree) (n : ℕ) (t : Tree) → slice_get nodes n ≡ Some t → has_name name t ≡ false → places_from place name (take (suc n) nodes) ≡ places_from place name (take n nodes)
places_from-no place name [] n t is other = absurd (cc)
places_from-no place name (u ∷ us) zero t is other =
    let same : u ≡ t = cc in let own : has_name name u ≡ false = ap (λ v. has_name name v) same ∙ other in
    rw own
places_from-no place name (u ∷ us) (suc n) t is other = ap (λ ps. cond (has_name name u) (place ∷ ps) ps) (places_from-no (place + 1) name us n t is other)

-- as many as are answered
pub found_at-Many : (places : List ℕ) (count : ℕ) → found_at places ≡ Many count → length places ≡ count
found_at-Many [] count is = absurd (cc)
found_at-Many (p ∷ []) count is = absurd (cc)
found_at-Many (p ∷ q ∷ ps) count is = cc

-- the one place is the last that was met
pub found_at-One : (places : List ℕ) (place last : ℕ) → found_at (places ++ last ∷ []) ≡ One place → place ≡ last
found_at-One [] place last is = cc
found_at-One (p ∷ []) place last is = absurd (cc)
found_at-One (p ∷ q ∷ ps) place last is = absurd (cc)

-- one place that is answered is the only one that was met
one_place : (places : List ℕ) (place : ℕ) → found_at places ≡ One place → places ≡ place ∷ []
one_place [] place is = absurd (cc)
one_place (p ∷ []) place is = let same : p ≡ place = cc in ap (λ q. q ∷ []) same
one_place (p ∷ q ∷ ps) place is = absurd (cc)

-- the nodes of a name
abbrev pub named : Name → Trees → List Tree
named name ts = filter (has_name name) (nodes_of_all ts)

-- without a place no node has the name
none_named : (place : ℕ) (name : Name) (nodes : List Tree) → places_from place name nodes ≡ [] → filter (has_name name) nodes ≡ []
none_named place name [] is = refl
none_named place name (t ∷ ts) is = elim (has_name name t) as (λ b. cond b (place ∷ places_from (place + 1) name ts) (places_from (place + 1) name ts) ≡ [] → cond b (t ∷ filter (has_name name) ts) (filter (has_name name) ts) ≡ []) [
  | true ↦ λ h. absurd (cc)
  | false ↦ λ h. none_named (place + 1) name ts h
] is

-- no place comes before the first node's
not_before : (place : ℕ) (name : Name) (nodes : List Tree) (p : ℕ) (ps : List ℕ) → places_from place name nodes ≡ p ∷ ps → place ≤ p
not_before place name [] p ps is = absurd (cc)
not_before place name (t ∷ ts) p ps is = elim (has_name name t) as (λ b. cond b (place ∷ places_from (place + 1) name ts) (places_from (place + 1) name ts) ≡ p ∷ ps → place ≤ p) [
  | true ↦ λ h. let same : place ≡ p = cc in omega (arith, same)
  | false ↦ λ h. omega (arith, not_before (place + 1) name ts p ps h)
] is

-- the node at the only place is the only one of the name
only : (first n : ℕ) (name : Name) (nodes : List Tree) (t : Tree) → places_from first name nodes ≡ (first + n) ∷ [] → slice_get nodes n ≡ Some t → filter (has_name name) nodes ≡ t ∷ []
only first n name [] t is here = absurd (cc)
only first zero name (u ∷ us) t is here =
    let same : u ≡ t = cc in
    elim (has_name name u) as (λ b. cond b (first ∷ places_from (first + 1) name us) (places_from (first + 1) name us) ≡ (first + zero) ∷ [] → cond b (u ∷ filter (has_name name) us) (filter (has_name name) us) ≡ t ∷ []) [
      | true ↦ λ places. let left : places_from (first + 1) name us ≡ [] = cc in ap₂ (λ v vs. v ∷ vs) same (none_named (first + 1) name us left)
      | false ↦ λ places. absurd (omega (arith, not_before (first + 1) name us (first + zero) [] places))
    ] is
only first (suc n) name (u ∷ us) t is here =
    elim (has_name name u) as (λ b. cond b (first ∷ places_from (first + 1) name us) (places_from (first + 1) name us) ≡ (first + suc n) ∷ [] → cond b (u ∷ filter (has_name name) us) (filter (has_name name) us) ≡ t ∷ []) [
      | true ↦ λ places. let same : first ≡ first + suc n = cc in absurd (omega (arith, same))
      | false ↦ λ places. only (first + 1) n name us t (places ∙ ap (λ p. p ∷ []) (omega arith)) here
    ] is

pub found-One : (name : Name) (ts : Trees) (place : ℕ) (t : Tree) → found_in name (nodes_of_all ts) ≡ One place → slice_get (nodes_of_all ts) place ≡ Some t → named name ts ≡ t ∷ []
found-One name ts place t is here =
    let places : places_from 0 name (nodes_of_all ts) ≡ (0 + place) ∷ [] = one_place (places_from 0 name (nodes_of_all ts)) place is ∙ ap (λ p. p ∷ []) (omega arith) in
    only 0 place name (nodes_of_all ts) t places here
