-- Where the nodes of a name stand; and that a change for a name that no node has changes nothing.
use Rattle.std.proofs.Common.{◌≡◌, true, false, cond, List, [], ◌∷◌, ◌++◌, refl, sym, ap, ap₂, ◌∙◌, inl, inr}
use Rattle.std.specs.Prelude.{◌⊎◌, bytes_eq}
use Rattle.std.specs.List.{filter}
use Rattle.std.proofs.lemmas.List.Elements.{filter-append}
use Rattle.cg_meaning.specs.Tree.{Name, Dating, Tree, Leaf, Boundary, Group, Trees, none, more, nodes_of, nodes_of_all}
use Rattle.cg_model.specs.Found.{has_name}
use Rattle.cg_model.specs.Node.{trees_with}
use Rattle.cg_model.proofs.FoundLemmas.{named}
use Rattle.cg_sharing.specs.Edit.{dated, dated_all, extended, extended_all, preceded, preceded_all, without, without_all, renamed, renamed_all}

-- one element in two lists
pub one_of : (xs ys : List Tree) (t : Tree) → xs ++ ys ≡ t ∷ [] → ((xs ≡ t ∷ []) × (ys ≡ [])) ⊎ ((xs ≡ []) × (ys ≡ t ∷ []))
one_of [] ys t is = inr (refl, is)
one_of (x ∷ []) ys t is = let same : x ≡ t = cc in let left : ys ≡ [] = cc in inl (ap (λ u. u ∷ []) same, left)
one_of (x ∷ y ∷ xs) ys t is = absurd (cc)

pub none_of : (xs ys : List Tree) → xs ++ ys ≡ [] → (xs ≡ []) × (ys ≡ [])
none_of [] ys is = (refl, is)
none_of (x ∷ xs) ys is = absurd (cc)

-- the members of a node
abbrev pub held : Tree → Trees
held (Leaf name dating) = none
held (Boundary name) = none
held (Group kind name ts) = ts

-- a node comes before those that it holds
nodes-held : (t : Tree) → nodes_of t ≡ t ∷ nodes_of_all (held t)
nodes-held (Leaf name dating) = refl
nodes-held (Boundary name) = refl
nodes-held (Group kind name ts) = refl

-- those of a name among statements
pub named-more : (name : Name) (t : Tree) (ts : Trees) → named name (more t ts) ≡ cond (has_name name t) (t ∷ (named name (held t) ++ named name ts)) (named name (held t) ++ named name ts)
named-more name t ts =
    let below = filter-append (has_name name) (nodes_of_all (held t)) (nodes_of_all ts) in
    ap (λ nodes. filter (has_name name) (nodes ++ nodes_of_all ts)) (nodes-held t)
    ∙ ap (λ nodes. cond (has_name name t) (t ∷ nodes) nodes) below

-- no node of them has it
pub record IsNowhere (name : Name) (t : Tree) (ts : Trees) : Type 0 where
  pub here : has_name name t ≡ false
  pub below : named name (held t) ≡ []
  pub behind : named name ts ≡ []

pub nowhere : (name : Name) (t : Tree) (ts : Trees) → named name (more t ts) ≡ [] → IsNowhere name t ts
nowhere name t ts is =
    elim (has_name name t) as (λ b. has_name name t ≡ b → cond b (t ∷ (named name (held t) ++ named name ts)) (named name (held t) ++ named name ts) ≡ [] → IsNowhere name t ts) [
      | true ↦ λ own h. absurd (cc)
      | false ↦ λ own h. let both = none_of (named name (held t)) (named name ts) h in record { here = own; below = both.0; behind = both.1 }
    ] refl (sym (named-more name t ts) ∙ is)

-- the one node of them that has it is the first, or stands below it, or behind
pub data IsAt (name : Name) (u t : Tree) (ts : Trees) : Type 0 where
  Here : has_name name t ≡ true → t ≡ u → named name (held t) ≡ [] → named name ts ≡ [] → IsAt name u t ts
  Below : has_name name t ≡ false → named name (held t) ≡ u ∷ [] → named name ts ≡ [] → IsAt name u t ts
  Behind : has_name name t ≡ false → named name (held t) ≡ [] → named name ts ≡ u ∷ [] → IsAt name u t ts

pub at : (name : Name) (u t : Tree) (ts : Trees) → named name (more t ts) ≡ u ∷ [] → IsAt name u t ts
at name u t ts is =
    elim (has_name name t) as (λ b. has_name name t ≡ b → cond b (t ∷ (named name (held t) ++ named name ts)) (named name (held t) ++ named name ts) ≡ u ∷ [] → IsAt name u t ts) [
      | true ↦ λ own h.
          let same : t ≡ u = cc in
          let rest : named name (held t) ++ named name ts ≡ [] = cc in
          let both = none_of (named name (held t)) (named name ts) rest in
          Here own same both.0 both.1
      | false ↦ λ own h.
          elim (one_of (named name (held t)) (named name ts) u h) [
            | inl first ↦ Below own first.0 first.1
            | inr later ↦ Behind own later.0 later.1
          ]
    ] refl (sym (named-more name t ts) ∙ is)

-- where no node has the name, nothing is dated
mutual
  pub dated-other : (name : Name) (dating : Dating) (t : Tree) → filter (has_name name) (nodes_of t) ≡ [] → dated name dating t ≡ t
  dated-other name dating (Leaf other before) is =
      elim (bytes_eq other name) as (λ b. cond b (Leaf other before ∷ []) [] ≡ [] → cond b (Leaf other dating) (Leaf other before) ≡ Leaf other before) [
        | true ↦ λ h. absurd (cc)
        | false ↦ λ h. refl
      ] is
  dated-other name dating (Boundary other) is = refl
  dated-other name dating (Group kind other ts) is =
      elim (bytes_eq other name) as (λ b. cond b (Group kind other ts ∷ filter (has_name name) (nodes_of_all ts)) (filter (has_name name) (nodes_of_all ts)) ≡ [] → Group kind other (dated_all name dating ts) ≡ Group kind other ts) [
        | true ↦ λ h. absurd (cc)
        | false ↦ λ h. ap (λ us. Group kind other us) (dated_all-other name dating ts h)
      ] is

  pub dated_all-other : (name : Name) (dating : Dating) (ts : Trees) → filter (has_name name) (nodes_of_all ts) ≡ [] → dated_all name dating ts ≡ ts
  dated_all-other name dating none is = refl
  dated_all-other name dating (more t ts) is =
      let both = none_of (filter (has_name name) (nodes_of t)) (filter (has_name name) (nodes_of_all ts)) (sym (filter-append (has_name name) (nodes_of t) (nodes_of_all ts)) ∙ is) in
      ap₂ (λ u us. more u us) (dated-other name dating t both.0) (dated_all-other name dating ts both.1)

-- nor extended
mutual
  pub extended-other : (name : Name) (node t : Tree) → filter (has_name name) (nodes_of t) ≡ [] → extended name node t ≡ t
  extended-other name node (Leaf other before) is = refl
  extended-other name node (Boundary other) is = refl
  extended-other name node (Group kind other ts) is =
      elim (bytes_eq other name) as (λ b. cond b (Group kind other ts ∷ filter (has_name name) (nodes_of_all ts)) (filter (has_name name) (nodes_of_all ts)) ≡ [] → cond b (Group kind other (trees_with ts node)) (Group kind other (extended_all name node ts)) ≡ Group kind other ts) [
        | true ↦ λ h. absurd (cc)
        | false ↦ λ h. ap (λ us. Group kind other us) (extended_all-other name node ts h)
      ] is

  pub extended_all-other : (name : Name) (node : Tree) (ts : Trees) → filter (has_name name) (nodes_of_all ts) ≡ [] → extended_all name node ts ≡ ts
  extended_all-other name node none is = refl
  extended_all-other name node (more t ts) is =
      let both = none_of (filter (has_name name) (nodes_of t)) (filter (has_name name) (nodes_of_all ts)) (sym (filter-append (has_name name) (nodes_of t) (nodes_of_all ts)) ∙ is) in
      ap₂ (λ u us. more u us) (extended-other name node t both.0) (extended_all-other name node ts both.1)

-- nor is a node put before another
mutual
  pub preceded-other : (name : Name) (node t : Tree) → named name (held t) ≡ [] → preceded name node t ≡ t
  preceded-other name node (Leaf other dating) is = refl
  preceded-other name node (Boundary other) is = refl
  preceded-other name node (Group kind other ts) is = ap (λ us. Group kind other us) (preceded_all-other name node ts is)

  pub preceded_all-other : (name : Name) (node : Tree) (ts : Trees) → named name ts ≡ [] → preceded_all name node ts ≡ ts
  preceded_all-other name node none is = refl
  preceded_all-other name node (more t ts) is =
      let no = nowhere name t ts is in
      ap (λ b. cond b (more node (more (preceded name node t) (preceded_all name node ts))) (more (preceded name node t) (preceded_all name node ts))) no.here
      ∙ ap₂ (λ u us. more u us) (preceded-other name node t no.below) (preceded_all-other name node ts no.behind)

-- nor does one go
mutual
  pub without-other : (name : Name) (t : Tree) → named name (held t) ≡ [] → without name t ≡ t
  without-other name (Leaf other dating) is = refl
  without-other name (Boundary other) is = refl
  without-other name (Group kind other ts) is = ap (λ us. Group kind other us) (without_all-other name ts is)

  pub without_all-other : (name : Name) (ts : Trees) → named name ts ≡ [] → without_all name ts ≡ ts
  without_all-other name none is = refl
  without_all-other name (more t ts) is =
      let no = nowhere name t ts is in
      ap (λ b. cond b (without_all name ts) (more (without name t) (without_all name ts))) no.here
      ∙ ap₂ (λ u us. more u us) (without-other name t no.below) (without_all-other name ts no.behind)

-- nor has one a new name
mutual
  pub renamed-other : (name new : Name) (t : Tree) → has_name name t ≡ false → named name (held t) ≡ [] → renamed name new t ≡ t
  renamed-other name new (Leaf other dating) own is = ap (λ b. Leaf (cond b new other) dating) own
  renamed-other name new (Boundary other) own is = ap (λ b. Boundary (cond b new other)) own
  renamed-other name new (Group kind other ts) own is = ap₂ (λ b us. Group kind (cond b new other) us) own (renamed_all-other name new ts is)

  pub renamed_all-other : (name new : Name) (ts : Trees) → named name ts ≡ [] → renamed_all name new ts ≡ ts
  renamed_all-other name new none is = refl
  renamed_all-other name new (more t ts) is =
      let no = nowhere name t ts is in
      ap₂ (λ u us. more u us) (renamed-other name new t no.here no.below) (renamed_all-other name new ts no.behind)

-- a node that is found by a name has it
pub found-called : (name : Name) (nodes : List Tree) (t : Tree) → filter (has_name name) nodes ≡ t ∷ [] → has_name name t ≡ true
found-called name [] t is = absurd (cc)
found-called name (u ∷ us) t is =
    elim (has_name name u) as (λ b. has_name name u ≡ b → cond b (u ∷ filter (has_name name) us) (filter (has_name name) us) ≡ t ∷ [] → has_name name t ≡ true) [
      | true ↦ λ called h. let same : u ≡ t = cc in ap (λ v. has_name name v) (sym same) ∙ called
      | false ↦ λ called h. found-called name us t h
    ] refl is
