-- A changed model keeps places and ranges.
use Rattle.std.proofs.Common.{◌≡◌, Bool, true, false, cond, [], ◌∷◌, ◌++◌, refl, sym, ap, ap₂, subst, ◌∙◌, Option, Some, None}
use Rattle.std.specs.Prelude.{bytes_eq, All, option_map}
use Rattle.std.specs.List.{filter}
use Rattle.std.proofs.lemmas.List.Elements.{All-nil, All-cons, All-head, All-append, filter-append}
use Rattle.cg_meaning.specs.Tree.{Name, Dating, Tree, Leaf, Boundary, Group, Trees, none, more, Kind, Phase, datings_of, datings_of_all, nodes_of, nodes_of_all}
use Rattle.cg_meaning.specs.Order.{is_sequence}
use Rattle.cg_model.specs.Found.{has_name}
use Rattle.cg_model.specs.Limits.{HoldsBoundaries, IsInPlace, AreInPlace, IsInRange, AreInRange}
use Rattle.cg_model.specs.Node.{trees_with}
use Rattle.cg_model.proofs.FoundLemmas.{named}
use Rattle.cg_model.proofs.PlaceLemmas.{All-left, All-right}
use Rattle.cg_model.proofs.PushLemmas.{AreInPlace-trees_with, AreInRange-trees_with}
use Rattle.cg_sharing.specs.Journal.{IsInOrder}
use Rattle.cg_sharing.specs.Edit.{Edit, Set, Add, InsertBefore, Drop, Rename, a_group, target_of, dated, dated_all, extended, extended_all, preceded, preceded_all, without, without_all, renamed, renamed_all, edited, or_else, misplaced_in, misplaced_in_all, misplaced_under, parent_below, parent_in, wrong_kind}
use Rattle.cg_edit.proofs.NamedLemmas.{held, Here, Below, Behind, at, nowhere, preceded-other, preceded_all-other}

-- a new dating keeps places
mutual
  dated-placed : (name : Name) (dating : Dating) (kind : Kind) (t : Tree) → IsInPlace kind t → IsInPlace kind (dated name dating t)
  dated-placed name dating kind (Leaf other before) placed =
      elim (bytes_eq other name) as (λ b. IsInPlace kind (cond b (Leaf other dating) (Leaf other before))) [ true ↦ tt | false ↦ tt ]
  dated-placed name dating kind (Boundary other) placed = placed
  dated-placed name dating kind (Group inner other ts) placed = dated_all-placed name dating inner ts placed

  dated_all-placed : (name : Name) (dating : Dating) (kind : Kind) (ts : Trees) → AreInPlace kind ts → AreInPlace kind (dated_all name dating ts)
  dated_all-placed name dating kind none placed = tt
  dated_all-placed name dating kind (more t ts) placed = (dated-placed name dating kind t placed.0, dated_all-placed name dating kind ts placed.1)

-- and ranges, where it is in range
mutual
  dated-ranged : (name : Name) (dating : Dating) (t : Tree) → IsInRange dating → All IsInRange (datings_of t) → All IsInRange (datings_of (dated name dating t))
  dated-ranged name dating (Leaf other before) new old =
      elim (bytes_eq other name) as (λ b. All IsInRange (datings_of (cond b (Leaf other dating) (Leaf other before)))) [
        | true ↦ All-cons IsInRange dating [] new (All-nil IsInRange)
        | false ↦ old
      ]
  dated-ranged name dating (Boundary other) new old = old
  dated-ranged name dating (Group kind other ts) new old = dated_all-ranged name dating ts new old

  dated_all-ranged : (name : Name) (dating : Dating) (ts : Trees) → IsInRange dating → AreInRange ts → AreInRange (dated_all name dating ts)
  dated_all-ranged name dating none new old = All-nil IsInRange
  dated_all-ranged name dating (more t ts) new old =
      All-append IsInRange (datings_of (dated name dating t)) (datings_of_all (dated_all name dating ts))
      (dated-ranged name dating t new (All-left IsInRange (datings_of t) (datings_of_all ts) old))
      (dated_all-ranged name dating ts new (All-right IsInRange (datings_of t) (datings_of_all ts) old))

-- so does a further member that is in range
mutual
  extended-ranged : (name : Name) (node t : Tree) → All IsInRange (datings_of node) → All IsInRange (datings_of t) → All IsInRange (datings_of (extended name node t))
  extended-ranged name node (Leaf other dating) new old = old
  extended-ranged name node (Boundary other) new old = old
  extended-ranged name node (Group kind other ts) new old =
      elim (bytes_eq other name) as (λ b. All IsInRange (datings_of (cond b (Group kind other (trees_with ts node)) (Group kind other (extended_all name node ts))))) [
        | true ↦ AreInRange-trees_with ts node old new
        | false ↦ extended_all-ranged name node ts new old
      ]

  extended_all-ranged : (name : Name) (node : Tree) (ts : Trees) → All IsInRange (datings_of node) → AreInRange ts → AreInRange (extended_all name node ts)
  extended_all-ranged name node none new old = All-nil IsInRange
  extended_all-ranged name node (more t ts) new old =
      All-append IsInRange (datings_of (extended name node t)) (datings_of_all (extended_all name node ts))
      (extended-ranged name node t new (All-left IsInRange (datings_of t) (datings_of_all ts) old))
      (extended_all-ranged name node ts new (All-right IsInRange (datings_of t) (datings_of_all ts) old))

-- no Boundary stands out of place
sequence_holds : (parent : Kind) → (cond (is_sequence parent) None (Some parent)) ≡ None → HoldsBoundaries parent
sequence_holds parent is = elim (is_sequence parent) as (λ b. cond b None (Some parent) ≡ None → b ≡ true) [ true ↦ λ h. refl | false ↦ λ h. absurd (cc) ] is

neither : (first second : Option Kind) → or_else first second ≡ None → (first ≡ None) × (second ≡ None)
neither None second is = (refl, is)
neither (Some kind) second is = absurd (cc)

mutual
  misplaced_in-none : (kind : Kind) (t : Tree) → misplaced_in kind t ≡ None → IsInPlace kind t
  misplaced_in-none kind (Leaf name dating) is = tt
  misplaced_in-none kind (Boundary name) is = sequence_holds kind is
  misplaced_in-none kind (Group inner name ts) is = misplaced_in_all-none inner ts is

  misplaced_in_all-none : (kind : Kind) (ts : Trees) → misplaced_in_all kind ts ≡ None → AreInPlace kind ts
  misplaced_in_all-none kind none is = tt
  misplaced_in_all-none kind (more t ts) is =
      let both = neither (misplaced_in kind t) (misplaced_in_all kind ts) is in
      (misplaced_in-none kind t both.0, misplaced_in_all-none kind ts both.1)

-- the node may stand in this one
abbrev Takes : Tree → Tree → Type 0
Takes node (Leaf name dating) = Unit {0}
Takes node (Boundary name) = Unit {0}
Takes node (Group kind name ts) = IsInPlace kind node

plain : (found : Option Kind) → option_map (λ k. a_group k) found ≡ None → found ≡ None
plain None is = refl
plain (Some kind) is = absurd (cc)

Takes-none : (name : Name) (node t : Tree) (ts : Trees) → wrong_kind (Add name node) t ts ≡ None → Takes node t
Takes-none name node (Leaf other dating) ts is = tt
Takes-none name node (Boundary other) ts is = tt
Takes-none name node (Group kind other us) ts is = misplaced_in-none kind node (plain (misplaced_in kind node) is)

-- a further member keeps places, where each node of the name takes it
mutual
  extended-placed : (name : Name) (node : Tree) (parent : Kind) (t : Tree) → All (Takes node) (filter (has_name name) (nodes_of t)) → IsInPlace parent t → IsInPlace parent (extended name node t)
  extended-placed name node parent (Leaf other dating) takes placed = placed
  extended-placed name node parent (Boundary other) takes placed = placed
  extended-placed name node parent (Group kind other ts) takes placed =
      elim (bytes_eq other name) as (λ b. All (Takes node) (cond b (Group kind other ts ∷ filter (has_name name) (nodes_of_all ts)) (filter (has_name name) (nodes_of_all ts))) → IsInPlace parent (cond b (Group kind other (trees_with ts node)) (Group kind other (extended_all name node ts)))) [
        | true ↦ λ here. AreInPlace-trees_with kind ts node placed (All-head (Takes node) (Group kind other ts) (filter (has_name name) (nodes_of_all ts)) here)
        | false ↦ λ below. extended_all-placed name node kind ts below placed
      ] takes

  extended_all-placed : (name : Name) (node : Tree) (parent : Kind) (ts : Trees) → All (Takes node) (filter (has_name name) (nodes_of_all ts)) → AreInPlace parent ts → AreInPlace parent (extended_all name node ts)
  extended_all-placed name node parent none takes placed = tt
  extended_all-placed name node parent (more t ts) takes placed =
      let first = filter (has_name name) (nodes_of t) in
      let later = filter (has_name name) (nodes_of_all ts) in
      let both : All (Takes node) (first ++ later) = subst (All (Takes node)) (filter-append (has_name name) (nodes_of t) (nodes_of_all ts)) takes in (
        extended-placed name node parent t (All-left (Takes node) first later both) placed.0,
        extended_all-placed name node parent ts (All-right (Takes node) first later both) placed.1,
      )

-- below a node that hasn't the name, and behind it, a name that no node has stands in no group
mutual
  parent_below-other : (name : Name) (t : Tree) → named name (held t) ≡ [] → parent_below name t ≡ None
  parent_below-other name (Leaf other dating) is = refl
  parent_below-other name (Boundary other) is = refl
  parent_below-other name (Group kind other ts) is = parent_in-other name kind ts is

  parent_in-other : (name : Name) (kind : Kind) (ts : Trees) → named name ts ≡ [] → parent_in name kind ts ≡ None
  parent_in-other name kind none is = refl
  parent_in-other name kind (more t ts) is =
      let no = nowhere name t ts is in
      let found : parent_in name kind (more t ts) ≡ or_else (parent_below name t) (parent_in name kind ts) = ap (λ b. cond b (Some kind) (or_else (parent_below name t) (parent_in name kind ts))) no.here in
      rw (found, parent_below-other name t no.below) (parent_in-other name kind ts no.behind)

-- the one node of the name stands in such a group, and where a further node may stand in that all is in its place
record IsParent (found : Option Kind) (node : Tree) (Placed : Type 0) : Type 0 where
  group : Kind
  is : found ≡ Some group
  placed : IsInPlace group node → Placed

mutual
  preceded-placed : (name : Name) (node u : Tree) (parent : Kind) (t : Tree) → named name (held t) ≡ u ∷ [] → IsInPlace parent t → IsParent (parent_below name t) node (IsInPlace parent (preceded name node t))
  preceded-placed name node u parent (Leaf other dating) only placed = absurd (cc)
  preceded-placed name node u parent (Boundary other) only placed = absurd (cc)
  preceded-placed name node u parent (Group kind other ts) only placed = preceded_all-placed name node u kind ts only placed

  preceded_all-placed : (name : Name) (node u : Tree) (parent : Kind) (ts : Trees) → named name ts ≡ u ∷ [] → AreInPlace parent ts → IsParent (parent_in name parent ts) node (AreInPlace parent (preceded_all name node ts))
  preceded_all-placed name node u parent none only placed = absurd (cc)
  preceded_all-placed name node u parent (more t ts) only placed =
      let first = preceded name node t in
      let later = preceded_all name node ts in
      let around : Bool → Option Kind = λ b. cond b (Some parent) (or_else (parent_below name t) (parent_in name parent ts)) in
      let changed : Bool → Trees = λ b. cond b (more node (more first later)) (more first later) in
      elim (at name u t ts only) [
        | Here own same below behind ↦ record {
          group = parent;
          is = ap around own;
          placed = λ here.
              subst (λ us. AreInPlace parent us) (sym (ap changed own))
              (here, (subst (λ v. IsInPlace parent v) (sym (preceded-other name node t below)) placed.0, subst (λ us. AreInPlace parent us) (sym (preceded_all-other name node ts behind)) placed.1));
        }
        | Below own below behind ↦
            let s = preceded-placed name node u parent t below placed.0 in
            record {
              group = s.group;
              is = ap around own ∙ ap (λ found. or_else found (parent_in name parent ts)) s.is;
              placed = λ here.
                  subst (λ us. AreInPlace parent us) (sym (ap changed own))
                  (s.placed here, subst (λ us. AreInPlace parent us) (sym (preceded_all-other name node ts behind)) placed.1);
            }
        | Behind own below behind ↦
            let s = preceded_all-placed name node u parent ts behind placed.1 in
            record {
              group = s.group;
              is = ap around own ∙ ap (λ found. or_else found (parent_in name parent ts)) (parent_below-other name t below) ∙ s.is;
              placed = λ here.
                  subst (λ us. AreInPlace parent us) (sym (ap changed own))
                  (subst (λ v. IsInPlace parent v) (sym (preceded-other name node t below)) placed.0, s.placed here);
            }
      ]

-- a node that is put before another keeps ranges, where it is in range
mutual
  preceded-ranged : (name : Name) (node t : Tree) → All IsInRange (datings_of node) → All IsInRange (datings_of t) → All IsInRange (datings_of (preceded name node t))
  preceded-ranged name node (Leaf other dating) new old = old
  preceded-ranged name node (Boundary other) new old = old
  preceded-ranged name node (Group kind other ts) new old = preceded_all-ranged name node ts new old

  preceded_all-ranged : (name : Name) (node : Tree) (ts : Trees) → All IsInRange (datings_of node) → AreInRange ts → AreInRange (preceded_all name node ts)
  preceded_all-ranged name node none new old = All-nil IsInRange
  preceded_all-ranged name node (more t ts) new old =
      let rest : AreInRange (more (preceded name node t) (preceded_all name node ts)) =
      All-append IsInRange (datings_of (preceded name node t)) (datings_of_all (preceded_all name node ts))
      (preceded-ranged name node t new (All-left IsInRange (datings_of t) (datings_of_all ts) old))
      (preceded_all-ranged name node ts new (All-right IsInRange (datings_of t) (datings_of_all ts) old)) in
      elim (has_name name t) as (λ b. AreInRange (cond b (more node (more (preceded name node t) (preceded_all name node ts))) (more (preceded name node t) (preceded_all name node ts)))) [
        | true ↦ All-append IsInRange (datings_of node) (datings_of_all (more (preceded name node t) (preceded_all name node ts))) new rest
        | false ↦ rest
      ]

-- what is left without a node keeps both
mutual
  without-placed : (name : Name) (kind : Kind) (t : Tree) → IsInPlace kind t → IsInPlace kind (without name t)
  without-placed name kind (Leaf other dating) placed = placed
  without-placed name kind (Boundary other) placed = placed
  without-placed name kind (Group inner other ts) placed = without_all-placed name inner ts placed

  without_all-placed : (name : Name) (kind : Kind) (ts : Trees) → AreInPlace kind ts → AreInPlace kind (without_all name ts)
  without_all-placed name kind none placed = tt
  without_all-placed name kind (more t ts) placed =
      elim (has_name name t) as (λ b. AreInPlace kind (cond b (without_all name ts) (more (without name t) (without_all name ts)))) [
        | true ↦ without_all-placed name kind ts placed.1
        | false ↦ (without-placed name kind t placed.0, without_all-placed name kind ts placed.1)
      ]

mutual
  without-ranged : (name : Name) (t : Tree) → All IsInRange (datings_of t) → All IsInRange (datings_of (without name t))
  without-ranged name (Leaf other dating) old = old
  without-ranged name (Boundary other) old = old
  without-ranged name (Group kind other ts) old = without_all-ranged name ts old

  without_all-ranged : (name : Name) (ts : Trees) → AreInRange ts → AreInRange (without_all name ts)
  without_all-ranged name none old = All-nil IsInRange
  without_all-ranged name (more t ts) old =
      let first = All-left IsInRange (datings_of t) (datings_of_all ts) old in
      let later = without_all-ranged name ts (All-right IsInRange (datings_of t) (datings_of_all ts) old) in
      elim (has_name name t) as (λ b. AreInRange (cond b (without_all name ts) (more (without name t) (without_all name ts)))) [
        | true ↦ later
        | false ↦ All-append IsInRange (datings_of (without name t)) (datings_of_all (without_all name ts)) (without-ranged name t first) later
      ]

-- so does a new name, which changes no dating
mutual
  renamed-placed : (name new : Name) (kind : Kind) (t : Tree) → IsInPlace kind t → IsInPlace kind (renamed name new t)
  renamed-placed name new kind (Leaf other dating) placed = placed
  renamed-placed name new kind (Boundary other) placed = placed
  renamed-placed name new kind (Group inner other ts) placed = renamed_all-placed name new inner ts placed

  renamed_all-placed : (name new : Name) (kind : Kind) (ts : Trees) → AreInPlace kind ts → AreInPlace kind (renamed_all name new ts)
  renamed_all-placed name new kind none placed = tt
  renamed_all-placed name new kind (more t ts) placed = (renamed-placed name new kind t placed.0, renamed_all-placed name new kind ts placed.1)

mutual
  datings-renamed : (name new : Name) (t : Tree) → datings_of (renamed name new t) ≡ datings_of t
  datings-renamed name new (Leaf other dating) = refl
  datings-renamed name new (Boundary other) = refl
  datings-renamed name new (Group kind other ts) = datings-renamed_all name new ts

  datings-renamed_all : (name new : Name) (ts : Trees) → datings_of_all (renamed_all name new ts) ≡ datings_of_all ts
  datings-renamed_all name new none = refl
  datings-renamed_all name new (more t ts) = ap₂ (λ ds es. ds ++ es) (datings-renamed name new t) (datings-renamed_all name new ts)

-- a change that is accepted keeps places and ranges
pub edited-placed : (edit : Edit) (ts : Trees) (t : Tree) → named (target_of edit) ts ≡ t ∷ [] → wrong_kind edit t ts ≡ None → AreInPlace Phase ts → AreInPlace Phase (edited edit ts)
edited-placed (Set name dating) ts t is right placed = dated_all-placed name dating Phase ts placed
edited-placed (Add name node) ts t is right placed =
    extended_all-placed name node Phase ts (subst (All (Takes node)) (sym is) (All-cons (Takes node) t [] (Takes-none name node t ts right) (All-nil (Takes node)))) placed
edited-placed (InsertBefore name node) ts t is right placed =
    let s = preceded_all-placed name node t Phase ts is placed in
    let fits : misplaced_under (Some s.group) node ≡ None = ap (λ found. misplaced_under found node) (sym s.is) ∙ right in
    s.placed (misplaced_in-none s.group node (plain (misplaced_in s.group node) fits))
edited-placed (Drop name) ts t is right placed = without_all-placed name Phase ts placed
edited-placed (Rename name new) ts t is right placed = renamed_all-placed name new Phase ts placed

pub edited-ranged : (edit : Edit) (ts : Trees) → IsInOrder edit → AreInRange ts → AreInRange (edited edit ts)
edited-ranged (Set name dating) ts order ranged = dated_all-ranged name dating ts order.1 ranged
edited-ranged (Add name node) ts order ranged = extended_all-ranged name node ts order.1 ranged
edited-ranged (InsertBefore name node) ts order ranged = preceded_all-ranged name node ts order.1 ranged
edited-ranged (Drop name) ts order ranged = without_all-ranged name ts ranged
edited-ranged (Rename name new) ts order ranged = subst (λ datings. All IsInRange datings) (sym (datings-renamed_all name new ts)) ranged
