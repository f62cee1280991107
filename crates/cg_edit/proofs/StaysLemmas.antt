-- A change of the one node that has a name, found in the text.
use Rattle.std.proofs.Common.{◌≡◌, true, false, cond, Bool, List, [], ◌∷◌, ◌++◌, sym, ap, ap₂, subst, ◌∙◌, append_assoc, inl, inr, None}
use Rattle.std.specs.Prelude.{bytes_eq}
use Rattle.std.specs.List.{filter}
use Rattle.std.proofs.lemmas.List.Elements.{filter-append}
use Rattle.std.proofs.lemmas.List.{append-nil}
use Rattle.std.proofs.lemmas.Slice.Eq.{bytes_eq-Decides}
use Rattle.cg_meaning.specs.Tree.{Name, Dating, Kind, Tree, Leaf, Boundary, Group, Trees, none, more, nodes_of, nodes_of_all, name_of}
use Rattle.cg_model.specs.Found.{has_name}
use Rattle.cg_model.specs.Node.{trees_with}
use Rattle.cg_sharing.specs.Edit.{Set, Add, InsertBefore, Drop, Rename, dated, dated_all, extended, extended_all, preceded, preceded_all, without, without_all, renamed, renamed_all, wrong_kind}
use Rattle.cg_model.proofs.FoundLemmas.{named}
use Rattle.cg_sharing.proofs.EditLemmas.{accepted}
use Rattle.cg_edit.proofs.NamedLemmas.{held, Here, Below, Behind, at, one_of, dated-other, dated_all-other, extended-other, extended_all-other, preceded-other, preceded_all-other, without-other, without_all-other, renamed-other, renamed_all-other, found-called}
use Rattle.cg_edit.specs.Stays.{Mark, Opens, Closes, marks_of, marks_of_all, IsOnlyChange, with_name, ElseStays, AllElseStays}

-- the part is all
spot : (old new was is : List Mark) → was ≡ old → is ≡ new → IsOnlyChange old new was is
spot old new was is same changed = record {
  front = [];
  back = [];
  was = same ∙ sym (append-nil old);
  is = changed ∙ sym (append-nil new);
}

grouped : (front part back ends : List Mark) → (front ++ part ++ back) ++ ends ≡ front ++ part ++ (back ++ ends)
grouped front part back ends = append_assoc (front ++ part) back ends

-- it stands in a group
spot-below : (kind : Kind) (name : Name) (old new was is : List Mark) → IsOnlyChange old new was is → IsOnlyChange old new (Opens kind name ∷ (was ++ Closes ∷ [])) (Opens kind name ∷ (is ++ Closes ∷ []))
spot-below kind name old new was is s = record {
  front = Opens kind name ∷ s.front;
  back = s.back ++ Closes ∷ [];
  was = ap (λ marks. Opens kind name ∷ (marks ++ Closes ∷ [])) s.was ∙ ap (λ marks. Opens kind name ∷ marks) (grouped s.front old s.back (Closes ∷ []));
  is = ap (λ marks. Opens kind name ∷ (marks ++ Closes ∷ [])) s.is ∙ ap (λ marks. Opens kind name ∷ marks) (grouped s.front new s.back (Closes ∷ []));
}

-- or in front of more
spot-first : (old new was is later : List Mark) → IsOnlyChange old new was is → IsOnlyChange old new (was ++ later) (is ++ later)
spot-first old new was is later s = record {
  front = s.front;
  back = s.back ++ later;
  was = ap (λ marks. marks ++ later) s.was ∙ grouped s.front old s.back later;
  is = ap (λ marks. marks ++ later) s.is ∙ grouped s.front new s.back later;
}

-- or behind some
spot-later : (old new earlier was is : List Mark) → IsOnlyChange old new was is → IsOnlyChange old new (earlier ++ was) (earlier ++ is)
spot-later old new earlier was is s = record {
  front = earlier ++ s.front;
  back = s.back;
  was = ap (λ marks. earlier ++ marks) s.was ∙ shifted s.front old s.back;
  is = ap (λ marks. earlier ++ marks) s.is ∙ shifted s.front new s.back;
}
  where
    shifted : (front part back : List Mark) → earlier ++ (front ++ part ++ back) ≡ (earlier ++ front) ++ part ++ back
    shifted front part back = sym (append_assoc earlier (front ++ part) back) ∙ ap (λ marks. marks ++ back) (sym (append_assoc earlier front part))

-- where one leaf has it, that one is dated
mutual
  dated-spot : (name : Name) (dating : Dating) (other : Name) (old : Dating) (t : Tree) → filter (has_name name) (nodes_of t) ≡ Leaf other old ∷ [] → IsOnlyChange (marks_of (Leaf other old)) (marks_of (Leaf other dating)) (marks_of t) (marks_of (dated name dating t))
  dated-spot name dating other old (Leaf own before) is =
      elim (bytes_eq own name) as (λ b. cond b (Leaf own before ∷ []) [] ≡ Leaf other old ∷ [] → IsOnlyChange (marks_of (Leaf other old)) (marks_of (Leaf other dating)) (marks_of (Leaf own before)) (marks_of (cond b (Leaf own dating) (Leaf own before)))) [
        | true ↦ λ h.
            let same : own ≡ other = cc in
            let dated_so : before ≡ old = cc in
            spot (marks_of (Leaf other old)) (marks_of (Leaf other dating)) (marks_of (Leaf own before)) (marks_of (Leaf own dating))
            (ap₂ (λ n d. marks_of (Leaf n d)) same dated_so) (ap (λ n. marks_of (Leaf n dating)) same)
        | false ↦ λ h. absurd (cc)
      ] is
  dated-spot name dating other old (Boundary own) is =
      elim (bytes_eq own name) as (λ b. cond b (Boundary own ∷ []) [] ≡ Leaf other old ∷ [] → IsOnlyChange (marks_of (Leaf other old)) (marks_of (Leaf other dating)) (marks_of (Boundary own)) (marks_of (Boundary own))) [
        | true ↦ λ h. absurd (cc)
        | false ↦ λ h. absurd (cc)
      ] is
  dated-spot name dating other old (Group kind own ts) is =
      elim (bytes_eq own name) as (λ b. cond b (Group kind own ts ∷ filter (has_name name) (nodes_of_all ts)) (filter (has_name name) (nodes_of_all ts)) ≡ Leaf other old ∷ [] → IsOnlyChange (marks_of (Leaf other old)) (marks_of (Leaf other dating)) (marks_of (Group kind own ts)) (marks_of (Group kind own (dated_all name dating ts)))) [
        | true ↦ λ h. absurd (cc)
        | false ↦ λ h. spot-below kind own (marks_of (Leaf other old)) (marks_of (Leaf other dating)) (marks_of_all ts) (marks_of_all (dated_all name dating ts)) (dated_all-spot name dating other old ts h)
      ] is

  dated_all-spot : (name : Name) (dating : Dating) (other : Name) (old : Dating) (ts : Trees) → filter (has_name name) (nodes_of_all ts) ≡ Leaf other old ∷ [] → IsOnlyChange (marks_of (Leaf other old)) (marks_of (Leaf other dating)) (marks_of_all ts) (marks_of_all (dated_all name dating ts))
  dated_all-spot name dating other old none is = absurd (cc)
  dated_all-spot name dating other old (more t ts) is =
      let was = marks_of (Leaf other old) in
      let now = marks_of (Leaf other dating) in
      elim (one_of (filter (has_name name) (nodes_of t)) (filter (has_name name) (nodes_of_all ts)) (Leaf other old) (sym (filter-append (has_name name) (nodes_of t) (nodes_of_all ts)) ∙ is)) [
        | inl first ↦
            subst (λ us. IsOnlyChange was now (marks_of t ++ marks_of_all ts) (marks_of (dated name dating t) ++ marks_of_all us)) (sym (dated_all-other name dating ts first.1))
            (spot-first was now (marks_of t) (marks_of (dated name dating t)) (marks_of_all ts) (dated-spot name dating other old t first.0))
        | inr later ↦
            subst (λ u. IsOnlyChange was now (marks_of t ++ marks_of_all ts) (marks_of u ++ marks_of_all (dated_all name dating ts))) (sym (dated-other name dating t later.0))
            (spot-later was now (marks_of t) (marks_of_all ts) (marks_of_all (dated_all name dating ts)) (dated_all-spot name dating other old ts later.1))
      ]

-- where one group has it, that one is extended
mutual
  extended-spot : (name : Name) (node : Tree) (group : Kind) (other : Name) (members : Trees) (t : Tree) → filter (has_name name) (nodes_of t) ≡ Group group other members ∷ [] → IsOnlyChange (marks_of (Group group other members)) (marks_of (Group group other (trees_with members node))) (marks_of t) (marks_of (extended name node t))
  extended-spot name node group other members (Leaf own before) is =
      elim (bytes_eq own name) as (λ b. cond b (Leaf own before ∷ []) [] ≡ Group group other members ∷ [] → IsOnlyChange (marks_of (Group group other members)) (marks_of (Group group other (trees_with members node))) (marks_of (Leaf own before)) (marks_of (Leaf own before))) [
        | true ↦ λ h. absurd (cc)
        | false ↦ λ h. absurd (cc)
      ] is
  extended-spot name node group other members (Boundary own) is =
      elim (bytes_eq own name) as (λ b. cond b (Boundary own ∷ []) [] ≡ Group group other members ∷ [] → IsOnlyChange (marks_of (Group group other members)) (marks_of (Group group other (trees_with members node))) (marks_of (Boundary own)) (marks_of (Boundary own))) [
        | true ↦ λ h. absurd (cc)
        | false ↦ λ h. absurd (cc)
      ] is
  extended-spot name node group other members (Group kind own ts) is =
      elim (bytes_eq own name) as (λ b. cond b (Group kind own ts ∷ filter (has_name name) (nodes_of_all ts)) (filter (has_name name) (nodes_of_all ts)) ≡ Group group other members ∷ [] → IsOnlyChange (marks_of (Group group other members)) (marks_of (Group group other (trees_with members node))) (marks_of (Group kind own ts)) (marks_of (cond b (Group kind own (trees_with ts node)) (Group kind own (extended_all name node ts))))) [
        | true ↦ λ h.
            let alike : kind ≡ group = cc in
            let same : own ≡ other = cc in
            let within : ts ≡ members = cc in
            spot (marks_of (Group group other members)) (marks_of (Group group other (trees_with members node))) (marks_of (Group kind own ts)) (marks_of (Group kind own (trees_with ts node)))
            (ap₂ (λ k n. marks_of (Group k n ts)) alike same ∙ ap (λ us. marks_of (Group group other us)) within)
            (ap₂ (λ k n. marks_of (Group k n (trees_with ts node))) alike same ∙ ap (λ us. marks_of (Group group other (trees_with us node))) within)
        | false ↦ λ h. spot-below kind own (marks_of (Group group other members)) (marks_of (Group group other (trees_with members node))) (marks_of_all ts) (marks_of_all (extended_all name node ts)) (extended_all-spot name node group other members ts h)
      ] is

  extended_all-spot : (name : Name) (node : Tree) (group : Kind) (other : Name) (members : Trees) (ts : Trees) → filter (has_name name) (nodes_of_all ts) ≡ Group group other members ∷ [] → IsOnlyChange (marks_of (Group group other members)) (marks_of (Group group other (trees_with members node))) (marks_of_all ts) (marks_of_all (extended_all name node ts))
  extended_all-spot name node group other members none is = absurd (cc)
  extended_all-spot name node group other members (more t ts) is =
      let was = marks_of (Group group other members) in
      let now = marks_of (Group group other (trees_with members node)) in
      elim (one_of (filter (has_name name) (nodes_of t)) (filter (has_name name) (nodes_of_all ts)) (Group group other members) (sym (filter-append (has_name name) (nodes_of t) (nodes_of_all ts)) ∙ is)) [
        | inl first ↦
            subst (λ us. IsOnlyChange was now (marks_of t ++ marks_of_all ts) (marks_of (extended name node t) ++ marks_of_all us)) (sym (extended_all-other name node ts first.1))
            (spot-first was now (marks_of t) (marks_of (extended name node t)) (marks_of_all ts) (extended-spot name node group other members t first.0))
        | inr later ↦
            subst (λ u. IsOnlyChange was now (marks_of t ++ marks_of_all ts) (marks_of u ++ marks_of_all (extended_all name node ts))) (sym (extended-other name node t later.0))
            (spot-later was now (marks_of t) (marks_of_all ts) (marks_of_all (extended_all name node ts)) (extended_all-spot name node group other members ts later.1))
      ]

-- before the one node of the name comes the other
mutual
  preceded-spot : (name : Name) (node u t : Tree) → named name (held t) ≡ u ∷ [] → IsOnlyChange (marks_of u) (marks_of node ++ marks_of u) (marks_of t) (marks_of (preceded name node t))
  preceded-spot name node u (Leaf other dating) only = absurd (cc)
  preceded-spot name node u (Boundary other) only = absurd (cc)
  preceded-spot name node u (Group kind other ts) only =
      spot-below kind other (marks_of u) (marks_of node ++ marks_of u) (marks_of_all ts) (marks_of_all (preceded_all name node ts)) (preceded_all-spot name node u ts only)

  preceded_all-spot : (name : Name) (node u : Tree) (ts : Trees) → named name ts ≡ u ∷ [] → IsOnlyChange (marks_of u) (marks_of node ++ marks_of u) (marks_of_all ts) (marks_of_all (preceded_all name node ts))
  preceded_all-spot name node u none only = absurd (cc)
  preceded_all-spot name node u (more t ts) only =
      let was = marks_of u in
      let now = marks_of node ++ marks_of u in
      let before = marks_of t ++ marks_of_all ts in
      let rest = more (preceded name node t) (preceded_all name node ts) in
      let changed : Bool → Trees = λ b. cond b (more node rest) rest in
      elim (at name u t ts only) [
        | Here own same below behind ↦ record {
          front = [];
          back = marks_of_all ts;
          was = ap (λ v. marks_of v ++ marks_of_all ts) same;
          is = ap (λ us. marks_of_all us) (ap changed own)
              ∙ ap₂ (λ v us. marks_of node ++ (marks_of v ++ marks_of_all us)) (preceded-other name node t below ∙ same) (preceded_all-other name node ts behind)
              ∙ sym (append_assoc (marks_of node) (marks_of u) (marks_of_all ts));
        }
        | Below own below behind ↦
            subst (λ us. IsOnlyChange was now before (marks_of_all us)) (sym (ap changed own))
            (subst (λ us. IsOnlyChange was now before (marks_of (preceded name node t) ++ marks_of_all us)) (sym (preceded_all-other name node ts behind))
            (spot-first was now (marks_of t) (marks_of (preceded name node t)) (marks_of_all ts) (preceded-spot name node u t below)))
        | Behind own below behind ↦
            subst (λ us. IsOnlyChange was now before (marks_of_all us)) (sym (ap changed own))
            (subst (λ v. IsOnlyChange was now before (marks_of v ++ marks_of_all (preceded_all name node ts))) (sym (preceded-other name node t below))
            (spot-later was now (marks_of t) (marks_of_all ts) (marks_of_all (preceded_all name node ts)) (preceded_all-spot name node u ts behind)))
      ]

-- the one node of the name goes
mutual
  without-spot : (name : Name) (u t : Tree) → named name (held t) ≡ u ∷ [] → IsOnlyChange (marks_of u) [] (marks_of t) (marks_of (without name t))
  without-spot name u (Leaf other dating) only = absurd (cc)
  without-spot name u (Boundary other) only = absurd (cc)
  without-spot name u (Group kind other ts) only =
      spot-below kind other (marks_of u) [] (marks_of_all ts) (marks_of_all (without_all name ts)) (without_all-spot name u ts only)

  without_all-spot : (name : Name) (u : Tree) (ts : Trees) → named name ts ≡ u ∷ [] → IsOnlyChange (marks_of u) [] (marks_of_all ts) (marks_of_all (without_all name ts))
  without_all-spot name u none only = absurd (cc)
  without_all-spot name u (more t ts) only =
      let was = marks_of u in
      let before = marks_of t ++ marks_of_all ts in
      let changed : Bool → Trees = λ b. cond b (without_all name ts) (more (without name t) (without_all name ts)) in
      elim (at name u t ts only) [
        | Here own same below behind ↦ record {
          front = [];
          back = marks_of_all ts;
          was = ap (λ v. marks_of v ++ marks_of_all ts) same;
          is = ap (λ us. marks_of_all us) (ap changed own ∙ without_all-other name ts behind);
        }
        | Below own below behind ↦
            subst (λ us. IsOnlyChange was [] before (marks_of_all us)) (sym (ap changed own))
            (subst (λ us. IsOnlyChange was [] before (marks_of (without name t) ++ marks_of_all us)) (sym (without_all-other name ts behind))
            (spot-first was [] (marks_of t) (marks_of (without name t)) (marks_of_all ts) (without-spot name u t below)))
        | Behind own below behind ↦
            subst (λ us. IsOnlyChange was [] before (marks_of_all us)) (sym (ap changed own))
            (subst (λ v. IsOnlyChange was [] before (marks_of v ++ marks_of_all (without_all name ts))) (sym (without-other name t below))
            (spot-later was [] (marks_of t) (marks_of_all ts) (marks_of_all (without_all name ts)) (without_all-spot name u ts behind)))
      ]

-- a node of the name that holds no other of it has the new one
renamed-own : (name new : Name) (t : Tree) → has_name name t ≡ true → named name (held t) ≡ [] → renamed name new t ≡ with_name new t
renamed-own name new (Leaf other dating) own below = ap (λ b. Leaf (cond b new other) dating) own
renamed-own name new (Boundary other) own below = ap (λ b. Boundary (cond b new other)) own
renamed-own name new (Group kind other ts) own below = ap₂ (λ b us. Group kind (cond b new other) us) own (renamed_all-other name new ts below)

-- the one node of the name has the new one
mutual
  renamed-spot : (name new : Name) (u t : Tree) → has_name name t ≡ false → named name (held t) ≡ u ∷ [] → IsOnlyChange (marks_of u) (marks_of (with_name new u)) (marks_of t) (marks_of (renamed name new t))
  renamed-spot name new u (Leaf other dating) own only = absurd (cc)
  renamed-spot name new u (Boundary other) own only = absurd (cc)
  renamed-spot name new u (Group kind other ts) own only =
      let was = marks_of u in
      let now = marks_of (with_name new u) in
      subst (λ b. IsOnlyChange was now (marks_of (Group kind other ts)) (marks_of (Group kind (cond b new other) (renamed_all name new ts)))) (sym own)
      (spot-below kind other was now (marks_of_all ts) (marks_of_all (renamed_all name new ts)) (renamed_all-spot name new u ts only))

  renamed_all-spot : (name new : Name) (u : Tree) (ts : Trees) → named name ts ≡ u ∷ [] → IsOnlyChange (marks_of u) (marks_of (with_name new u)) (marks_of_all ts) (marks_of_all (renamed_all name new ts))
  renamed_all-spot name new u none only = absurd (cc)
  renamed_all-spot name new u (more t ts) only =
      let was = marks_of u in
      let now = marks_of (with_name new u) in
      let before = marks_of t ++ marks_of_all ts in
      elim (at name u t ts only) [
        | Here own same below behind ↦ record {
          front = [];
          back = marks_of_all ts;
          was = ap (λ v. marks_of v ++ marks_of_all ts) same;
          is = ap₂ (λ v us. marks_of v ++ marks_of_all us) (renamed-own name new t own below ∙ ap (λ v. with_name new v) same) (renamed_all-other name new ts behind);
        }
        | Below own below behind ↦
            subst (λ us. IsOnlyChange was now before (marks_of (renamed name new t) ++ marks_of_all us)) (sym (renamed_all-other name new ts behind))
            (spot-first was now (marks_of t) (marks_of (renamed name new t)) (marks_of_all ts) (renamed-spot name new u t own below))
        | Behind own below behind ↦
            subst (λ v. IsOnlyChange was now before (marks_of v ++ marks_of_all (renamed_all name new ts))) (sym (renamed-other name new t own below))
            (spot-later was now (marks_of t) (marks_of_all ts) (marks_of_all (renamed_all name new ts)) (renamed_all-spot name new u ts behind))
      ]

called : (name : Name) (before : Trees) (node : Tree) → named name before ≡ node ∷ [] → name_of node ≡ name
called name before node only = (bytes_eq-Decides (name_of node) name).0 (found-called name (nodes_of_all before) node only)

set_stays : (name : Name) (dating : Dating) (before after : Trees) (node : Tree) → named name before ≡ node ∷ [] → wrong_kind (Set name dating) node before ≡ None → after ≡ dated_all name dating before → ElseStays (Set name dating) before after
set_stays name dating before after (Leaf other old) only right changed =
    let s = dated_all-spot name dating other old before only in
    let own : other ≡ name = called name before (Leaf other old) only in (
      old,
      record {
        front = s.front;
        back = s.back;
        was = s.was ∙ ap (λ n. s.front ++ marks_of (Leaf n old) ++ s.back) own;
        is = ap marks_of_all changed ∙ s.is ∙ ap (λ n. s.front ++ marks_of (Leaf n dating) ++ s.back) own;
      },
    )
set_stays name dating before after (Boundary other) only right changed = absurd (cc)
set_stays name dating before after (Group kind other ts) only right changed = absurd (cc)

add_stays : (name : Name) (added : Tree) (before after : Trees) (node : Tree) → named name before ≡ node ∷ [] → wrong_kind (Add name added) node before ≡ None → after ≡ extended_all name added before → ElseStays (Add name added) before after
add_stays name added before after (Leaf other old) only right changed = absurd (cc)
add_stays name added before after (Boundary other) only right changed = absurd (cc)
add_stays name added before after (Group kind other members) only right changed =
    let s = extended_all-spot name added kind other members before only in
    let own : other ≡ name = called name before (Group kind other members) only in (
      (kind, members),
      record {
        front = s.front;
        back = s.back;
        was = s.was ∙ ap (λ n. s.front ++ marks_of (Group kind n members) ++ s.back) own;
        is = ap marks_of_all changed ∙ s.is ∙ ap (λ n. s.front ++ marks_of (Group kind n (trees_with members added)) ++ s.back) own;
      },
    )

pub all_else-stays : AllElseStays
all_else-stays (Set name dating) before after is =
    let change = accepted (Set name dating) before after is in
    set_stays name dating before after change.node change.only change.right change.changed
all_else-stays (Add name node) before after is =
    let change = accepted (Add name node) before after is in
    add_stays name node before after change.node change.only change.right change.changed
all_else-stays (InsertBefore name node) before after is =
    let change = accepted (InsertBefore name node) before after is in (
      change.node,
      called name before change.node change.only,
      subst (λ ts. IsOnlyChange (marks_of change.node) (marks_of node ++ marks_of change.node) (marks_of_all before) (marks_of_all ts)) (sym change.changed)
          (preceded_all-spot name node change.node before change.only),
    )
all_else-stays (Drop name) before after is =
    let change = accepted (Drop name) before after is in (
      change.node,
      called name before change.node change.only,
      subst (λ ts. IsOnlyChange (marks_of change.node) [] (marks_of_all before) (marks_of_all ts)) (sym change.changed)
          (without_all-spot name change.node before change.only),
    )
all_else-stays (Rename name new) before after is =
    let change = accepted (Rename name new) before after is in (
      change.node,
      called name before change.node change.only,
      subst (λ ts. IsOnlyChange (marks_of change.node) (marks_of (with_name new change.node)) (marks_of_all before) (marks_of_all ts)) (sym change.changed)
          (renamed_all-spot name new change.node before change.only),
    )
