-- Counts of a tree's parts, and its nodes as parts of it.
use Rattle.std.proofs.Common.{◌≡◌, ℕ, zero, suc, ◌+◌, ◌≤◌, cond, length, refl, arith, subst, inl, inr, length-append, Some}
use Rattle.std.specs.Prelude.{All, count_by, slice_get}
use Rattle.std.proofs.lemmas.List.Sums.{sum_by-append}
use Rattle.cg_meaning.specs.Tree.{Kind, Name, Tree, Leaf, Boundary, Group, Trees, none, more, count, count_all, datings_of, datings_of_all, nodes_of, nodes_of_all}
use Rattle.cg_model.specs.Event.{is_event}
use Rattle.cg_model.specs.Limits.{groups_of, groups_in, depth_of, depth_in, IsInRange, AreInRange}
use Rattle.cg_model.proofs.PlaceLemmas.{slice_get-append, All-left, All-right}

-- a dating for each event
mutual
  pub length-datings_of : (t : Tree) → length (datings_of t) ≡ count t
  length-datings_of (Leaf name dating) = refl
  length-datings_of (Boundary name) = refl
  length-datings_of (Group kind name ts) = length-datings_of_all ts

  pub length-datings_of_all : (ts : Trees) → length (datings_of_all ts) ≡ count_all ts
  length-datings_of_all none = refl
  length-datings_of_all (more t ts) = omega (arith, length-append (datings_of t) (datings_of_all ts), length-datings_of t, length-datings_of_all ts)

-- each node is an event or a group
mutual
  pub length-nodes_of : (t : Tree) → length (nodes_of t) ≡ count t + groups_of t
  length-nodes_of (Leaf name dating) = refl
  length-nodes_of (Boundary name) = refl
  length-nodes_of (Group kind name ts) = omega (arith, length-nodes_of_all ts)

  pub length-nodes_of_all : (ts : Trees) → length (nodes_of_all ts) ≡ count_all ts + groups_in ts
  length-nodes_of_all none = refl
  length-nodes_of_all (more t ts) = omega (arith, length-append (nodes_of t) (nodes_of_all ts), length-nodes_of t, length-nodes_of_all ts)

-- the events are counted among the nodes
mutual
  pub count_by-nodes_of : (t : Tree) → count_by is_event (nodes_of t) ≡ count t
  count_by-nodes_of (Leaf name dating) = refl
  count_by-nodes_of (Boundary name) = refl
  count_by-nodes_of (Group kind name ts) = omega (arith, count_by-nodes_of_all ts)

  pub count_by-nodes_of_all : (ts : Trees) → count_by is_event (nodes_of_all ts) ≡ count_all ts
  count_by-nodes_of_all none = refl
  count_by-nodes_of_all (more t ts) =
      omega (arith, sum_by-append (λ u. cond (is_event u) 1 0) (nodes_of t) (nodes_of_all ts), count_by-nodes_of t, count_by-nodes_of_all ts)

-- a tree is no larger than these trees, and its datings are in range where theirs are
pub record IsPart (t : Tree) (ts : Trees) : Type 0 where
  pub events : count t ≤ count_all ts
  pub groups : groups_of t ≤ groups_in ts
  pub depth : depth_of t ≤ depth_in ts
  pub ranged : AreInRange ts → All IsInRange (datings_of t)

IsPart-first : (t : Tree) (ts : Trees) → IsPart t (more t ts)
IsPart-first t ts = record {
  events = omega arith;
  groups = omega arith;
  depth = omega arith;
  ranged = λ all. All-left IsInRange (datings_of t) (datings_of_all ts) all;
}

IsPart-later : (t u : Tree) (us : Trees) → IsPart t us → IsPart t (more u us)
IsPart-later t u us part = record {
  events = omega (arith, part.events);
  groups = omega (arith, part.groups);
  depth = omega (arith, part.depth);
  ranged = λ all. part.ranged (All-right IsInRange (datings_of u) (datings_of_all us) all);
}

-- below the first
IsPart-below : (t : Tree) (kind : Kind) (name : Name) (us ts : Trees) → IsPart t us → IsPart t (more (Group kind name us) ts)
IsPart-below t kind name us ts part = record {
  events = omega (arith, part.events);
  groups = omega (arith, part.groups);
  depth = omega (arith, part.depth);
  ranged = λ all. part.ranged (All-left IsInRange (datings_of_all us) (datings_of_all ts) all);
}

-- each node of trees is a part of them
mutual
  pub IsPart-node : (u : Tree) (us : Trees) (n : ℕ) (t : Tree) → slice_get (nodes_of u) n ≡ Some t → IsPart t (more u us)
  IsPart-node (Leaf name dating) us zero t is = let e : Leaf name dating ≡ t = cc in subst (λ v. IsPart v (more (Leaf name dating) us)) e (IsPart-first (Leaf name dating) us)
  IsPart-node (Leaf name dating) us (suc n) t is = absurd (cc)
  IsPart-node (Boundary name) us zero t is = let e : Boundary name ≡ t = cc in subst (λ v. IsPart v (more (Boundary name) us)) e (IsPart-first (Boundary name) us)
  IsPart-node (Boundary name) us (suc n) t is = absurd (cc)
  IsPart-node (Group kind name ts) us zero t is = let e : Group kind name ts ≡ t = cc in subst (λ v. IsPart v (more (Group kind name ts) us)) e (IsPart-first (Group kind name ts) us)
  IsPart-node (Group kind name ts) us (suc n) t is = IsPart-below t kind name ts us (IsPart-nodes ts n t is)

  pub IsPart-nodes : (us : Trees) (n : ℕ) (t : Tree) → slice_get (nodes_of_all us) n ≡ Some t → IsPart t us
  IsPart-nodes none n t is = absurd (cc)
  IsPart-nodes (more u us) n t is = elim (slice_get-append (nodes_of u) (nodes_of_all us) n t is) [
    | inl first ↦ IsPart-node u us n t first
    | inr later ↦ IsPart-later t u us (IsPart-nodes us later.0 t later.1)
  ]
