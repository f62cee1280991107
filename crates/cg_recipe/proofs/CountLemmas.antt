-- An element has as many events and groups as its node.
use Rattle.std.proofs.Common.{◌≡◌, ℕ, ◌+◌, arith, refl}
use Rattle.cg_meaning.specs.Tree as tree
use Rattle.cg_meaning.specs.Tree.{Tree, Trees, Sequence, Phase, After, Before, count, count_all}
use Rattle.cg_model.specs.Limits as limits
use Rattle.cg_part.specs.Elements.{Element, Event, Group, Span, Elements, none, more, put_before, element_of, members_of, items_of, items_behind}
use Rattle.cg_recipe.specs.Bounds.{events_in, events_among, groups_in, groups_among, IsCounted, ElementsAreCounted}

-- Elements have as many events and groups as these members.
record AreCounted (es : Elements) (ts : Trees) : Type 0 where
  pub events : events_among es ≡ count_all ts
  pub groups : groups_among es ≡ limits.groups_in ts

-- what is put before elements adds its own
put-events : (e : Element) (es : Elements) → events_among (put_before e es) ≡ events_in e + events_among es
put-events e none = refl
put-events e (more (Event number) es) = refl
put-events e (more (Group kind us) es) = refl
put-events e (more (Span us closing) es) = omega arith

-- its groups too
put-groups : (e : Element) (es : Elements) → groups_among (put_before e es) ≡ groups_in e + groups_among es
put-groups e none = refl
put-groups e (more (Event number) es) = refl
put-groups e (more (Group kind us) es) = refl
put-groups e (more (Span us closing) es) = omega arith

-- a member and the later ones
joined : (e : Element) (es : Elements) (t : Tree) (ts : Trees) → IsCounted e t → AreCounted es ts → AreCounted (more e es) (tree.more t ts)
joined e es t ts h k = record { events = omega (arith, h.events, k.events); groups = omega (arith, h.groups, k.groups) }

-- a member that may stand in the span behind it
joined-put : (e : Element) (es : Elements) (t : Tree) (ts : Trees) → IsCounted e t → AreCounted es ts → AreCounted (put_before e es) (tree.more t ts)
joined-put e es t ts h k = record {
  events = omega (arith, put-events e es, h.events, k.events);
  groups = omega (arith, put-groups e es, h.groups, k.groups);
}

-- a group of members
grouped : (n : ℕ) (ts : Trees) (es : Elements) (e : Element) (t : Tree) → events_in e ≡ events_among es → groups_in e ≡ 1 + groups_among es →
    count t ≡ count_all ts → limits.groups_of t ≡ 1 + limits.groups_in ts → AreCounted es ts → IsCounted e t
grouped n ts es e t i j k l h = record { events = omega (arith, i, k, h.events); groups = omega (arith, j, l, h.groups) }

mutual
  -- An element has the events and groups of its node.
  pub counted : ElementsAreCounted
  counted n (tree.Leaf name dating) = record { events = refl; groups = refl }
  counted n (tree.Boundary name) = record { events = refl; groups = refl }
  counted n (tree.Group Sequence name ts) = grouped n ts (items_of n ts) _ _ refl refl refl refl (items-counted n ts)
  counted n (tree.Group Phase name ts) = grouped n ts (members_of n ts) _ _ refl refl refl refl (members-counted n ts)
  counted n (tree.Group After name ts) = grouped n ts (members_of n ts) _ _ refl refl refl refl (members-counted n ts)
  counted n (tree.Group Before name ts) = grouped n ts (members_of n ts) _ _ refl refl refl refl (members-counted n ts)

  -- members that bound each other in no way
  members-counted : (n : ℕ) (ts : Trees) → AreCounted (members_of n ts) ts
  members-counted n tree.none = record { events = refl; groups = refl }
  members-counted n (tree.more t ts) =
      joined (element_of n t) (members_of (n + count t) ts) t ts (counted n t) (members-counted (n + count t) ts)

  -- members of a Sequence
  items-counted : (n : ℕ) (ts : Trees) → AreCounted (items_of n ts) ts
  items-counted n tree.none = record { events = refl; groups = refl }
  items-counted n (tree.more (tree.Boundary name) ts) =
      joined (Event n) (items_behind (n + 1) ts) (tree.Boundary name) ts (record { events = refl; groups = refl }) (behind-counted (n + 1) ts)
  items-counted n (tree.more (tree.Leaf name dating) ts) =
      joined (Event n) (items_of (n + 1) ts) (tree.Leaf name dating) ts (record { events = refl; groups = refl }) (items-counted (n + 1) ts)
  items-counted n (tree.more (tree.Group kind name us) ts) =
      let t = tree.Group kind name us in
      joined (element_of n t) (items_of (n + count t) ts) t ts (counted n (tree.Group kind name us)) (items-counted (n + count t) ts)

  -- those behind a Boundary
  behind-counted : (n : ℕ) (ts : Trees) → AreCounted (items_behind n ts) ts
  behind-counted n tree.none = record { events = refl; groups = refl }
  behind-counted n (tree.more (tree.Boundary name) ts) =
      joined (Span none n) (items_behind (n + 1) ts) (tree.Boundary name) ts (record { events = refl; groups = refl }) (behind-counted (n + 1) ts)
  behind-counted n (tree.more (tree.Leaf name dating) ts) =
      joined-put (Event n) (items_behind (n + 1) ts) (tree.Leaf name dating) ts (record { events = refl; groups = refl }) (behind-counted (n + 1) ts)
  behind-counted n (tree.more (tree.Group kind name us) ts) =
      let t = tree.Group kind name us in
      joined-put (element_of n t) (items_behind (n + count t) ts) t ts (counted n (tree.Group kind name us)) (behind-counted (n + count t) ts)
