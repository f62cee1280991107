-- The root of a model's tree, within the model's limits.
use Rattle.std.proofs.Common.{◌≡◌, ℕ, ◌+◌, ◌<◌, ◌≤◌, true, arith, ap, ap₂, ◌∙◌, ◌&&◌}
use Rattle.std.proofs.lemmas.Bool.{lt-ltb, le-leb}
use Rattle.cg_meaning.specs.Tree as tree
use Rattle.cg_meaning.specs.Tree.{Tree, Trees, Sequence, Phase, After, Before, count, count_all}
use Rattle.cg_model.specs.Limits.{IsWithinLimits}
use Rattle.cg_part.specs.Elements.{Element, Event, Group, Span, Elements, none, more, put_before, element_of, members_of, items_of, items_behind, has}
use Rattle.cg_part.proofs.HasEvents.{has-events}
use Rattle.cg_recipe.proofs.CountLemmas.{counted}
use Rattle.cg_model.specs.declared.group.GroupKind.TheVariants as kind
use Rattle.cg_up.specs.Element.{element_in, elements_in}
use Rattle.cg_up.specs.declared.element.Element.TheViews as view
use Rattle.cg_up.specs.declared.element.Elements as code
use Rattle.cg_up.proofs.ElementLemmas.{element_in-Group}
use Rattle.cg_up.specs.Pass.{AreBelow, AreAllBelow, IsFit, root}

-- an element put before others
put-below : (n : ℕ) (e : Element) (es : Elements) → AreBelow n e → AreAllBelow n es → AreAllBelow n (put_before e es)
put-below n e none h k = (h, k)
put-below n e (more (Event number) es) h k = (h, k)
put-below n e (more (Group kind us) es) h k = (h, k)
put-below n e (more (Span us closing) es) h k = (((h, k.0.0), k.0.1), k.1)

-- events that are numbered from a number on
mutual
  pub below : (n number : ℕ) (t : Tree) → number + count t ≤ n → AreBelow n (element_of number t)
  below n number (tree.Leaf name dating) h = omega (arith, h)
  below n number (tree.Boundary name) h = omega (arith, h)
  below n number (tree.Group Sequence name ts) h = items-below n number ts h
  below n number (tree.Group Phase name ts) h = members-below n number ts h
  below n number (tree.Group After name ts) h = members-below n number ts h
  below n number (tree.Group Before name ts) h = members-below n number ts h

  -- those of members
  members-below : (n number : ℕ) (ts : Trees) → number + count_all ts ≤ n → AreAllBelow n (members_of number ts)
  members-below n number tree.none h = tt
  members-below n number (tree.more t ts) h = (below n number t (omega (arith, h)), members-below n (number + count t) ts (omega (arith, h)))

  -- of the members of a Sequence
  items-below : (n number : ℕ) (ts : Trees) → number + count_all ts ≤ n → AreAllBelow n (items_of number ts)
  items-below n number tree.none h = tt
  items-below n number (tree.more (tree.Boundary name) ts) h = (omega (arith, h), behind-below n (number + 1) ts (omega (arith, h)))
  items-below n number (tree.more (tree.Leaf name dating) ts) h = (omega (arith, h), items-below n (number + 1) ts (omega (arith, h)))
  items-below n number (tree.more (tree.Group kind name us) ts) h =
      (below n number (tree.Group kind name us) (omega (arith, h)), items-below n (number + count (tree.Group kind name us)) ts (omega (arith, h)))

  -- of those behind a Boundary
  behind-below : (n number : ℕ) (ts : Trees) → number + count_all ts ≤ n → AreAllBelow n (items_behind number ts)
  behind-below n number tree.none h = tt
  behind-below n number (tree.more (tree.Boundary name) ts) h = ((tt, omega (arith, h)), behind-below n (number + 1) ts (omega (arith, h)))
  behind-below n number (tree.more (tree.Leaf name dating) ts) h =
      put-below n (Event number) (items_behind (number + 1) ts) (omega (arith, h)) (behind-below n (number + 1) ts (omega (arith, h)))
  behind-below n number (tree.more (tree.Group kind name us) ts) h =
      let t = tree.Group kind name us in
      put-below n (element_of number t) (items_behind (number + count t) ts) (below n number (tree.Group kind name us) (omega (arith, h)))
      (behind-below n (number + count t) ts (omega (arith, h)))

-- all of a model, where each event has a row
pub root_fit : (n : ℕ) (ts : Trees) → IsWithinLimits ts → count_all ts ≤ n → IsFit n (element_of 0 (root ts))
root_fit n ts limits rows =
    let size = counted 0 (root ts) in
    record {
      rows = below n 0 (root ts) (omega (arith, rows));
      events = omega (arith, size.events, limits.events);
      groups = omega (arith, size.groups, limits.groups);
    }

-- it has each event
pub root_has : (event : ℕ) (ts : Trees) → event < count_all ts → has event (element_of 0 (root ts)) ≡ true
root_has event ts inside = has-events 0 (root ts) event ∙ ap₂ (λ a b. a && b) (le-leb 0 event (omega arith)) (lt-ltb event (0 + count_all ts) (omega (arith, inside)))

-- the element that the members of a model are in
pub whole-is : (members : code.Elements) (ts : Trees) → elements_in members ≡ members_of 0 ts → element_in (view.Group kind.Phase members) ≡ element_of 0 (root ts)
whole-is members ts is = element_in-Group kind.Phase members ∙ ap (Group Phase) is
