-- What is got first is at hand: the elements of nodes, with the messages of their members or along a way.
use Rattle.std.proofs.Common.{◌≡◌, ℕ, zero, suc, ◌+◌, ◌<◌, List, [], ◌∷◌, length, get_or, refl, sym, ap, ap₂, ◌∙◌, arith, Some}
use Rattle.std.specs.Prelude.{slice_get}
use Rattle.std.proofs.lemmas.Option.{slice_get_read, get_or_from_slice_get}
use Rattle.cg_meaning.specs.Tree as tree
use Rattle.cg_meaning.specs.Tree.{Tree, Trees, Dating, Kind, Name, Free, Exact, Normal, Carbon, Sequence, Phase, After, Before, count, count_all, datings_of, datings_of_all}
use Rattle.cg_model.specs.Limits.{IsWithinLimits, IsInRange, AreInRange}
use Rattle.cg_model.proofs.PlaceLemmas.{slice_get-front, slice_get-behind, All-left, All-right}
use Rattle.cg_model.proofs.TreeLemmas.{length-datings_of}
use Rattle.cg_like.specs.Likelihood.{weights_of}
use Rattle.cg_part.specs.Elements as part
use Rattle.cg_part.specs.Elements.{element_of, has, has_among}
use Rattle.cg_recipe.specs.Recipe.{table_of}
use Rattle.cg_code.specs.Content.{IsNode}
use Rattle.cg_message.specs.Value.{pass_in}
use Rattle.cg_message.specs.Parts.{IsGot, AreGot, IsRowGot, size_of}
use Rattle.cg_message.specs.Placed.{Placed, Places, Event, Group, Span, none, more, bare, bare_all, put_before, placed_of, members_of, items_of, items_behind}
use Rattle.cg_message.specs.Pass.{pass_of, scene_in, shelf_in, datings_in, HasRow, HasTable, IsHeld, AreHeld}
use Rattle.cg_message.specs.declared.pass.Pass.{Pass}
use Rattle.cg_message.proofs.LocalLemmas.{table-local}

-- an element put before others, without places
bare-put : (e : Placed) (es : Places) → bare_all (put_before e es) ≡ part.put_before (bare e) (bare_all es)
bare-put e none = refl
bare-put e (more (Event number place) es) = refl
bare-put e (more (Group kind place us) es) = refl
bare-put e (more (Span us closing) es) = refl

-- the elements of nodes, without places
mutual
  pub bare-of : (number place : ℕ) (t : Tree) → bare (placed_of number place t) ≡ element_of number t
  bare-of number place (tree.Leaf name dating) = refl
  bare-of number place (tree.Boundary name) = refl
  bare-of number place (tree.Group Sequence name ts) = ap (part.Group Sequence) (bare-items number (place + 1) ts)
  bare-of number place (tree.Group Phase name ts) = ap (part.Group Phase) (bare-members number (place + 1) ts)
  bare-of number place (tree.Group After name ts) = ap (part.Group After) (bare-members number (place + 1) ts)
  bare-of number place (tree.Group Before name ts) = ap (part.Group Before) (bare-members number (place + 1) ts)

  pub bare-members : (number place : ℕ) (ts : Trees) → bare_all (members_of number place ts) ≡ part.members_of number ts
  bare-members number place tree.none = refl
  bare-members number place (tree.more t ts) = ap₂ part.more (bare-of number place t) (bare-members (number + count t) (place + size_of t) ts)

  bare-items : (number place : ℕ) (ts : Trees) → bare_all (items_of number place ts) ≡ part.items_of number ts
  bare-items number place tree.none = refl
  bare-items number place (tree.more (tree.Boundary name) ts) = ap (part.more (part.Event number)) (bare-behind (number + 1) (place + 1) ts)
  bare-items number place (tree.more (tree.Leaf name dating) ts) = ap (part.more (part.Event number)) (bare-items (number + 1) (place + 1) ts)
  bare-items number place (tree.more (tree.Group kind name us) ts) =
      ap₂ part.more (bare-of number place (tree.Group kind name us)) (bare-items (number + count_all us) (place + size_of (tree.Group kind name us)) ts)

  bare-behind : (number place : ℕ) (ts : Trees) → bare_all (items_behind number place ts) ≡ part.items_behind number ts
  bare-behind number place tree.none = refl
  bare-behind number place (tree.more (tree.Boundary name) ts) = ap (part.more (part.Span part.none number)) (bare-behind (number + 1) (place + 1) ts)
  bare-behind number place (tree.more (tree.Leaf name dating) ts) =
      bare-put (Event number place) (items_behind (number + 1) (place + 1) ts) ∙ ap (part.put_before (part.Event number)) (bare-behind (number + 1) (place + 1) ts)
  bare-behind number place (tree.more (tree.Group kind name us) ts) =
      bare-put (placed_of number place (tree.Group kind name us)) (items_behind (number + count_all us) (place + size_of (tree.Group kind name us)) ts)
      ∙ ap₂ part.put_before (bare-of number place (tree.Group kind name us)) (bare-behind (number + count_all us) (place + size_of (tree.Group kind name us)) ts)

-- the datings of a pass from a number on are these
abbrev pub Begins : Pass → ℕ → List Dating → Type 0
Begins pass number datings = (i : ℕ) (d : Dating) → slice_get datings i ≡ Some d → slice_get (datings_in pass) (number + i) ≡ Some d

-- A node of a model, whose events a pass has from a number on.
pub record IsGiven (pass : Pass) (number : ℕ) (t : Tree) : Type 0 where
  pub node : IsNode t
  pub datings : Begins pass number (datings_of t)

-- Members of one.
pub record AreGiven (pass : Pass) (number : ℕ) (ts : Trees) : Type 0 where
  pub limits : IsWithinLimits ts
  pub ranged : AreInRange ts
  pub datings : Begins pass number (datings_of_all ts)

-- the first of them
pub given-first : (pass : Pass) (number : ℕ) (t : Tree) (ts : Trees) → AreGiven pass number (tree.more t ts) → IsGiven pass number t
given-first pass number t ts g = record {
  node = record {
    limits = record { events = omega (arith, g.limits.events); groups = omega (arith, g.limits.groups); depth = omega (arith, g.limits.depth) };
    ranged = All-left IsInRange (datings_of t) (datings_of_all ts) g.ranged;
  };
  datings = λ i d here. g.datings i d (slice_get-front (datings_of t) (datings_of_all ts) i d here);
}

-- the later ones
pub given-rest : (pass : Pass) (number : ℕ) (t : Tree) (ts : Trees) → AreGiven pass number (tree.more t ts) → AreGiven pass (number + count t) ts
given-rest pass number t ts g = record {
  limits = record { events = omega (arith, g.limits.events); groups = omega (arith, g.limits.groups); depth = omega (arith, g.limits.depth) };
  ranged = All-right IsInRange (datings_of t) (datings_of_all ts) g.ranged;
  datings = λ i d here.
      let next : number + count t + i ≡ number + (i + count t) = omega arith in
      ap (slice_get (datings_in pass)) next
      ∙ g.datings (i + count t) d (slice_get-behind (datings_of t) (datings_of_all ts) (i + count t) i (omega (arith, length-datings_of t)) ∙ here);
}

-- the members of a group
pub given-members : (pass : Pass) (number : ℕ) (kind : Kind) (name : Name) (ts : Trees) → IsGiven pass number (tree.Group kind name ts) → AreGiven pass number ts
given-members pass number kind name ts g = record {
  limits = record { events = omega (arith, g.node.limits.events); groups = omega (arith, g.node.limits.groups); depth = omega (arith, g.node.limits.depth) };
  ranged = g.node.ranged;
  datings = g.datings;
}

-- a dating is read with any default
same_default : (ds : List Dating) (i : ℕ) (d e : Dating) → i < length ds → get_or ds i d ≡ get_or ds i e
same_default [] i d e h = absurd (omega arith)
same_default (x ∷ xs) zero d e h = refl
same_default (x ∷ xs) (suc i) d e h = same_default xs i d e (omega arith)

-- the table of a group that is got
table-held : (pass : Pass) (number place : ℕ) (kind : Kind) (name : Name) (ts : Trees) → IsGiven pass number (tree.Group kind name ts) → IsGot (shelf_in pass) place (tree.Group kind name ts) →
    HasTable pass place (bare (placed_of number place (tree.Group kind name ts)))
table-held pass number place kind name ts g got = record {
  tree = tree.Group kind name ts;
  node = g.node;
  got = got;
  table_is =
      table-local (pass_in (scene_in pass) (tree.Group kind name ts)) (pass_of pass) 0 number (tree.Group kind name ts) refl
      (λ i less.
      let d = get_or (datings_of_all ts) i Free in
      let here : slice_get (datings_of_all ts) i ≡ Some d = slice_get_read (datings_of_all ts) (length (datings_of_all ts)) i d refl (omega (arith, length-datings_of (tree.Group kind name ts))) (same_default (datings_of_all ts) i Free d (omega (arith, length-datings_of (tree.Group kind name ts)))) in
      let first : 0 + i ≡ i = omega arith in
      ap (λ j. weights_of (scene_in pass) (get_or (datings_of_all ts) j Free)) first
      ∙ ap (weights_of (scene_in pass)) (sym (get_or_from_slice_get (datings_in pass) (number + i) d Free (g.datings i d here))))
      ∙ ap (table_of (pass_of pass)) (sym (bare-of number place (tree.Group kind name ts)));
}

-- an element put before others
put-held : (pass : Pass) (e : Placed) (es : Places) → IsHeld pass e → AreHeld pass es → AreHeld pass (put_before e es)
put-held pass e none h k = (h, k)
put-held pass e (more (Event number place) es) h k = (h, k)
put-held pass e (more (Group kind place us) es) h k = (h, k)
put-held pass e (more (Span us closing) es) h k = ((h, k.0), k.1)

-- an event's row
row-held : (pass : Pass) (number place : ℕ) (d : Dating) → slice_get (datings_in pass) (number + 0) ≡ Some d → IsRowGot (shelf_in pass) place d → HasRow pass number place
row-held pass number place d here got =
    let at : number + 0 ≡ number = omega arith in
    record { dating = d; here = ap (slice_get (datings_in pass)) (sym at) ∙ here; got = got }

-- what is got of a node is at hand
pub held : (pass : Pass) (number place : ℕ) (t : Tree) → IsGiven pass number t → IsGot (shelf_in pass) place t → IsHeld pass (placed_of number place t)
held pass number place (tree.Leaf name dating) g got = row-held pass number place dating (g.datings 0 dating refl) got
held pass number place (tree.Boundary name) g got = row-held pass number place Free (g.datings 0 Free refl) tt
held pass number place (tree.Group Sequence name ts) g got = table-held pass number place Sequence name ts g got
held pass number place (tree.Group Phase name ts) g got = table-held pass number place Phase name ts g got
held pass number place (tree.Group After name ts) g got = table-held pass number place After name ts g got
held pass number place (tree.Group Before name ts) g got = table-held pass number place Before name ts g got

-- of members
pub members-held : (pass : Pass) (number place : ℕ) (ts : Trees) → AreGiven pass number ts → AreGot (shelf_in pass) place ts → AreHeld pass (members_of number place ts)
members-held pass number place tree.none g got = tt
members-held pass number place (tree.more t ts) g got =
    (held pass number place t (given-first pass number t ts g) got.0, members-held pass (number + count t) (place + size_of t) ts (given-rest pass number t ts g) got.1)

-- of the members of a Sequence behind a Boundary
pub behind-held : (pass : Pass) (number place : ℕ) (ts : Trees) → AreGiven pass number ts → AreGot (shelf_in pass) place ts → AreHeld pass (items_behind number place ts)
behind-held pass number place tree.none g got = tt
behind-held pass number place (tree.more (tree.Boundary name) ts) g got =
    (tt, behind-held pass (number + 1) (place + 1) ts (given-rest pass number (tree.Boundary name) ts g) got.1)
behind-held pass number place (tree.more (tree.Leaf name dating) ts) g got =
    put-held pass (Event number place) (items_behind (number + 1) (place + 1) ts) (held pass number place (tree.Leaf name dating) (given-first pass number (tree.Leaf name dating) ts g) got.0)
    (behind-held pass (number + 1) (place + 1) ts (given-rest pass number (tree.Leaf name dating) ts g) got.1)
behind-held pass number place (tree.more (tree.Group kind name us) ts) g got =
    put-held pass (placed_of number place (tree.Group kind name us)) (items_behind (number + count_all us) (place + size_of (tree.Group kind name us)) ts)
    (held pass number place (tree.Group kind name us) (given-first pass number (tree.Group kind name us) ts g) got.0)
    (behind-held pass (number + count_all us) (place + size_of (tree.Group kind name us)) ts (given-rest pass number (tree.Group kind name us) ts g) got.1)

-- of the members of a Sequence
pub items-held : (pass : Pass) (number place : ℕ) (ts : Trees) → AreGiven pass number ts → AreGot (shelf_in pass) place ts → AreHeld pass (items_of number place ts)
items-held pass number place tree.none g got = tt
items-held pass number place (tree.more (tree.Boundary name) ts) g got = (
  held pass number place (tree.Boundary name) (given-first pass number (tree.Boundary name) ts g) got.0,
  behind-held pass (number + 1) (place + 1) ts (given-rest pass number (tree.Boundary name) ts g) got.1,
)
items-held pass number place (tree.more (tree.Leaf name dating) ts) g got = (
  held pass number place (tree.Leaf name dating) (given-first pass number (tree.Leaf name dating) ts g) got.0,
  items-held pass (number + 1) (place + 1) ts (given-rest pass number (tree.Leaf name dating) ts g) got.1,
)
items-held pass number place (tree.more (tree.Group kind name us) ts) g got = (
  held pass number place (tree.Group kind name us) (given-first pass number (tree.Group kind name us) ts g) got.0,
  items-held pass (number + count_all us) (place + size_of (tree.Group kind name us)) ts (given-rest pass number (tree.Group kind name us) ts g) got.1,
)
