-- The tokens of trees are statements of the grammar, where limits leave room for all that is still to come.
use Rattle.std.proofs.Common.{◌≡◌, ℕ, ◌+◌, ◌<◌, ◌≤◌, Bool, true, false, leb, List, [], ◌∷◌, ◌++◌, length, All, None, refl, sym, ap, ◌∙◌, subst, arith, append_assoc}
use Rattle.std.proofs.lemmas.Bool.Decides.{nat_tests}
use Rattle.std.proofs.lemmas.List.{append-nil}
use Rattle.cg_meaning.specs.Tree as spec
use Rattle.cg_meaning.specs.Tree.{Kind as GroupOf, Name, Tree, Trees, none, more, count, count_all, datings_of, datings_of_all}
use Rattle.cg_model.specs.Group.{kind_in}
use Rattle.cg_model.specs.Limits.{groups_of, groups_in, depth_of, depth_in, HoldsBoundaries, IsInPlace, AreInPlace, IsInRange, AreInRange}
use Rattle.cg_model.specs.Node.{trees_with}
use Rattle.cg_model.specs.declared.group.GroupKind.{GroupKind}
use Rattle.cg_model.specs.declared.group.GroupKind.TheVariants.{Sequence, Phase, After, Before}
use Rattle.cg_model.proofs.PlaceLemmas.{All-left, All-right}
use Rattle.cg_token.specs.Kind.{Kind, mark}
use Rattle.cg_token.specs.declared.token.Mark.TheVariants.{BraceOpen, BraceClose, Semicolon}
use Rattle.cg_grammar.specs.declared.command.Command.{Command}
use Rattle.cg_grammar.specs.declared.command.Command.TheVariants.{Boundary, Group}
use Rattle.cg_grammar.specs.declared.command.Base.TheVariants as bases
use Rattle.cg_grammar.specs.Arguments.{Given, is_call, call, event_in, name_in}
use Rattle.cg_grammar.specs.Done.{Done, with_event, opened, with_group, parent, event_limit, group_limit, holds_boundary, barred, is_event}
use Rattle.cg_grammar.specs.Grammar.{Are, empty, event, group, semicolon}
use Rattle.cg_grammar.proofs.LimitLemmas.{kind_at}
use Rattle.cg_writing.specs.Law.{HasNodeNames, HaveNodeNames}
use Rattle.cg_writing.proofs.TokenLemmas.{named, given_for, command_for, kind_back, kind-again, tree_tokens, trees_tokens, name-named, named-boundary, named-group, event-call, event-said}

-- trees behind others
abbrev pub joined : Trees → Trees → Trees
joined before none = before
joined before (more t ts) = joined (trees_with before t) ts

-- trees behind one that stands behind others
joined-more : (us : Trees) (t : Tree) (ts : Trees) → joined (more t us) ts ≡ more t (joined us ts)
joined-more us t none = refl
joined-more us t (more u ts) = joined-more (trees_with us u) t ts

-- trees behind none
pub all-joined : (ts : Trees) → joined none ts ≡ ts
all-joined none = refl
all-joined (more t ts) = joined-more none t ts ∙ ap (λ us. more t us) (all-joined ts)

-- statements that leave these trees behind the members so far, and their counts
pub record Adds (path : List GroupKind) (from done : Done) (ts : Trees) (tokens : List Kind) : Type 0 where
  pub left : Done
  pub brace : Bool
  pub statements : Are bases.Script path from left brace tokens
  pub members : left.members ≡ joined done.members ts
  pub curve : left.curve ≡ done.curve
  pub events : left.events ≡ done.events + count_all ts
  pub groups : left.groups ≡ done.groups + groups_in ts

-- a tree that may come next
record Fits (path : List GroupKind) (done : Done) (t : Tree) : Type 0 where
  events : done.events + count t ≤ 100
  groups : done.groups + groups_of t ≤ 60
  depth : length path + depth_of t ≤ 16
  placed : IsInPlace (kind_at bases.Script path) t
  ranged : All IsInRange (datings_of t)
  names : HasNodeNames t

-- trees that may come next, one behind another
pub record AllFit (path : List GroupKind) (done : Done) (ts : Trees) : Type 0 where
  pub events : done.events + count_all ts ≤ 100
  pub groups : done.groups + groups_in ts ≤ 60
  pub depth : length path + depth_in ts ≤ 16
  pub placed : AreInPlace (kind_at bases.Script path) ts
  pub ranged : AreInRange ts
  pub names : HaveNodeNames ts

-- the first of them
first-fits : (path : List GroupKind) (done : Done) (t : Tree) (ts : Trees) → AllFit path done (more t ts)
    → Fits path done t
first-fits path done t ts h = record {
  events = omega (arith, h.events);
  groups = omega (arith, h.groups);
  depth = omega (arith, h.depth);
  placed = h.placed.0;
  ranged = All-left IsInRange (datings_of t) (datings_of_all ts) h.ranged;
  names = h.names.0;
}

-- and those behind it
others-fit : (path : List GroupKind) (from done : Done) (t : Tree) (ts : Trees) (tokens : List Kind)
    → AllFit path done (more t ts)
    → (f : Adds path from done (more t none) tokens) → AllFit path f.left ts
others-fit path from done t ts tokens h f = record {
  events = omega (arith, h.events, f.events);
  groups = omega (arith, h.groups, f.groups);
  depth = omega (arith, h.depth);
  placed = h.placed.1;
  ranged = All-right IsInRange (datings_of t) (datings_of_all ts) h.ranged;
  names = h.names.1;
}

-- the members of a group
members-fit : (path : List GroupKind) (done : Done) (kind : GroupOf) (name : Name) (ts : Trees)
    → Fits path done (spec.Group kind name ts)
    → AllFit (kind_back kind ∷ path) (opened done) ts
members-fit path done kind name ts h = record {
  events = h.events;
  groups = omega (arith, h.groups);
  depth = omega (arith, h.depth);
  placed = subst (λ k. AreInPlace k ts) (sym (kind-again kind)) h.placed;
  ranged = h.ranged;
  names = h.names.1;
}

-- a limit that isn't reached
below : (n m : ℕ) → m < n → leb n m ≡ false
below n m h = grind (arith, nat_tests)

-- an event may begin
event-free : (depth events : ℕ) → events < 100 → depth < 16 → event_limit depth events ≡ None
event-free depth events few shallow = rw (below 100 events few, below 16 depth shallow) refl

-- a group may begin
group-free : (depth groups : ℕ) → groups < 60 → depth < 16 → group_limit depth groups ≡ None
group-free depth groups few shallow = rw (below 60 groups few, below 16 depth shallow) refl

-- a leaf may
leaf-free : (path : List GroupKind) (done : Done) (name : Name) (dating : spec.Dating)
    → Fits path done (spec.Leaf name dating)
    → barred bases.Script path done (command_for dating) ≡ None
leaf-free path done name dating h = by_dating dating
  where
    free : event_limit (length path) done.events ≡ None
    free = event-free (length path) done.events (omega (arith, h.events)) (omega (arith, h.depth))

    by_dating : (d : spec.Dating) → barred bases.Script path done (command_for d) ≡ None
    by_dating spec.Free = free
    by_dating (spec.Exact year) = free
    by_dating (spec.Normal year error) = free
    by_dating (spec.Carbon age error) = free

-- its command makes an event
leaf-event : (dating : spec.Dating) → is_event (command_for dating) ≡ true
leaf-event spec.Free = refl
leaf-event (spec.Exact year) = refl
leaf-event (spec.Normal year error) = refl
leaf-event (spec.Carbon age error) = refl

-- a Boundary in its place may stand there
boundary-placed : (path : List GroupKind) → HoldsBoundaries (kind_at bases.Script path)
    → holds_boundary bases.Script (parent path) ≡ true
boundary-placed [] h = absurd cc
boundary-placed (Sequence ∷ path) h = refl
boundary-placed (Phase ∷ path) h = absurd cc
boundary-placed (After ∷ path) h = absurd cc
boundary-placed (Before ∷ path) h = absurd cc

-- and may begin
boundary-free : (path : List GroupKind) (done : Done) (name : Name) → Fits path done (spec.Boundary name)
    → barred bases.Script path done Boundary ≡ None
boundary-free path done name h =
    let free = event-free (length path) done.events (omega (arith, h.events)) (omega (arith, h.depth)) in
    rw (boundary-placed path h.placed) free

-- one dating of a list of one
pub one-ranged : (dating : spec.Dating) → All IsInRange (dating ∷ []) → IsInRange dating
one-ranged dating h = grind arith

-- an event that is added
event-added : (path : List GroupKind) (from done : Done) (brace : Bool) (front : List Kind) (command : Command) (given : Given) (t : Tree)
    → Are bases.Script path from done brace front → barred bases.Script path done command ≡ None
    → is_event command ≡ true → is_call command given ≡ true
    → event_in command given ≡ t → count t ≡ 1 → groups_of t ≡ 0
    → Adds path from done (more t none) (front ++ (call command given ++ mark Semicolon ∷ []))
event-added path from done brace front command given t are free is whole said one no_group = record {
  left = with_event done (event_in command given);
  brace = false;
  statements = event bases.Script path from done brace front command given are refl free is whole;
  members = ap (λ u. trees_with done.members u) said;
  curve = refl;
  events = omega (arith, one);
  groups = omega (arith, no_group);
}

-- the tree of a group, from what its statement says
same-group : (kind : GroupOf) (name : Name) (ts inner : Trees) → inner ≡ joined none ts
    → spec.Group (kind_in (kind_back kind)) (name_in (named name)) inner ≡ spec.Group kind name ts
same-group kind name ts inner e = rw (kind-again kind, name-named name, e, all-joined ts) refl

-- a group that is added, from its members
group-added : (path : List GroupKind) (from done : Done) (brace : Bool) (front : List Kind) (kind : GroupOf) (name : Name) (ts : Trees)
    → Are bases.Script path from done brace front → Fits path done (spec.Group kind name ts)
    → Adds (kind_back kind ∷ path) (opened done) (opened done) ts (trees_tokens ts)
    → Adds path from done (more (spec.Group kind name ts) none) (front ++ tree_tokens (spec.Group kind name ts))
group-added path from done brace front kind name ts are h f =
    let free = group-free (length path) done.groups (omega (arith, h.groups)) (omega (arith, h.depth)) in
    let body = call (Group (kind_back kind)) (named name) ++ mark BraceOpen ∷ (trees_tokens ts ++ mark BraceClose ∷ []) in
    let added = group bases.Script path from done f.left brace f.brace front (trees_tokens ts) (kind_back kind) (named name) are refl free
    (named-group (kind_back kind) name h.names.0) f.statements in
    let left = with_group done.members (kind_back kind) (name_in (named name)) f.left in
    let closed = semicolon bases.Script path from left (front ++ body) added in
    record {
      left = left;
      brace = false;
      statements = subst (λ tokens. Are bases.Script path from left false tokens) (append_assoc front body (mark Semicolon ∷ [])) closed;
      members = ap (λ u. trees_with done.members u) (same-group kind name ts f.left.members f.members);
      curve = f.curve;
      events = omega (arith, f.events);
      groups = omega (arith, f.groups);
    }

-- no statements add no trees
none-added : (path : List GroupKind) (from done : Done) (brace : Bool) (front : List Kind)
    → Are bases.Script path from done brace front
    → Adds path from done none (front ++ [])
none-added path from done brace front are = record {
  left = done;
  brace = brace;
  statements = subst (λ tokens. Are bases.Script path from done brace tokens) (sym (append-nil front)) are;
  members = refl;
  curve = refl;
  events = omega arith;
  groups = omega arith;
}

-- trees behind the first
more-added : (path : List GroupKind) (from done : Done) (t : Tree) (ts : Trees) (front : List Kind)
    → (f : Adds path from done (more t none) (front ++ tree_tokens t))
    → Adds path from f.left ts ((front ++ tree_tokens t) ++ trees_tokens ts)
    → Adds path from done (more t ts) (front ++ trees_tokens (more t ts))
more-added path from done t ts front f g = record {
  left = g.left;
  brace = g.brace;
  statements = subst (λ tokens. Are bases.Script path from g.left g.brace tokens) (append_assoc front (tree_tokens t) (trees_tokens ts)) g.statements;
  members = g.members ∙ ap (λ us. joined us ts) f.members;
  curve = g.curve ∙ f.curve;
  events = omega (arith, f.events, g.events);
  groups = omega (arith, f.groups, g.groups);
}

-- the tokens of trees that fit are statements that add them
mutual
  tree-added : (t : Tree) (path : List GroupKind) (from done : Done) (brace : Bool) (front : List Kind)
      → Are bases.Script path from done brace front
      → Fits path done t → Adds path from done (more t none) (front ++ tree_tokens t)
  tree-added (spec.Leaf name dating) path from done brace front are h =
      let ranged = one-ranged dating h.ranged in
      event-added path from done brace front (command_for dating) (given_for name dating) (spec.Leaf name dating) are (leaf-free path done name dating h)
      (leaf-event dating) (event-call name dating h.names ranged) (event-said name dating ranged) refl refl
  tree-added (spec.Boundary name) path from done brace front are h =
      event-added path from done brace front Boundary (named name) (spec.Boundary name) are (boundary-free path done name h) refl
      (named-boundary name h.names) (ap (λ n. spec.Boundary n) (name-named name)) refl refl
  tree-added (spec.Group kind name ts) path from done brace front are h =
      group-added path from done brace front kind name ts are h
      (trees-added ts (kind_back kind ∷ path) (opened done) (opened done) false [] (empty bases.Script (kind_back kind ∷ path) (opened done)) (members-fit path done kind name ts h))

  pub trees-added : (ts : Trees) (path : List GroupKind) (from done : Done) (brace : Bool) (front : List Kind)
      → Are bases.Script path from done brace front
      → AllFit path done ts → Adds path from done ts (front ++ trees_tokens ts)
  trees-added none path from done brace front are h = none-added path from done brace front are
  trees-added (more t ts) path from done brace front are h =
      let f = tree-added t path from done brace front are (first-fits path done t ts h) in
      more-added path from done t ts front f (trees-added ts path from f.left f.brace (front ++ tree_tokens t) f.statements (others-fit path from done t ts (front ++ tree_tokens t) h f))
