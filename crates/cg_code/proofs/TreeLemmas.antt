-- The bytes of a node tell the node, names aside, and what follows them.
use Rattle.std.proofs.Common.{◌≡◌, ℕ, ◌+◌, ◌≤◌, List, [], ◌∷◌, ◌++◌, length, map, get_or, refl, sym, ap, ap₂, ◌∙◌, arith, append_assoc}
use Rattle.std.specs.Prelude.{All, Bool, true, false, ◌||◌, ◌==◌}
use Rattle.cg_meaning.specs.Tree.{Dating, Free, Exact, Normal, Carbon, Kind, Sequence, Phase, After, Before, Name, Tree, Leaf, Boundary, Group, Trees, none, more, count, count_all, datings_of, datings_of_all}
use Rattle.cg_model.specs.Limits.{groups_of, groups_in, IsInRange, AreInRange}
use Rattle.cg_model.specs.Node.{tree_of, trees_of, trees, items_of}
use Rattle.cg_model.specs.declared.node.Members.{Members}
use Rattle.cg_model.specs.declared.node.Node.{Node}
use Rattle.cg_model.proofs.NodeLemmas.{trees_of-all}
use Rattle.cg_model.proofs.PlaceLemmas.{All-left, All-right}
use Rattle.cg_code.specs.Code.{in_two, dating_bytes, kind_bytes, members_in, tree_bytes, trees_bytes}
use Rattle.cg_code.specs.Content.{without_names, all_without_names}
use Rattle.cg_code.proofs.FieldLemmas.{first, two-front, dating-front, kind-front}

-- few enough to be counted in two bytes, with their values in range
pub record AreFit (ts : Trees) : Type 0 where
  pub few : count_all ts + groups_in ts ≤ 65535
  pub ranged : AreInRange ts

pub record IsFit (t : Tree) : Type 0 where
  pub few : count t + groups_of t ≤ 65535
  pub ranged : All IsInRange (datings_of t)

-- the first of them, and the others
pub IsFit-first : (t : Tree) (ts : Trees) → AreFit (more t ts) → IsFit t
IsFit-first t ts fit = record { few = omega (arith, fit.few); ranged = All-left IsInRange (datings_of t) (datings_of_all ts) fit.ranged }

pub AreFit-rest : (t : Tree) (ts : Trees) → AreFit (more t ts) → AreFit ts
AreFit-rest t ts fit = record { few = omega (arith, fit.few); ranged = All-right IsInRange (datings_of t) (datings_of_all ts) fit.ranged }

-- the members of a group
pub AreFit-members : (k : Kind) (name : Name) (ts : Trees) → IsFit (Group k name ts) → AreFit ts
AreFit-members k name ts fit = record { few = omega (arith, fit.few); ranged = fit.ranged }

-- each member is an event or a group, or has some
mutual
  some : (t : Tree) → 1 ≤ count t + groups_of t
  some (Leaf name d) = omega arith
  some (Boundary name) = omega arith
  some (Group k name ts) = omega arith

  pub members-few : (ts : Trees) → members_in ts ≤ count_all ts + groups_in ts
  members-few none = omega arith
  members-few (more t ts) = omega (arith, some t, members-few ts)

-- a code begins with the letter of a dating
abbrev begins_dated : List ℕ → Bool
begins_dated bytes = let letter = get_or bytes 0 0 in letter == 68 || letter == 88 || letter == 78 || letter == 67

begins_dated-dating : (d : Dating) (xs : List ℕ) → begins_dated (dating_bytes d ++ xs) ≡ true
begins_dated-dating Free xs = refl
begins_dated-dating (Exact y) xs = refl
begins_dated-dating (Normal y s) xs = refl
begins_dated-dating (Carbon y s) xs = refl

begins_dated-kind : (k : Kind) (xs : List ℕ) → begins_dated (kind_bytes k ++ xs) ≡ false
begins_dated-kind Sequence xs = refl
begins_dated-kind Phase xs = refl
begins_dated-kind After xs = refl
begins_dated-kind Before xs = refl

-- a group isn't a Boundary
kind-Boundary : (k : Kind) (xs ys : List ℕ) → kind_bytes k ++ xs ≡ 66 ∷ ys → ⊥
kind-Boundary Sequence xs ys eq = omega (arith, first _ _ eq)
kind-Boundary Phase xs ys eq = omega (arith, first _ _ eq)
kind-Boundary After xs ys eq = omega (arith, first _ _ eq)
kind-Boundary Before xs ys eq = omega (arith, first _ _ eq)

-- the bytes of a group before what follows
group : (k : Kind) (ts : Trees) (xs : List ℕ) → (kind_bytes k ++ (in_two (members_in ts) ++ trees_bytes ts)) ++ xs ≡ kind_bytes k ++ (in_two (members_in ts) ++ (trees_bytes ts ++ xs))
group k ts xs = append_assoc (kind_bytes k) (in_two (members_in ts) ++ trees_bytes ts) xs ∙ ap (λ zs. kind_bytes k ++ zs) (append_assoc (in_two (members_in ts)) (trees_bytes ts) xs)

mutual
  pub tree-front : (t u : Tree) (xs ys : List ℕ) → IsFit t → IsFit u → tree_bytes t ++ xs ≡ tree_bytes u ++ ys → (without_names t ≡ without_names u) × (xs ≡ ys)
  tree-front (Leaf name d) (Leaf other e) xs ys p q eq =
      let same = dating-front d e xs ys (p.ranged 0 d (omega arith)) (q.ranged 0 e (omega arith)) eq in
      (ap (Leaf []) same.0, same.1)
  tree-front (Boundary name) (Boundary other) xs ys p q eq = (refl, cc)
  tree-front (Group k name ts) (Group l other us) xs ys p q eq =
      let fit = AreFit-members k name ts p in
      let fit_too = AreFit-members l other us q in
      let kinds = kind-front k l _ _ (sym (group k ts xs) ∙ eq ∙ group l us ys) in
      let counts = two-front (members_in ts) (members_in us) _ _ (omega (arith, members-few ts, fit.few)) (omega (arith, members-few us, fit_too.few)) kinds.1 in
      let members = trees-front ts us xs ys fit fit_too counts.0 counts.1 in
      (ap₂ (λ m vs. Group m [] vs) kinds.0 members.0, members.1)
  tree-front (Leaf name d) (Boundary other) xs ys p q eq = absurd (cc (sym (begins_dated-dating d xs) ∙ ap begins_dated eq))
  tree-front (Boundary name) (Leaf other e) xs ys p q eq = absurd (cc (ap begins_dated eq ∙ begins_dated-dating e ys))
  tree-front (Leaf name d) (Group l other us) xs ys p q eq =
      let dated = begins_dated-dating d xs in
      let not_dated = begins_dated-kind l (in_two (members_in us) ++ (trees_bytes us ++ ys)) in
      absurd (cc (dated, not_dated, ap begins_dated (eq ∙ group l us ys)))
  tree-front (Group k name ts) (Leaf other e) xs ys p q eq =
      let dated = begins_dated-dating e ys in
      let not_dated = begins_dated-kind k (in_two (members_in ts) ++ (trees_bytes ts ++ xs)) in
      absurd (cc (dated, not_dated, ap begins_dated (sym (group k ts xs) ∙ eq)))
  tree-front (Boundary name) (Group l other us) xs ys p q eq = absurd (kind-Boundary l _ xs (sym (eq ∙ group l us ys)))
  tree-front (Group k name ts) (Boundary other) xs ys p q eq = absurd (kind-Boundary k _ ys (sym (group k ts xs) ∙ eq))

  -- members that are as many
  pub trees-front : (ts us : Trees) (xs ys : List ℕ) → AreFit ts → AreFit us → members_in ts ≡ members_in us → trees_bytes ts ++ xs ≡ trees_bytes us ++ ys → (all_without_names ts ≡ all_without_names us) × (xs ≡ ys)
  trees-front none none xs ys p q same eq = (refl, eq)
  trees-front none (more u us) xs ys p q same eq = absurd (omega (arith, same))
  trees-front (more t ts) none xs ys p q same eq = absurd (omega (arith, same))
  trees-front (more t ts) (more u us) xs ys p q same eq =
      let split = sym (append_assoc (tree_bytes t) (trees_bytes ts) xs) ∙ eq ∙ append_assoc (tree_bytes u) (trees_bytes us) ys in
      let here = tree-front t u (trees_bytes ts ++ xs) (trees_bytes us ++ ys) (IsFit-first t ts p) (IsFit-first u us q) split in
      let later = trees-front ts us xs ys (AreFit-rest t ts p) (AreFit-rest u us q) (omega (arith, same)) here.1 in
      (ap₂ more here.0 later.0, later.1)

-- the bytes have no names
mutual
  pub tree_bytes-nameless : (t : Tree) → tree_bytes (without_names t) ≡ tree_bytes t
  tree_bytes-nameless (Leaf name d) = refl
  tree_bytes-nameless (Boundary name) = refl
  tree_bytes-nameless (Group k name ts) =
      ap₂ (λ n bytes. kind_bytes k ++ (in_two n ++ bytes)) (members_in-nameless ts) (trees_bytes-nameless ts)

  pub trees_bytes-nameless : (ts : Trees) → trees_bytes (all_without_names ts) ≡ trees_bytes ts
  trees_bytes-nameless none = refl
  trees_bytes-nameless (more t ts) = ap₂ (λ p q. p ++ q) (tree_bytes-nameless t) (trees_bytes-nameless ts)

  members_in-nameless : (ts : Trees) → members_in (all_without_names ts) ≡ members_in ts
  members_in-nameless none = refl
  members_in-nameless (more t ts) = ap (λ n. 1 + n) (members_in-nameless ts)

-- members are as many as their nodes
members_in-nodes : (items : List Node) → members_in (trees (map tree_of items)) ≡ length items
members_in-nodes [] = refl
members_in-nodes (x ∷ items) = omega (arith, members_in-nodes items)

pub members_in-len : (members : Members) → members_in (trees_of members) ≡ length (items_of members)
members_in-len members = ap members_in (trees_of-all members) ∙ members_in-nodes (items_of members)
