-- The messages that a print gets, each with those that its making takes. chron's own.
use Rattle.std.specs.Prelude.{ℕ, ◌-◌, nat_lt, Bool, true, false, List, [], if◌then◌else◌}
use Rattle.cg_meaning.specs.Tree.{Dating, Free, Exact, Normal, Carbon, Tree, Leaf, Boundary, Group, Trees, none, more, Phase, count}
use Rattle.cg_code.specs.Content.{Content, Row, Table, Marginal}

-- Messages to be got, in order: the code of the first, those that its making takes, and the others.
pub data Gets : Type 0 where
  no_more : Gets
  get : List ℕ → Gets → Gets → Gets

-- a dating with an error has a row to be got
abbrev pub is_weighed : Dating → Bool
is_weighed Free = false
is_weighed (Exact year) = false
is_weighed (Normal year error) = true
is_weighed (Carbon age error) = true

-- the row of a leaf, before others, where contents have these codes
abbrev pub row_gets : (Content → List ℕ) → Dating → Gets → Gets
row_gets code dating others = if is_weighed dating then get (code (Row dating)) no_more others else others

-- a node, before others: a Boundary and a date without an error need none; a group's table takes its members
abbrev mutual
  pub node_gets : (Content → List ℕ) → Tree → Gets → Gets
  node_gets code (Leaf name dating) others = row_gets code dating others
  node_gets code (Boundary name) others = others
  node_gets code (Group kind name ts) others = get (code (Table (Group kind name ts))) (member_gets code ts no_more) others

  pub member_gets : (Content → List ℕ) → Trees → Gets → Gets
  member_gets code none others = others
  member_gets code (more t ts) others = node_gets code t (member_gets code ts others)

-- the members, but for the one that has the event of this number
abbrev pub beside_gets : (Content → List ℕ) → ℕ → Trees → Gets → Gets
beside_gets code event none others = others
beside_gets code event (more t ts) others =
    if nat_lt event (count t) then member_gets code ts others
    else node_gets code t (beside_gets code (event - count t) ts others)

-- what the marginal of an event takes of a node that has it: of each group down to it the other members, and its own row
abbrev mutual
  pub way_gets : (Content → List ℕ) → ℕ → Tree → Gets → Gets
  way_gets code event (Leaf name dating) others = row_gets code dating others
  way_gets code event (Boundary name) others = others
  way_gets code event (Group kind name ts) others = beside_gets code event ts (member_way_gets code event ts others)

  pub member_way_gets : (Content → List ℕ) → ℕ → Trees → Gets → Gets
  member_way_gets code event none others = others
  member_way_gets code event (more t ts) others =
      if nat_lt event (count t) then way_gets code event t others else member_way_gets code (event - count t) ts others

-- the marginal of an event of a model
abbrev pub print_gets : (Content → List ℕ) → Trees → ℕ → Gets
print_gets code top event = get (code (Marginal top event)) (way_gets code event (Group Phase [] top) no_more) no_more
