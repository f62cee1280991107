-- The text of statements, and that a change leaves all of it but the part of one node. chron's own.
use Rattle.std.specs.Prelude.{◌≡◌, List, [], ◌∷◌, ◌++◌, Ok}
use Rattle.cg_meaning.specs.Tree.{Name, Dating, Kind, Tree, Leaf, Boundary, Group, Trees, none, more, name_of}
use Rattle.cg_model.specs.Node.{trees_with}
use Rattle.cg_sharing.specs.Edit.{Edit, Set, Add, InsertBefore, Drop, Rename, result_of}

-- a mark of a text: an event with its dating, a Boundary, or where a group opens or closes
pub data Mark : Type 0 where
  Dated : Name → Dating → Mark
  Bound : Name → Mark
  Opens : Kind → Name → Mark
  Closes : Mark

-- the marks of a node, and of statements one after another
abbrev mutual
  pub marks_of : Tree → List Mark
  marks_of (Leaf name dating) = Dated name dating ∷ []
  marks_of (Boundary name) = Bound name ∷ []
  marks_of (Group kind name ts) = Opens kind name ∷ (marks_of_all ts ++ Closes ∷ [])

  pub marks_of_all : Trees → List Mark
  marks_of_all none = []
  marks_of_all (more t ts) = marks_of t ++ marks_of_all ts

-- A text that is as before, but that the new part stands in place of the old one.
pub record IsOnlyChange (old new before after : List Mark) : Type 0 where
  pub front : List Mark
  pub back : List Mark
  pub was : before ≡ front ++ old ++ back
  pub is : after ≡ front ++ new ++ back

-- the node under another name, with the same dating or the same members
abbrev pub with_name : Name → Tree → Tree
with_name new (Leaf name dating) = Leaf new dating
with_name new (Boundary name) = Boundary new
with_name new (Group kind name ts) = Group kind new ts

-- A change replaces one leaf of its name by one with the dating, or one group of its name by one with the node behind
-- its members; or before one node of its name the other comes, or one node of its name goes, or has the new one.
abbrev pub ElseStays : Edit → Trees → Trees → Type 0
ElseStays (Set name dating) before after =
    (old : Dating) × IsOnlyChange (marks_of (Leaf name old)) (marks_of (Leaf name dating)) (marks_of_all before) (marks_of_all after)
ElseStays (Add name node) before after =
    (group : Kind × Trees) × IsOnlyChange (marks_of (Group group.0 name group.1)) (marks_of (Group group.0 name (trees_with group.1 node))) (marks_of_all before) (marks_of_all after)
ElseStays (InsertBefore name node) before after =
    (t : Tree) × (name_of t ≡ name) × IsOnlyChange (marks_of t) (marks_of node ++ marks_of t) (marks_of_all before) (marks_of_all after)
ElseStays (Drop name) before after =
    (t : Tree) × (name_of t ≡ name) × IsOnlyChange (marks_of t) [] (marks_of_all before) (marks_of_all after)
ElseStays (Rename name new) before after =
    (t : Tree) × (name_of t ≡ name) × IsOnlyChange (marks_of t) (marks_of (with_name new t)) (marks_of_all before) (marks_of_all after)

-- whenever a change is accepted all else stays
abbrev pub AllElseStays : Type 0
AllElseStays = (edit : Edit) (before after : Trees) → result_of edit before ≡ Ok after → ElseStays edit before after
