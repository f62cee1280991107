-- A chronology: its events in their groups. After the OxCal 4 manual (CQL2).
use Rattle.std.specs.Prelude.{ℕ, ◌+◌, List, [], ◌∷◌, ◌++◌, map, ℤ, Option}

-- What is known of an event by itself: nothing; its exact year; a year with a normal error; a radiocarbon age
-- with its error. Years are cal BP. Ages and errors are in thousandths of a year, and an error is one sigma.
pub data Dating : Type 0 where
  Free : Dating
  Exact : ℤ → Dating
  Normal : ℤ → ℤ → Dating
  Carbon : ℤ → ℤ → Dating

pub data Kind : Type 0 where
  Sequence : Kind
  Phase : Kind
  After : Kind
  Before : Kind

-- the bytes of a name, which may be empty
abbrev pub Name : Type 0
Name = List ℕ

-- A leaf is an event with a dating, and a Boundary an event without one.
mutual
  pub data Tree : Type 0 where
    Leaf : Name → Dating → Tree
    Boundary : Name → Tree
    Group : Kind → Name → Trees → Tree

  pub data Trees : Type 0 where
    none : Trees
    more : Tree → Trees → Trees

-- The statements of a model's text, and the curve that it names.
pub record Chronology : Type 0 where
  pub curve : Option Name
  pub top : Trees

-- the statements stand in one nameless group, which acts as a Phase
abbrev pub root_of : Chronology → Tree
root_of chronology = Group Phase [] chronology.top

-- how many events it has
abbrev mutual
  pub count : Tree → ℕ
  count (Leaf name dating) = 1
  count (Boundary name) = 1
  count (Group kind name ts) = count_all ts

  pub count_all : Trees → ℕ
  count_all none = 0
  count_all (more t ts) = count t + count_all ts

-- the datings of the events, in the order of the text
abbrev mutual
  pub datings_of : Tree → List Dating
  datings_of (Leaf name dating) = dating ∷ []
  datings_of (Boundary name) = Free ∷ []
  datings_of (Group kind name ts) = datings_of_all ts

  pub datings_of_all : Trees → List Dating
  datings_of_all none = []
  datings_of_all (more t ts) = datings_of t ++ datings_of_all ts

-- a step down: from a group of this kind to its member at this place
pub record Step : Type 0 where
  pub kind : Kind
  pub place : ℕ

-- the path from the root to each event, in the order of the text
abbrev mutual
  pub paths_of : Tree → List (List Step)
  paths_of (Leaf name dating) = [] ∷ []
  paths_of (Boundary name) = [] ∷ []
  paths_of (Group kind name ts) = paths_of_all kind 0 ts

  -- of members that stand in a group of this kind, from this place on
  pub paths_of_all : Kind → ℕ → Trees → List (List Step)
  paths_of_all kind place none = []
  paths_of_all kind place (more t ts) =
      map (λ path. record { kind = kind; place = place } ∷ path) (paths_of t) ++ paths_of_all kind (place + 1) ts

-- its nodes, itself first, in the order of the text
abbrev mutual
  pub nodes_of : Tree → List Tree
  nodes_of (Leaf name dating) = Leaf name dating ∷ []
  nodes_of (Boundary name) = Boundary name ∷ []
  nodes_of (Group kind name ts) = Group kind name ts ∷ nodes_of_all ts

  pub nodes_of_all : Trees → List Tree
  nodes_of_all none = []
  nodes_of_all (more t ts) = nodes_of t ++ nodes_of_all ts

abbrev pub name_of : Tree → Name
name_of (Leaf name dating) = name
name_of (Boundary name) = name
name_of (Group kind name ts) = name
