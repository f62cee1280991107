-- What an evaluation computes, by content, with the limits of its parts; and the same without names. chron's own.
use Rattle.std.specs.Prelude.{ℕ, ◌<◌, [], All}
use Rattle.cg_meaning.specs.Tree.{Dating, Tree, Leaf, Boundary, Group, Trees, none, more, count_all, datings_of}
use Rattle.cg_model.specs.Limits.{IsWithinLimits, IsInRange, AreInRange}

-- The row of a dating, the table of a node, or the marginal of the event of this number in a model, whose top statements
-- these are.
pub data Content : Type 0 where
  Row : Dating → Content
  Table : Tree → Content
  Marginal : Trees → ℕ → Content

-- a node of a model, with its values in their ranges
pub record IsNode (tree : Tree) : Type 0 where
  pub limits : IsWithinLimits (more tree none)
  pub ranged : All IsInRange (datings_of tree)

-- the top statements of a model that has an event of this number
pub record HasEvent (top : Trees) (event : ℕ) : Type 0 where
  pub limits : IsWithinLimits top
  pub ranged : AreInRange top
  pub counted : event < count_all top

-- within the limits of a model
abbrev pub IsContent : Content → Type 0
IsContent (Row dating) = IsInRange dating
IsContent (Table tree) = IsNode tree
IsContent (Marginal top event) = HasEvent top event

-- a tree with every name empty
abbrev mutual
  pub without_names : Tree → Tree
  without_names (Leaf name dating) = Leaf [] dating
  without_names (Boundary name) = Boundary []
  without_names (Group kind name ts) = Group kind [] (all_without_names ts)

  pub all_without_names : Trees → Trees
  all_without_names none = none
  all_without_names (more t ts) = more (without_names t) (all_without_names ts)

-- what counts of a content: all but the names
abbrev pub nameless : Content → Content
nameless (Row dating) = Row dating
nameless (Table tree) = Table (without_names tree)
nameless (Marginal top event) = Marginal (all_without_names top) event
