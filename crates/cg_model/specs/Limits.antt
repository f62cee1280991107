-- The limits of a model: how many events and groups it has and how deep they stand, where a Boundary may stand, and
-- the ranges of its values. chron's own.
use Rattle.std.specs.Prelude.{ℕ, ◌+◌, ◌≤◌, max, ℤ, pos, negsuc, ◌≤ℤ◌, All, IsTrue}
use Rattle.cg_meaning.specs.Tree.{Tree, Leaf, Boundary, Group, Trees, none, more, Kind, Phase}
use Rattle.cg_meaning.specs.Tree.{Dating, Free, Exact, Normal, Carbon, count_all, datings_of_all}
use Rattle.cg_meaning.specs.Order.{is_sequence}
use Rattle.cg_num.specs.Year.{IsYear}

-- how many groups it has, itself included
abbrev mutual
  pub groups_of : Tree → ℕ
  groups_of (Leaf name dating) = 0
  groups_of (Boundary name) = 0
  groups_of (Group kind name ts) = 1 + groups_in ts

  pub groups_in : Trees → ℕ
  groups_in none = 0
  groups_in (more t ts) = groups_of t + groups_in ts

-- the depth of an event is 1, that of a group one more than the greatest of its members
abbrev mutual
  pub depth_of : Tree → ℕ
  depth_of (Leaf name dating) = 1
  depth_of (Boundary name) = 1
  depth_of (Group kind name ts) = 1 + depth_in ts

  pub depth_in : Trees → ℕ
  depth_in none = 0
  depth_in (more t ts) = max (depth_of t) (depth_in ts)

-- top statements, or members, that are within the limits of a model
pub record IsWithinLimits (ts : Trees) : Type 0 where
  pub events : count_all ts ≤ 100
  pub groups : groups_in ts ≤ 60
  pub depth : depth_in ts ≤ 16

-- a Boundary may be a direct member of a group of this kind
abbrev pub HoldsBoundaries : Kind → Type 0
HoldsBoundaries kind = IsTrue (is_sequence kind)

-- as a member of a group of this kind, and below it, each Boundary stands directly in a Sequence
abbrev mutual
  pub IsInPlace : Kind → Tree → Type 0
  IsInPlace parent (Leaf name dating) = Unit {0}
  IsInPlace parent (Boundary name) = HoldsBoundaries parent
  IsInPlace parent (Group kind name ts) = AreInPlace kind ts

  pub AreInPlace : Kind → Trees → Type 0
  AreInPlace parent none = Unit {0}
  AreInPlace parent (more t ts) = IsInPlace parent t × AreInPlace parent ts

-- a year with an error of 1 to 10,000 years
pub record IsNormal (year error : ℤ) : Type 0 where
  pub year_is : IsYear year
  pub some : pos 1000 ≤ℤ error
  pub few : error ≤ℤ pos 10000000

-- a radiocarbon age of -2,000 to 60,000 years with an error of 1 to 10,000
pub record IsCarbon (age error : ℤ) : Type 0 where
  pub low : negsuc 1999999 ≤ℤ age
  pub high : age ≤ℤ pos 60000000
  pub some : pos 1000 ≤ℤ error
  pub few : error ≤ℤ pos 10000000

-- the values of a dating are in their ranges
abbrev pub IsInRange : Dating → Type 0
IsInRange Free = Unit {0}
IsInRange (Exact year) = IsYear year
IsInRange (Normal year error) = IsNormal year error
IsInRange (Carbon age error) = IsCarbon age error

-- those of the dating of each event are
abbrev pub AreInRange : Trees → Type 0
AreInRange ts = All IsInRange (datings_of_all ts)

-- What holds of each model: its limits, the places of its Boundaries under the root, and its ranges.
pub record IsModel (top : Trees) : Type 0 where
  pub limits : IsWithinLimits top
  pub placed : AreInPlace Phase top
  pub ranged : AreInRange top
