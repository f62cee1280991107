-- Changes of a model's statements: what each makes of them, and why it is refused. chron's own.
use Rattle.std.specs.Prelude.{ℕ, nat_lt, slice_get, bytes_eq, Option, Some, None, option_map, Result, Ok, Err, if◌then◌else◌}
use Rattle.cg_meaning.specs.Tree.{Name, Dating, Tree, Leaf, Boundary, Group, Trees, none, more, Kind, Phase, count_all, nodes_of_all}
use Rattle.cg_meaning.specs.Order.{is_sequence}
use Rattle.cg_model.specs.Found.{has_name, found_in}
use Rattle.cg_model.specs.Node.{trees_with}
use Rattle.cg_model.specs.Limits.{groups_in, depth_in}
use Rattle.cg_model.specs.declared.find.Found.{Found}
use Rattle.cg_model.specs.declared.find.Found.TheVariants.{Nobody, One, Many}
use Rattle.cg_model.specs.declared.model.Limit.{Limit}
use Rattle.cg_model.specs.declared.model.Limit.TheVariants.{Events, Groups, Depth}

-- A change of the one node that has a name: a new dating for a leaf, a further member behind those of a group, a node
-- put just before it, its leaving with all that it holds, or a new name.
pub data Edit : Type 0 where
  Set : Name → Dating → Edit
  Add : Name → Tree → Edit
  InsertBefore : Name → Tree → Edit
  Drop : Name → Edit
  Rename : Name → Name → Edit

-- what a node is
pub data NodeKind : Type 0 where
  a_leaf : NodeKind
  a_boundary : NodeKind
  a_group : Kind → NodeKind

-- why a change is refused
pub data EditFault : Type 0 where
  NoName : EditFault
  Ambiguous : ℕ → EditFault
  WrongKind : NodeKind → EditFault
  Past : Limit → EditFault

abbrev pub kind_of : Tree → NodeKind
kind_of (Leaf name dating) = a_leaf
kind_of (Boundary name) = a_boundary
kind_of (Group kind name ts) = a_group kind

-- the name that the change is for
abbrev pub target_of : Edit → Name
target_of (Set name dating) = name
target_of (Add name node) = name
target_of (InsertBefore name node) = name
target_of (Drop name) = name
target_of (Rename name new) = name

-- each leaf of this name has this dating, and all else stays
abbrev mutual
  pub dated : Name → Dating → Tree → Tree
  dated name dating (Leaf other before) = if bytes_eq other name then Leaf other dating else Leaf other before
  dated name dating (Boundary other) = Boundary other
  dated name dating (Group kind other ts) = Group kind other (dated_all name dating ts)

  pub dated_all : Name → Dating → Trees → Trees
  dated_all name dating none = none
  dated_all name dating (more t ts) = more (dated name dating t) (dated_all name dating ts)

-- each group of this name has the node behind its members, and all else stays
abbrev mutual
  pub extended : Name → Tree → Tree → Tree
  extended name node (Leaf other dating) = Leaf other dating
  extended name node (Boundary other) = Boundary other
  extended name node (Group kind other ts) =
      if bytes_eq other name then Group kind other (trees_with ts node) else Group kind other (extended_all name node ts)

  pub extended_all : Name → Tree → Trees → Trees
  extended_all name node none = none
  extended_all name node (more t ts) = more (extended name node t) (extended_all name node ts)

-- the node stands just before each one of this name, and all else stays
abbrev mutual
  pub preceded : Name → Tree → Tree → Tree
  preceded name node (Leaf other dating) = Leaf other dating
  preceded name node (Boundary other) = Boundary other
  preceded name node (Group kind other ts) = Group kind other (preceded_all name node ts)

  pub preceded_all : Name → Tree → Trees → Trees
  preceded_all name node none = none
  preceded_all name node (more t ts) =
      let rest = more (preceded name node t) (preceded_all name node ts) in
      if has_name name t then more node rest else rest

-- each node of this name is gone with all that it holds, and all else stays
abbrev mutual
  pub without : Name → Tree → Tree
  without name (Leaf other dating) = Leaf other dating
  without name (Boundary other) = Boundary other
  without name (Group kind other ts) = Group kind other (without_all name ts)

  pub without_all : Name → Trees → Trees
  without_all name none = none
  without_all name (more t ts) = if has_name name t then without_all name ts else more (without name t) (without_all name ts)

-- the new name in place of this one
abbrev pub new_name : Name → Name → Name → Name
new_name name new other = if bytes_eq other name then new else other

-- each node of this name has the new one, and all else stays
abbrev mutual
  pub renamed : Name → Name → Tree → Tree
  renamed name new (Leaf other dating) = Leaf (new_name name new other) dating
  renamed name new (Boundary other) = Boundary (new_name name new other)
  renamed name new (Group kind other ts) = Group kind (new_name name new other) (renamed_all name new ts)

  pub renamed_all : Name → Name → Trees → Trees
  renamed_all name new none = none
  renamed_all name new (more t ts) = more (renamed name new t) (renamed_all name new ts)

-- the statements after a change
abbrev pub edited : Edit → Trees → Trees
edited (Set name dating) ts = dated_all name dating ts
edited (Add name node) ts = extended_all name node ts
edited (InsertBefore name node) ts = preceded_all name node ts
edited (Drop name) ts = without_all name ts
edited (Rename name new) ts = renamed_all name new ts

-- the first kind, or the second where there is none
abbrev pub or_else : Option Kind → Option Kind → Option Kind
or_else (Some kind) other = Some kind
or_else None other = other

-- the group in which a Boundary stands out of place: the first one, as a member of a group of this kind or below it
abbrev mutual
  pub misplaced_in : Kind → Tree → Option Kind
  misplaced_in parent (Leaf name dating) = None
  misplaced_in parent (Boundary name) = if is_sequence parent then None else Some parent
  misplaced_in parent (Group kind name ts) = misplaced_in_all kind ts

  pub misplaced_in_all : Kind → Trees → Option Kind
  misplaced_in_all parent none = None
  misplaced_in_all parent (more t ts) = or_else (misplaced_in parent t) (misplaced_in_all parent ts)

-- the kind of the group of which the first node of this name is a member: of one of this kind, or of one below it
abbrev mutual
  pub parent_below : Name → Tree → Option Kind
  parent_below name (Leaf other dating) = None
  parent_below name (Boundary other) = None
  parent_below name (Group kind other ts) = parent_in name kind ts

  pub parent_in : Name → Kind → Trees → Option Kind
  parent_in name kind none = None
  parent_in name kind (more t ts) =
      if has_name name t then Some kind else or_else (parent_below name t) (parent_in name kind ts)

-- the group in which a Boundary would stand out of place, were the node a member of a group of this kind
abbrev pub misplaced_under : Option Kind → Tree → Option NodeKind
misplaced_under None node = None
misplaced_under (Some parent) node = option_map (λ kind. a_group kind) (misplaced_in parent node)

-- the kind of a node that has no dating to set, and of one that has no members
abbrev pub kind_undated : Tree → Option NodeKind
kind_undated (Leaf name dating) = None
kind_undated (Boundary name) = Some a_boundary
kind_undated (Group kind name ts) = Some (a_group kind)

-- the kind for which a further member of a node is refused
abbrev pub kind_unfit : Tree → Tree → Option NodeKind
kind_unfit added (Leaf name dating) = Some a_leaf
kind_unfit added (Boundary name) = Some a_boundary
kind_unfit added (Group kind name ts) = misplaced_under (Some kind) added

-- the kind for which the change of this node of the statements is refused. The root is as a Phase.
abbrev pub wrong_kind : Edit → Tree → Trees → Option NodeKind
wrong_kind (Set name dating) node ts = kind_undated node
wrong_kind (Add name added) node ts = kind_unfit added node
wrong_kind (InsertBefore name added) node ts = misplaced_under (parent_in name Phase ts) added
wrong_kind (Drop name) node ts = None
wrong_kind (Rename name new) node ts = None

-- the first limit that statements pass
abbrev pub limit_passed : Trees → Option Limit
limit_passed ts =
    if nat_lt 100 (count_all ts) then Some Events
    else (if nat_lt 60 (groups_in ts) then Some Groups
    else (if nat_lt 16 (depth_in ts) then Some Depth
    else None))

-- these statements, or the limit that they pass
abbrev pub within : Option Limit → Trees → Result Trees EditFault
within None ts = Ok ts
within (Some limit) ts = Err (Past limit)

-- the statements after a change of this node, or why it is refused: first for the node's kind, then for a limit
abbrev pub checked : Option NodeKind → Trees → Result Trees EditFault
checked (Some kind) ts = Err (WrongKind kind)
checked None ts = within (limit_passed ts) ts

-- the statements after a change of the node at a place, or why it is refused
abbrev pub changed_at : Option Tree → Edit → Trees → Result Trees EditFault
changed_at None edit ts = Err NoName
changed_at (Some node) edit ts = checked (wrong_kind edit node ts) (edited edit ts)

-- the statements after a change, or why it is refused, by what the search for its name finds
abbrev pub result_for : Found → Edit → Trees → Result Trees EditFault
result_for Nobody edit ts = Err NoName
result_for (One place) edit ts = changed_at (slice_get (nodes_of_all ts) place) edit ts
result_for (Many count) edit ts = Err (Ambiguous count)

-- the statements after a change, or why it is refused
unfoldable pub result_of : Edit → Trees → Result Trees EditFault
result_of edit ts = result_for (found_in (target_of edit) (nodes_of_all ts)) edit ts
