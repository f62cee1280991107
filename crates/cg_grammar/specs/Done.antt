-- What statements leave, and which may come behind them.
use Rattle.std.specs.Prelude.{ℕ, ◌+◌, Bool, true, false, not, nat_le, List, [], ◌∷◌, length, Option, Some, None, is_some}
use Rattle.cg_meaning.specs.Tree.{Name, Tree, Trees, none, more, Group as GroupOf}
use Rattle.cg_model.specs.Node.{trees_with}
use Rattle.cg_model.specs.declared.group.GroupKind.{GroupKind}
use Rattle.cg_model.specs.declared.group.GroupKind.TheVariants.{Sequence}
use Rattle.cg_grammar.specs.declared.command.Command.{Command}
use Rattle.cg_grammar.specs.declared.command.Command.TheVariants.{Date, Boundary, CDate, RDate, Group, Plot, Options, Curve}
use Rattle.cg_grammar.specs.declared.command.Setting.{Setting}
use Rattle.cg_grammar.specs.declared.command.Setting.TheVariants as settings
use Rattle.cg_grammar.specs.declared.command.Base.{Base}
use Rattle.cg_grammar.specs.declared.command.Base.TheVariants as bases
use Rattle.cg_grammar.specs.declared.fault.CqlCause.{CqlCause}
use Rattle.cg_grammar.specs.declared.fault.CqlCause.TheVariants as causes
use Rattle.cg_grammar.specs.declared.fault.CqlLimit.TheVariants as limits
use Rattle.cg_model.specs.Group.{kind_in}

-- the members so far of the innermost open group, the curve that is named, and how many events and groups began in all
pub record Done : Type 0 where
  pub members : Trees
  pub curve : Option Name
  pub events : ℕ
  pub groups : ℕ

-- what stands before everything
abbrev pub start : Done
start = record { members = none; curve = None; events = 0; groups = 0 }

-- an event stands behind the others
abbrev pub with_event : Done → Tree → Done
with_event done tree = record done { members = trees_with done.members tree; events = done.events + 1 }

-- a group begins
abbrev pub opened : Done → Done
opened done = record done { members = none; groups = done.groups + 1 }

-- it ends
abbrev pub with_group : Trees → GroupKind → Name → Done → Done
with_group before kind name done =
    record done { members = trees_with before (GroupOf (kind_in kind) name done.members) }

-- a curve is named
abbrev pub with_curve : Done → Name → Done
with_curve done name = record done { curve = Some name }

-- there are no members
abbrev pub is_none : Trees → Bool
is_none none = true
is_none (more tree trees) = false

-- the group in which statements stand
abbrev pub parent : List GroupKind → Option GroupKind
parent [] = None
parent (kind ∷ path) = Some kind

-- the same, from whether there is a statement
abbrev pub is_over_at : Base → Option GroupKind → Bool → Bool
is_over_at bases.Single None started = started
is_over_at _ _ started = false

-- the one statement was read
abbrev pub is_over : Base → List GroupKind → Done → Bool
is_over base path done = is_over_at base (parent path) (not (is_none done.members))

-- this cause, or else the other
abbrev pub limit_of : Bool → CqlCause → Option CqlCause → Option CqlCause
limit_of true cause other = Some cause
limit_of false cause other = other

-- why an event may not begin for want of room: 100 events, and a depth of 16
abbrev pub event_limit : ℕ → ℕ → Option CqlCause
event_limit depth events =
    limit_of (nat_le 100 events) (causes.Limit limits.Events)
    (limit_of (nat_le 16 depth) (causes.Limit limits.Depth) None)

-- why a group may not begin for want of room: 60 groups, and a depth of 16
abbrev pub group_limit : ℕ → ℕ → Option CqlCause
group_limit depth groups =
    limit_of (nat_le 60 groups) (causes.Limit limits.Groups)
    (limit_of (nat_le 16 depth) (causes.Limit limits.Depth) None)

-- why a curve may not be named: one is
abbrev pub curve_limit : Bool → Option CqlCause
curve_limit named = limit_of named (causes.Limit limits.Curves) None

-- a Boundary stands directly in a Sequence, or alone
abbrev pub holds_boundary : Base → Option GroupKind → Bool
holds_boundary base (Some Sequence) = true
holds_boundary base (Some kind) = false
holds_boundary bases.Single None = true
holds_boundary base None = false

-- Options and Curve stand at the top or in a Plot
abbrev pub is_top : Base → Option GroupKind → Bool
is_top bases.Script None = true
is_top bases.Plot None = true
is_top base above = false

-- a Plot stands at the top of a script
abbrev pub is_script : Base → Option GroupKind → Bool
is_script bases.Script None = true
is_script base above = false

-- a limit where the place fits
abbrev pub placed_if : Bool → Option CqlCause → Option CqlCause
placed_if true limit = limit
placed_if false limit = Some causes.Place

-- the same, from the innermost group, the depth, the numbers of events and groups, and whether a curve is named
abbrev pub barred_at : Base → Option GroupKind → ℕ → ℕ → ℕ → Bool → Command → Option CqlCause
barred_at base above depth events groups named Boundary =
    placed_if (holds_boundary base above) (event_limit depth events)
barred_at base above depth events groups named (Group kind) = group_limit depth groups
barred_at base above depth events groups named Plot = placed_if (is_script base above) None
barred_at base above depth events groups named Options = placed_if (is_top base above) None
barred_at base above depth events groups named Curve = placed_if (is_top base above) (curve_limit named)
barred_at base above depth events groups named command = event_limit depth events

-- why a command may not begin there: first its place, then a limit
abbrev pub barred : Base → List GroupKind → Done → Command → Option CqlCause
barred base path done command =
    barred_at base (parent path) (length path) done.events done.groups (is_some done.curve) command

-- why an option may not be named
abbrev pub barred_setting : Setting → Done → Option CqlCause
barred_setting settings.Curve done = curve_limit (is_some done.curve)
barred_setting _ done = None

-- the command makes an event
abbrev pub is_event : Command → Bool
is_event Date = true
is_event Boundary = true
is_event CDate = true
is_event RDate = true
is_event _ = false
