-- The command that a line says, and why what it shows is none. chron's own.
use Rattle.std.specs.Prelude.{◌≡◌, ◌≢◌, ℕ, List, [], Option, Some, None, ℤ}
use Rattle.cg_num.specs.Year.{IsYear}
use Rattle.cg_meaning.specs.Tree.{Name, Dating, Tree, Leaf}
use Rattle.cg_grammar.specs.Text.{SpellsStatement, Fails}
use Rattle.cg_grammar.specs.declared.command.Base.TheVariants.{Single}
use Rattle.cg_grammar.specs.declared.fault.CqlCause.{CqlCause}
use Rattle.cg_grammar.specs.declared.fault.CqlCause.TheVariants as causes
use Rattle.cg_grammar.specs.declared.fault.CqlFault.{CqlFault}
use Rattle.cg_sharing.specs.Edit as edits
use Rattle.cg_sharing.specs.Command as commands
use Rattle.cg_sharing.specs.Command.{Command}
use Rattle.cg_script.specs.Written.{Written, Grid, Open, Take, Undo, Set, Add, Insert, Drop, Rename, Commit, Print, Ranges, Model, Work}

-- both years of a grid are in range
abbrev pub AreYears : ℤ → ℤ → Type 0
AreYears older younger = IsYear older × IsYear younger

-- the statement of a Set is a nameless date: the event gets its dating
pub record Sets (event : Name) (statement : List ℕ) (command : Command) : Type 0 where
  pub dating : Dating
  pub spelled : SpellsStatement statement (Leaf [] dating)
  pub said : command ≡ commands.Change (edits.Set event dating)

-- a statement is added by this change
pub record Brings (change : Tree → edits.Edit) (statement : List ℕ) (command : Command) : Type 0 where
  pub node : Tree
  pub spelled : SpellsStatement statement node
  pub said : command ≡ commands.Change (change node)

-- what is written says this command
abbrev pub Says : Written → Command → Type 0
Says (Grid older younger) command = AreYears older younger × (command ≡ commands.Grid older younger)
Says (Open name) command = command ≡ commands.Open name
Says (Take version) command = command ≡ commands.Take version
Says Undo command = command ≡ commands.Undo
Says (Set event statement) command = Sets event statement command
Says (Add group statement) command = Brings (λ node. edits.Add group node) statement command
Says (Insert name statement) command = Brings (λ node. edits.InsertBefore name node) statement command
Says (Drop name) command = command ≡ commands.Change (edits.Drop name)
Says (Rename name new) command = command ≡ commands.Change (edits.Rename name new)
Says (Commit name) command = command ≡ commands.Commit name
Says (Print event) command = command ≡ commands.Print event
Says (Ranges event) command = command ≡ commands.Ranges event
Says Model command = command ≡ commands.Model
Says Work command = command ≡ commands.Work

-- the statement can be read, and is another than a nameless date
pub record SpellsOther (statement : List ℕ) : Type 0 where
  pub node : Tree
  pub spelled : SpellsStatement statement node
  pub other : (dating : Dating) → node ≢ Leaf [] dating

-- the statement can't be read, by this cause
pub record FailsFor (cause : CqlCause) (statement : List ℕ) : Type 0 where
  pub fault : CqlFault
  pub fails : Fails Single statement fault
  pub same : fault.cause ≡ cause

-- the same, which want of memory never is
abbrev pub IsUnread : CqlCause → List ℕ → Type 0
IsUnread causes.NoMemory statement = ⊥
IsUnread cause statement = FailsFor cause statement

-- the line shows no command, or sets an event to another statement than a nameless date
abbrev pub IsMisspelt : Option Written → Type 0
IsMisspelt None = Unit {0}
IsMisspelt (Some (Set event statement)) = SpellsOther statement
IsMisspelt (Some _) = ⊥

-- the statement that the line shows can't be read, by this cause
abbrev pub HasUnread : CqlCause → Option Written → Type 0
HasUnread cause (Some (Set event statement)) = IsUnread cause statement
HasUnread cause (Some (Add group statement)) = IsUnread cause statement
HasUnread cause (Some (Insert name statement)) = IsUnread cause statement
HasUnread cause _ = ⊥

-- a year of the grid that the line shows is out of range
abbrev pub PassesYears : Option Written → Type 0
PassesYears (Some (Grid older younger)) = ¬ AreYears older younger
PassesYears _ = ⊥
