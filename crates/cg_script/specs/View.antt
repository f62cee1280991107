-- What the reader's calls answer.
use Rattle.std.specs.Prelude.{◌≡◌, ◌≢◌, ℕ, ◌<◌, ◌≤◌, true, false, ◌&&◌, not, is_some, List, [], ◌∷◌, ◌++◌, length, Option, Some, None, Result, Ok, Err}
use Rattle.std.specs.Str.{is_utf8}
use Rattle.cg_meaning.specs.Tree as meaning
use Rattle.cg_meaning.specs.Tree.{Name, Tree, Leaf}
use Rattle.cg_model.specs.Dating.{dating_of}
use Rattle.cg_model.specs.declared.dating.Dating.{Dating}
use Rattle.cg_model.specs.Node.{tree_of}
use Rattle.cg_model.specs.declared.node.Node.{Node}
use Rattle.cg_grammar.specs.Text.{SpellsStatement}
use Rattle.cg_sharing.specs.Command.{Line}
use Rattle.cg_script.specs.Command.{command_in}
use Rattle.cg_script.specs.Words.{prints, cut_word}
use Rattle.cg_script.specs.Written.{Written, written_of}
use Rattle.cg_script.specs.Says.{IsUnread, IsMisspelt, HasUnread, PassesYears}
use Rattle.cg_script.specs.Script.{prints_in, IfSays, HasRoom, IsCause, IsTold}
use Rattle.cg_script.specs.declared.word.Word.{Word}
use Rattle.cg_script.specs.declared.command.Command.{Command}
use Rattle.cg_script.specs.declared.fault.ScriptLimit.TheVariants.{Commands, Prints, Years}
use Rattle.cg_script.specs.declared.fault.ScriptCause.{ScriptCause}
use Rattle.cg_script.specs.declared.fault.ScriptCause.TheVariants.{Unknown, Syntax, Statement, Limit, NoMemory}
use Rattle.cg_script.specs.declared.fault.ScriptFault.{ScriptFault}

-- a value that was found, or bad syntax where there is none, want of memory aside
abbrev pub Gives : {A : Type 0} → Option A → Result A ScriptCause → Type 0
Gives found (Ok value) = found ≡ Some value
Gives found (Err Syntax) = found ≡ None
Gives found (Err NoMemory) = Unit {0}
Gives found (Err _) = ⊥

-- the fact holds of what was found
abbrev pub IfFound : {A : Type 0} → Option A → (A → Type 0) → Type 0
IfFound None Fact = ⊥
IfFound (Some value) Fact = Fact value

-- a statement that can't be read, want of memory aside
abbrev pub IsRefusal : ScriptCause → List ℕ → Type 0
IsRefusal (Statement cause) statement = IsUnread cause statement
IsRefusal NoMemory statement = Unit {0}
IsRefusal _ statement = ⊥

-- the node of a statement, or why it can't be read
abbrev pub GivesNode : List ℕ → Result Node ScriptCause → Type 0
GivesNode statement (Ok node) = SpellsStatement statement (tree_of node)
GivesNode statement (Err cause) = IsRefusal cause statement

-- a name, and the node of the statement behind it, if they are found, or why the statement can't be read
abbrev pub GivesPair : Option (Name × List ℕ) → Result (Name × Node) ScriptCause → Type 0
GivesPair found (Ok pair) = IfFound found (λ p. (p.0 ≡ pair.0) × SpellsStatement p.1 (tree_of pair.1))
GivesPair found (Err Syntax) = found ≡ None
GivesPair found (Err NoMemory) = Unit {0}
GivesPair found (Err cause) = IfFound found (λ p. IsRefusal cause p.1)

-- why what a line shows says no command, want of memory aside
abbrev pub Refuses : ScriptCause → Option Written → Type 0
Refuses Syntax written = IsMisspelt written
Refuses (Statement cause) written = HasUnread cause written
Refuses (Limit Years) written = PassesYears written
Refuses NoMemory written = Unit {0}
Refuses _ written = ⊥

-- the command that is said by what a line shows, or why there is none
abbrev pub Answers : Option Written → Result Command ScriptCause → Type 0
Answers written (Ok command) = IfSays written (command_in command)
Answers written (Err cause) = Refuses cause written

-- a nameless date has this dating, and no other node has one
abbrev pub IsDatingOf : Tree → Option Dating → Type 0
IsDatingOf node (Some dating) = node ≡ Leaf [] (dating_of dating)
IsDatingOf node None = (dating : meaning.Dating) → node ≢ Leaf [] dating

-- a word is refused as unknown where it is a text and no command has it, want of memory aside
abbrev pub ChecksWord : Option Word → List ℕ → Result (Unit {0}) ScriptCause → Type 0
ChecksWord command word (Ok done) = (is_utf8 word && not (is_some command)) ≡ false
ChecksWord command word (Err (Unknown name)) = ((is_utf8 word && not (is_some command)) ≡ true) × (name ≡ cut_word word)
ChecksWord command word (Err NoMemory) = Unit {0}
ChecksWord command word (Err _) = ⊥

-- a limit refuses a command behind these lines
abbrev pub ChecksRoom : List Line → Option Word → Result (Unit {0}) ScriptCause → Type 0
ChecksRoom lines command (Ok done) = (length lines < 1000) × (prints command ≡ true → prints_in lines < 200)
ChecksRoom lines command (Err (Limit Commands)) = 1000 ≤ length lines
ChecksRoom lines command (Err (Limit Prints)) =
    (length lines < 1000) × (prints command ≡ true) × (200 ≤ prints_in lines)
ChecksRoom lines command (Err _) = ⊥

-- the command of a line behind these, or the first cause for which there is none, want of memory aside
abbrev pub AnswersAt : List Line → List ℕ → Result Command ScriptCause → Type 0
AnswersAt lines line (Ok command) = HasRoom lines line × IfSays (written_of line) (command_in command)
AnswersAt lines line (Err cause) = IsTold cause (IsCause cause lines line)

-- A line was added behind these: it says its command, and there was room.
pub record Adds (lines : List Line) (number : ℕ) (line : List ℕ) (now : List Line) : Type 0 where
  pub last : Line
  pub room : HasRoom lines line
  pub numbered : last.number ≡ number
  pub says : IfSays (written_of line) last.command
  pub grown : now ≡ lines ++ (last ∷ [])

-- a line is added so, or has the first cause for which it can't be, want of memory aside
abbrev pub Takes : List Line → ℕ → List ℕ → List Line → Result (Unit {0}) ScriptFault → Type 0
Takes lines number line now (Ok done) = Adds lines number line now
Takes lines number line now (Err fault) = (fault.line ≡ number) × IsTold fault.cause (IsCause fault.cause lines line)
