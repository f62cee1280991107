-- What a session script says, and the first fault of bytes that are none. chron's own.
use Rattle.std.specs.Prelude.{◌≡◌, ℕ, ◌<◌, ◌≤◌, ◌⊎◌, Bool, true, false, ◌&&◌, not, is_some, List, [], ◌∷◌, ◌++◌, length, count_by, Option, Some, None}
use Rattle.std.specs.Str.{is_utf8}
use Rattle.cg_sharing.specs.Command as commands
use Rattle.cg_sharing.specs.Command.{Command, Line}
use Rattle.cg_sharing.specs.Course.{AreFit}
use Rattle.cg_script.specs.Lines.{command_lines}
use Rattle.cg_script.specs.Words.{first_word, word_of, prints, cut_word}
use Rattle.cg_script.specs.Written.{Written, written_of}
use Rattle.cg_script.specs.Says.{Says, IsMisspelt, HasUnread, PassesYears}
use Rattle.cg_script.specs.declared.fault.ScriptLimit.TheVariants.{Commands, Prints, Years}
use Rattle.cg_script.specs.declared.fault.ScriptCause.{ScriptCause}
use Rattle.cg_script.specs.declared.fault.ScriptCause.TheVariants.{Unknown, Syntax, Statement, Limit, NoMemory}
use Rattle.cg_script.specs.declared.fault.ScriptFault.{ScriptFault}

-- a command that prints
abbrev pub is_print : Command → Bool
is_print (commands.Print event) = true
is_print (commands.Ranges event) = true
is_print _ = false

-- how many of the lines print
abbrev pub prints_in : List Line → ℕ
prints_in lines = count_by (λ line. is_print line.command) lines

-- what is written, if anything is, says this command
abbrev pub IfSays : Option Written → Command → Type 0
IfSays None command = ⊥
IfSays (Some written) command = Says written command

-- each line says its command, which has its number
abbrev pub SayLines : List (ℕ × List ℕ) → List Line → Type 0
SayLines [] [] = Unit {0}
SayLines (line ∷ others) (said ∷ lines) =
    (said.number ≡ line.0) × IfSays (written_of line.1) said.command × SayLines others lines
SayLines _ _ = ⊥

-- The bytes are a script of these lines: each line with a command says it, and they aren't too many.
pub record IsScript (bytes : List ℕ) (lines : List Line) : Type 0 where
  pub said : SayLines (command_lines bytes) lines
  pub few : length lines ≤ 1000
  pub prints : prints_in lines ≤ 200

-- the first word of the line is a text, and no command has it
abbrev pub is_unknown : List ℕ → Bool
is_unknown line = is_utf8 (first_word line) && not (is_some (word_of (first_word line)))

-- the first word of the line is that of a command which prints
abbrev pub is_print_line : List ℕ → Bool
is_print_line line = prints (word_of (first_word line))

-- Behind these lines neither its word nor a limit of the script refuses the line.
pub record HasRoom (lines : List Line) (line : List ℕ) : Type 0 where
  pub known : is_unknown line ≡ false
  pub few : length lines < 1000
  pub prints : is_print_line line ≡ true → prints_in lines < 200

-- The line has a known word and prints, and 200 prints come before it; there is room for a command.
pub record IsPrintTooMany (lines : List Line) (line : List ℕ) : Type 0 where
  pub known : is_unknown line ≡ false
  pub few : length lines < 1000
  pub print : is_print_line line ≡ true
  pub many : 200 ≤ prints_in lines

-- the first cause for which a line behind these good lines says no command
abbrev pub IsCause : ScriptCause → List Line → List ℕ → Type 0
IsCause (Unknown word) lines line = (is_unknown line ≡ true) × (word ≡ cut_word (first_word line))
IsCause (Limit Commands) lines line = (is_unknown line ≡ false) × (1000 ≤ length lines)
IsCause (Limit Prints) lines line = IsPrintTooMany lines line
IsCause Syntax lines line = HasRoom lines line × IsMisspelt (written_of line)
IsCause (Statement cause) lines line = HasRoom lines line × HasUnread cause (written_of line)
IsCause (Limit Years) lines line = HasRoom lines line × PassesYears (written_of line)
IsCause NoMemory lines line = ⊥

-- Good lines come before the line of the fault, and behind them this is the first cause that holds there. Want of
-- memory is no fault of the bytes.
pub record HasFault (bytes : List ℕ) (fault : ScriptFault) : Type 0 where
  pub before : List (ℕ × List ℕ)
  pub line : List ℕ
  pub others : List (ℕ × List ℕ)
  pub lines : List Line
  pub parted : command_lines bytes ≡ before ++ (fault.line, line) ∷ others
  pub said : SayLines before lines
  pub few : length lines ≤ 1000
  pub prints : prints_in lines ≤ 200
  pub cause : IsCause fault.cause lines line

-- this fact, but for want of memory
abbrev pub IsTold : ScriptCause → Type 0 → Type 0
IsTold NoMemory fact = Unit {0}
IsTold _ fact = fact

-- the bytes have this fault, want of memory aside
abbrev pub FailsBy : List ℕ → ScriptFault → Type 0
FailsBy bytes fault = IsTold fault.cause (HasFault bytes fault)

-- Bytes are a script of exactly these lines, or have exactly one fault.
pub record IsDecided (bytes : List ℕ) : Type 0 where
  pub one : ((lines : List Line) × IsScript bytes lines) ⊎ ((fault : ScriptFault) × HasFault bytes fault)
  pub not_both : (lines : List Line) (fault : ScriptFault) → IsScript bytes lines → ¬ HasFault bytes fault
  pub one_script : (a b : List Line) → IsScript bytes a → IsScript bytes b → a ≡ b
  pub one_fault : (f g : ScriptFault) → HasFault bytes f → HasFault bytes g → f ≡ g

-- each list of bytes is
abbrev pub EachIsDecided : Type 0
EachIsDecided = (bytes : List ℕ) → IsDecided bytes

-- What holds of each script that was read: at most 1,000 commands and 200 prints, and what each command brings is in
-- order.
pub record IsBounded (lines : List Line) : Type 0 where
  pub few : length lines ≤ 1000
  pub prints : prints_in lines ≤ 200
  pub fit : AreFit lines
