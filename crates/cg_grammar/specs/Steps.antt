-- One token after another: what may come next, and why a token can't.
use Rattle.std.specs.Prelude.{ℕ, Bool, true, false, List, [], ◌∷◌, min, length, take, codes, bytes_eq, pos, Option, Some, None, Result, Ok, Err, if◌then◌else◌}
use Rattle.std.specs.Ordering.{int_eq}
use Rattle.cg_meaning.specs.Tree.{Name, Trees}
use Rattle.cg_token.specs.Kind.{Kind, word, text, number, mark, ended, unreadable}
use Rattle.cg_token.specs.declared.token.Mark.TheVariants.{ParenOpen, ParenClose, BraceOpen, BraceClose, Comma, Semicolon, Equals}
use Rattle.cg_model.specs.declared.group.GroupKind.{GroupKind}
use Rattle.cg_grammar.specs.declared.command.Command.{Command}
use Rattle.cg_grammar.specs.declared.command.Command.TheVariants.{Date, Boundary, CDate, RDate, Group, Plot, Options, Curve}
use Rattle.cg_grammar.specs.declared.command.Setting.{Setting}
use Rattle.cg_grammar.specs.declared.command.Setting.TheVariants as settings
use Rattle.cg_grammar.specs.declared.command.Base.{Base}
use Rattle.cg_grammar.specs.declared.command.Base.TheVariants as bases
use Rattle.cg_grammar.specs.declared.fault.CqlCause.{CqlCause}
use Rattle.cg_grammar.specs.declared.fault.CqlCause.TheVariants as causes
use Rattle.cg_grammar.specs.declared.fault.Refusal.{Refusal}
use Rattle.cg_grammar.specs.declared.fault.Refusal.TheVariants.{Here, Before}
use Rattle.cg_grammar.specs.Words.{command_of, setting_of}
use Rattle.cg_grammar.specs.Arguments.{Given, nothing, one, two, value, values, takes_text, takes_file, takes_value, takes_error, may_part, is_whole, is_file, with_ending, event_in, name_in, file_in}
use Rattle.cg_grammar.specs.Done.{Done, start, with_event, opened, with_group, with_curve, is_none, is_over, barred, barred_setting}

-- where reading stands in a statement
pub data Part : Type 0 where
  -- a statement may begin; the same behind a brace, or a semicolon
  item : Part
  closed : Part
  -- behind a word; an opening parenthesis; an argument; a comma; the closing parenthesis
  called : Command → Part
  opening : Command → Part
  given : Command → Given → Part
  parted : Command → Given → Part
  ready : Command → Given → Part
  -- in Options: a setting may begin; behind its word; its equals sign; its value
  option : Part
  named : List ℕ → Setting → Part
  equated : List ℕ → Setting → Part
  valued : Part
  complete : Part

-- all tokens were taken, the end too
abbrev pub is_complete : Part → Bool
is_complete complete = true
is_complete _ = false

-- an open group: its kind, its name, and the members before it
pub record Frame : Type 0 where
  pub kind : GroupKind
  pub name : Name
  pub before : Trees

-- where top statements stand, the open groups from the innermost on, what was left so far, and the part of a statement
pub record State : Type 0 where
  pub base : Base
  pub frames : List Frame
  pub done : Done
  pub part : Part

-- a state of these
abbrev pub state : Base → List Frame → Done → Part → State
state base frames done part = record { base = base; frames = frames; done = done; part = part }

-- the kinds of open groups
abbrev pub path_of : List Frame → List GroupKind
path_of [] = []
path_of (frame ∷ frames) = frame.kind ∷ path_of frames

-- what comes of a token
abbrev pub Step : Type 0
Step = Result State Refusal

-- the token is refused for this cause
abbrev pub refuse : CqlCause → Step
refuse cause = Err (Here cause)

-- outside the parentheses a token that doesn't fit is bad syntax, and so is the end inside
abbrev pub outside : Kind → Step
outside unreadable = refuse causes.Token
outside _ = refuse causes.Syntax

-- inside them the end is bad syntax, and another token a bad argument
abbrev pub inside : Kind → Step
inside unreadable = refuse causes.Token
inside ended = refuse causes.Syntax
inside _ = refuse causes.Argument

-- a word in a cause is cut to its first 120 bytes
abbrev pub cut_word : List ℕ → List ℕ
cut_word letters = take (min (length letters) 120) letters

-- the next state, where nothing bars it
abbrev pub unless : Option CqlCause → State → Step
unless None state = Ok state
unless (Some cause) state = refuse cause

-- a statement of this command begins, if the word has one
abbrev pub begin : Option Command → List ℕ → Base → List Frame → Done → Step
begin None letters base frames done = refuse (causes.Command (cut_word letters))
begin (Some command) letters base frames done =
    unless (barred base (path_of frames) done command) (state base frames done (called command))

-- a word where a statement may begin
abbrev pub at_word : List ℕ → Base → List Frame → Done → Step
at_word letters base frames done =
    if is_over base (path_of frames) done then refuse causes.Syntax else begin (command_of letters) letters base frames done

-- a closing brace there: of the innermost group, or of a Plot
abbrev pub at_brace : Base → List Frame → Done → Step
at_brace base (frame ∷ frames) done = Ok (state base frames (with_group frame.before frame.kind frame.name done) closed)
at_brace bases.Plot [] done = Ok (state bases.Script [] done closed)
at_brace bases.Script [] done = refuse causes.Syntax
at_brace bases.Single [] done = refuse causes.Syntax

-- the end there
abbrev pub at_end : Base → List Frame → Done → Step
at_end base (frame ∷ frames) done = refuse causes.Syntax
at_end bases.Plot [] done = refuse causes.Syntax
at_end bases.Script [] done = Ok (state bases.Script [] done complete)
at_end bases.Single [] done =
    if is_none done.members then refuse causes.Syntax else Ok (state bases.Single [] done complete)

-- a token where a statement may begin
abbrev pub at_item : Kind → Base → List Frame → Done → Step
at_item (word letters) base frames done = at_word letters base frames done
at_item (mark BraceClose) base frames done = at_brace base frames done
at_item ended base frames done = at_end base frames done
at_item token base frames done = outside token

-- a token behind a closing brace
abbrev pub at_closed : Kind → Base → List Frame → Done → Step
at_closed (mark Semicolon) base frames done = Ok (state base frames done item)
at_closed token base frames done = at_item token base frames done

-- a token behind the word of a command
abbrev pub at_called : Command → Kind → Base → List Frame → Done → Step
at_called command (mark ParenOpen) base frames done = Ok (state base frames done (opening command))
at_called command token base frames done = outside token

-- one more argument, if it fits
abbrev pub given_if : Bool → Command → Given → Base → List Frame → Done → Step
given_if true command arguments base frames done = Ok (state base frames done (given command arguments))
given_if false command arguments base frames done = refuse causes.Argument

-- a closing parenthesis; the sole text of a Curve that names no file is told where it stands
abbrev pub ready_if : Bool → Command → Given → Base → List Frame → Done → Step
ready_if true command arguments base frames done = Ok (state base frames done (ready command arguments))
ready_if false Curve (one name) base frames done = Err Before
ready_if false command arguments base frames done = refuse causes.Argument

-- a comma, if one may come
abbrev pub parted_if : Bool → Command → Given → Base → List Frame → Done → Step
parted_if true command arguments base frames done = Ok (state base frames done (parted command arguments))
parted_if false command arguments base frames done = refuse causes.Argument

-- one more argument behind these
abbrev pub at_value : Command → Given → Kind → Base → List Frame → Done → Step
at_value command nothing (text name) base frames done =
    given_if (takes_text command name) command (one name) base frames done
at_value command nothing (number thousandths) base frames done =
    given_if (takes_value command thousandths) command (value None thousandths) base frames done
at_value command (one name) (text file) base frames done =
    given_if (takes_file command file) command (two name file) base frames done
at_value command (one name) (number thousandths) base frames done =
    given_if (takes_value command thousandths) command (value (Some name) thousandths) base frames done
at_value command (value name first) (number thousandths) base frames done =
    given_if (takes_error command thousandths) command (values name first thousandths) base frames done
at_value command arguments token base frames done = inside token

-- a token behind the opening parenthesis
abbrev pub at_opening : Command → Kind → Base → List Frame → Done → Step
at_opening command (mark ParenClose) base frames done =
    ready_if (is_whole command nothing) command nothing base frames done
at_opening command token base frames done = at_value command nothing token base frames done

-- a token behind an argument
abbrev pub at_given : Command → Given → Kind → Base → List Frame → Done → Step
at_given command arguments (mark ParenClose) base frames done =
    ready_if (is_whole command arguments) command arguments base frames done
at_given command arguments (mark Comma) base frames done =
    parted_if (may_part command arguments) command arguments base frames done
at_given command arguments token base frames done = inside token

-- a token behind the closing parenthesis
abbrev pub at_ready : Command → Given → Kind → Base → List Frame → Done → Step
at_ready (Group kind) arguments (mark BraceOpen) base frames done =
    let frame : Frame = record { kind = kind; name = name_in arguments; before = done.members } in
    Ok (state base (frame ∷ frames) (opened done) item)
at_ready Plot arguments (mark BraceOpen) base frames done = Ok (state bases.Plot frames done item)
at_ready Options arguments (mark BraceOpen) base frames done = Ok (state base frames done option)
at_ready Curve arguments (mark Semicolon) base frames done =
    Ok (state base frames (with_curve done (file_in arguments)) item)
at_ready Date arguments (mark Semicolon) base frames done =
    Ok (state base frames (with_event done (event_in Date arguments)) item)
at_ready Boundary arguments (mark Semicolon) base frames done =
    Ok (state base frames (with_event done (event_in Boundary arguments)) item)
at_ready CDate arguments (mark Semicolon) base frames done =
    Ok (state base frames (with_event done (event_in CDate arguments)) item)
at_ready RDate arguments (mark Semicolon) base frames done =
    Ok (state base frames (with_event done (event_in RDate arguments)) item)
at_ready command arguments token base frames done = outside token

-- an option, if the word has one
abbrev pub name_setting : Option Setting → List ℕ → Base → List Frame → Done → Step
name_setting None letters base frames done = refuse (causes.Option (cut_word letters))
name_setting (Some setting) letters base frames done =
    unless (barred_setting setting done) (state base frames done (named letters setting))

-- a token where an option may begin
abbrev pub at_option : Kind → Base → List Frame → Done → Step
at_option (word letters) base frames done = name_setting (setting_of letters) letters base frames done
at_option (mark BraceClose) base frames done = Ok (state base frames done closed)
at_option token base frames done = outside token

-- a token behind the word of an option
abbrev pub at_named : List ℕ → Setting → Kind → Base → List Frame → Done → Step
at_named letters setting (mark Equals) base frames done = Ok (state base frames done (equated letters setting))
at_named letters setting token base frames done = outside token

-- the value of an option, if it is accepted
abbrev pub valued_if : Bool → CqlCause → Base → List Frame → Done → Step
valued_if true cause base frames done = Ok (state base frames done valued)
valued_if false cause base frames done = refuse cause

-- a token behind the equals sign of an option
abbrev pub at_equated : List ℕ → Setting → Kind → Base → List Frame → Done → Step
at_equated letters settings.False (word bytes) base frames done =
    valued_if (bytes_eq bytes (codes "FALSE")) (causes.Option (cut_word letters)) base frames done
at_equated letters settings.False (number thousandths) base frames done = refuse (causes.Option (cut_word letters))
at_equated letters settings.False (text name) base frames done = refuse (causes.Option (cut_word letters))
at_equated letters settings.One (number thousandths) base frames done =
    valued_if (int_eq thousandths (pos 1000)) (causes.Option (cut_word letters)) base frames done
at_equated letters settings.One (word bytes) base frames done = refuse (causes.Option (cut_word letters))
at_equated letters settings.One (text name) base frames done = refuse (causes.Option (cut_word letters))
at_equated letters settings.Curve (text name) base frames done =
    valued_if (is_file name) causes.Argument base frames (with_curve done (with_ending name))
at_equated letters settings.Curve (word bytes) base frames done = refuse (causes.Option (cut_word letters))
at_equated letters settings.Curve (number thousandths) base frames done = refuse (causes.Option (cut_word letters))
at_equated letters settings.Ignored (word bytes) base frames done = Ok (state base frames done valued)
at_equated letters settings.Ignored (number thousandths) base frames done = Ok (state base frames done valued)
at_equated letters settings.Ignored (text name) base frames done = Ok (state base frames done valued)
at_equated letters setting token base frames done = outside token

-- a token behind the value of an option
abbrev pub at_valued : Kind → Base → List Frame → Done → Step
at_valued (mark Semicolon) base frames done = Ok (state base frames done option)
at_valued token base frames done = outside token

-- what comes of a token at this part of a statement
abbrev pub step_at : Part → Kind → Base → List Frame → Done → Step
step_at item token base frames done = at_item token base frames done
step_at closed token base frames done = at_closed token base frames done
step_at (called command) token base frames done = at_called command token base frames done
step_at (opening command) token base frames done = at_opening command token base frames done
step_at (given command arguments) token base frames done = at_given command arguments token base frames done
step_at (parted command arguments) token base frames done = at_value command arguments token base frames done
step_at (ready command arguments) token base frames done = at_ready command arguments token base frames done
step_at option token base frames done = at_option token base frames done
step_at (named letters setting) token base frames done = at_named letters setting token base frames done
step_at (equated letters setting) token base frames done = at_equated letters setting token base frames done
step_at valued token base frames done = at_valued token base frames done
step_at complete token base frames done = refuse causes.Syntax

-- the state behind a token, or its refusal
abbrev pub step : State → Kind → Step
step state token = step_at state.part token state.base state.frames state.done

-- reading may begin there: a script, or a statement that stands alone
abbrev pub is_start : Base → Bool
is_start bases.Plot = false
is_start _ = true

-- where reading begins
abbrev pub begun : Base → State
begun base = state base [] start item

-- the tokens from the first that can't be taken on
pub record Stop : Type 0 where
  pub rest : List Kind
  pub refusal : Refusal

-- what comes behind a token
abbrev pub after : Step → Kind → List Kind → (State → Result State Stop) → Result State Stop
after (Ok state) token tokens next = next state
after (Err refusal) token tokens next = Err (record { rest = token ∷ tokens; refusal = refusal })

-- what comes of tokens: the state behind them all, or the first that is refused
abbrev pub run : List Kind → State → Result State Stop
run [] state = Ok state
run (token ∷ tokens) state = after (step state token) token tokens (λ behind. run tokens behind)
