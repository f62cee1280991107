-- No statement fails for want of memory.
use Rattle.std.proofs.Common.{◌≡◌, ℕ, Bool, true, false, List, [], ◌∷◌, Option, Some, None, Ok, Err, subst, sym, codes, bytes_eq, nat_le, length}
use Rattle.std.specs.Prelude.{cond, is_some, pos}
use Rattle.std.specs.Ordering.{int_eq}
use Rattle.cg_token.specs.Kind.{Kind, word, text, number, mark, ended, unreadable}
use Rattle.cg_token.specs.declared.token.Mark.TheVariants.{ParenOpen, ParenClose, BraceOpen, BraceClose, Comma, Semicolon, Equals}
use Rattle.cg_model.specs.declared.group.GroupKind.{GroupKind}
use Rattle.cg_grammar.specs.declared.command.Command.{Command}
use Rattle.cg_grammar.specs.declared.command.Command.TheVariants.{Date, Boundary, CDate, RDate, Group, Plot, Options, Curve}
use Rattle.cg_grammar.specs.declared.command.Setting.{Setting}
use Rattle.cg_grammar.specs.declared.command.Setting.TheVariants as settings
use Rattle.cg_grammar.specs.declared.command.Base.{Base}
use Rattle.cg_grammar.specs.declared.command.Base.TheVariants as bases
use Rattle.cg_grammar.specs.declared.fault.CqlCause.{CqlCause}
use Rattle.cg_grammar.specs.declared.fault.CqlCause.TheVariants as causes
use Rattle.cg_grammar.specs.declared.fault.CqlFault.{CqlFault}
use Rattle.cg_grammar.specs.declared.fault.Refusal.{Refusal}
use Rattle.cg_grammar.specs.declared.fault.Refusal.TheVariants.{Here, Before}
use Rattle.cg_grammar.specs.Words.{command_of, setting_of}
use Rattle.cg_grammar.specs.Arguments.{Given, nothing, one, value, takes_text, takes_file, takes_value, takes_error, may_part, is_whole, is_file}
use Rattle.cg_grammar.specs.Done.{Done, is_none, is_over, limit_of, event_limit, group_limit, holds_boundary, is_script, is_top, placed_if, barred_at, barred, barred_setting, parent}
use Rattle.cg_grammar.specs.Steps.{State, state, Step, Part, item, closed, called, opening, given, parted, ready, option, named, equated, valued, complete, Frame, path_of, outside, inside, unless, begin, at_word, at_brace, at_end, at_item, at_closed, at_called, given_if, ready_if, parted_if, at_value, at_opening, at_given, at_ready, name_setting, at_option, at_named, valued_if, at_equated, at_valued, step_at}
use Rattle.cg_grammar.specs.Text.{told, Fails, line_of_last}

-- it isn't want of memory
abbrev IsPlain : CqlCause → Type 0
IsPlain causes.NoMemory = ⊥
IsPlain _ = Unit {0}

abbrev IsPlainIf : Option CqlCause → Type 0
IsPlainIf None = Unit {0}
IsPlainIf (Some cause) = IsPlain cause

abbrev IsPlainStep : Step → Type 0
IsPlainStep (Ok state) = Unit {0}
IsPlainStep (Err (Here cause)) = IsPlain cause
IsPlainStep (Err Before) = Unit {0}

outside_plain : (token : Kind) → IsPlainStep (outside token)
outside_plain unreadable = tt
outside_plain _ = tt

inside_plain : (token : Kind) → IsPlainStep (inside token)
inside_plain unreadable = tt
inside_plain ended = tt
inside_plain _ = tt

choice_plain : (b : Bool) (x y : Step) → IsPlainStep x → IsPlainStep y → IsPlainStep (cond b x y)
choice_plain true x y p q = p
choice_plain false x y p q = q

-- ---- why a command may not begin

limit_plain : (b : Bool) (cause : CqlCause) (other : Option CqlCause) → IsPlain cause → IsPlainIf other → IsPlainIf (limit_of b cause other)
limit_plain true cause other p q = p
limit_plain false cause other p q = q

event_plain : (depth events : ℕ) → IsPlainIf (event_limit depth events)
event_plain depth events = limit_plain (nat_le 100 events) _ _ tt (limit_plain (nat_le 16 depth) _ None tt tt)

group_plain : (depth groups : ℕ) → IsPlainIf (group_limit depth groups)
group_plain depth groups = limit_plain (nat_le 60 groups) _ _ tt (limit_plain (nat_le 16 depth) _ None tt tt)

placed_plain : (b : Bool) (limit : Option CqlCause) → IsPlainIf limit → IsPlainIf (placed_if b limit)
placed_plain true limit p = p
placed_plain false limit p = tt

barred_plain : (base : Base) (above : Option GroupKind) (depth events groups : ℕ) (known : Bool) (command : Command) → IsPlainIf (barred_at base above depth events groups known command)
barred_plain base above depth events groups known Boundary = placed_plain (holds_boundary base above) _ (event_plain depth events)
barred_plain base above depth events groups known (Group kind) = group_plain depth groups
barred_plain base above depth events groups known Plot = placed_plain (is_script base above) None tt
barred_plain base above depth events groups known Options = placed_plain (is_top base above) None tt
barred_plain base above depth events groups known Curve = placed_plain (is_top base above) _ (limit_plain known _ None tt tt)
barred_plain base above depth events groups known command = event_plain depth events

setting_plain : (setting : Setting) (done : Done) → IsPlainIf (barred_setting setting done)
setting_plain settings.Curve done = limit_plain (is_some done.curve) _ None tt tt
setting_plain _ done = tt

unless_plain : (barred : Option CqlCause) (next : State) → IsPlainIf barred → IsPlainStep (unless barred next)
unless_plain None next p = tt
unless_plain (Some cause) next p = p

-- ---- each part of a statement

begin_plain : (command : Option Command) (letters : List ℕ) (base : Base) (frames : List Frame) (done : Done) → IsPlainStep (begin command letters base frames done)
begin_plain None letters base frames done = tt
begin_plain (Some command) letters base frames done =
    unless_plain (barred base (path_of frames) done command) _
    (barred_plain base (parent (path_of frames)) (length (path_of frames)) done.events done.groups (is_some done.curve) command)

word_plain : (letters : List ℕ) (base : Base) (frames : List Frame) (done : Done) → IsPlainStep (at_word letters base frames done)
word_plain letters base frames done =
    choice_plain (is_over base (path_of frames) done) _ _ tt (begin_plain (command_of letters) letters base frames done)

brace_plain : (base : Base) (frames : List Frame) (done : Done) → IsPlainStep (at_brace base frames done)
brace_plain base (frame ∷ frames) done = tt
brace_plain bases.Plot [] done = tt
brace_plain bases.Script [] done = tt
brace_plain bases.Single [] done = tt

end_plain : (base : Base) (frames : List Frame) (done : Done) → IsPlainStep (at_end base frames done)
end_plain base (frame ∷ frames) done = tt
end_plain bases.Plot [] done = tt
end_plain bases.Script [] done = tt
end_plain bases.Single [] done = choice_plain (is_none done.members) _ _ tt tt

item_plain : (token : Kind) (base : Base) (frames : List Frame) (done : Done) → IsPlainStep (at_item token base frames done)
item_plain (word letters) base frames done = word_plain letters base frames done
item_plain (mark BraceClose) base frames done = brace_plain base frames done
item_plain ended base frames done = end_plain base frames done
item_plain token base frames done = outside_plain token

closed_plain : (token : Kind) (base : Base) (frames : List Frame) (done : Done) → IsPlainStep (at_closed token base frames done)
closed_plain (mark Semicolon) base frames done = tt
closed_plain token base frames done = item_plain token base frames done

called_plain : (command : Command) (token : Kind) (base : Base) (frames : List Frame) (done : Done) → IsPlainStep (at_called command token base frames done)
called_plain command (mark ParenOpen) base frames done = tt
called_plain command token base frames done = outside_plain token

given_plain : (b : Bool) (command : Command) (arguments : Given) (base : Base) (frames : List Frame) (done : Done) → IsPlainStep (given_if b command arguments base frames done)
given_plain true command arguments base frames done = tt
given_plain false command arguments base frames done = tt

ready_plain : (b : Bool) (command : Command) (arguments : Given) (base : Base) (frames : List Frame) (done : Done) → IsPlainStep (ready_if b command arguments base frames done)
ready_plain true command arguments base frames done = tt
ready_plain false Curve (one name) base frames done = tt
ready_plain false command arguments base frames done = tt

parted_plain : (b : Bool) (command : Command) (arguments : Given) (base : Base) (frames : List Frame) (done : Done) → IsPlainStep (parted_if b command arguments base frames done)
parted_plain true command arguments base frames done = tt
parted_plain false command arguments base frames done = tt

value_plain : (command : Command) (arguments : Given) (token : Kind) (base : Base) (frames : List Frame) (done : Done) → IsPlainStep (at_value command arguments token base frames done)
value_plain command nothing (text name) base frames done = given_plain (takes_text command name) command _ base frames done
value_plain command nothing (number thousandths) base frames done = given_plain (takes_value command thousandths) command _ base frames done
value_plain command (one name) (text file) base frames done = given_plain (takes_file command file) command _ base frames done
value_plain command (one name) (number thousandths) base frames done = given_plain (takes_value command thousandths) command _ base frames done
value_plain command (value name first) (number thousandths) base frames done = given_plain (takes_error command thousandths) command _ base frames done
value_plain command arguments token base frames done = inside_plain token

opening_plain : (command : Command) (token : Kind) (base : Base) (frames : List Frame) (done : Done) → IsPlainStep (at_opening command token base frames done)
opening_plain command (mark ParenClose) base frames done = ready_plain (is_whole command nothing) command nothing base frames done
opening_plain command token base frames done = value_plain command nothing token base frames done

behind_plain : (command : Command) (arguments : Given) (token : Kind) (base : Base) (frames : List Frame) (done : Done) → IsPlainStep (at_given command arguments token base frames done)
behind_plain command arguments (mark ParenClose) base frames done = ready_plain (is_whole command arguments) command arguments base frames done
behind_plain command arguments (mark Comma) base frames done = parted_plain (may_part command arguments) command arguments base frames done
behind_plain command arguments token base frames done = inside_plain token

end_of_call_plain : (command : Command) (arguments : Given) (token : Kind) (base : Base) (frames : List Frame) (done : Done) → IsPlainStep (at_ready command arguments token base frames done)
end_of_call_plain (Group kind) arguments (mark BraceOpen) base frames done = tt
end_of_call_plain Plot arguments (mark BraceOpen) base frames done = tt
end_of_call_plain Options arguments (mark BraceOpen) base frames done = tt
end_of_call_plain Curve arguments (mark Semicolon) base frames done = tt
end_of_call_plain Date arguments (mark Semicolon) base frames done = tt
end_of_call_plain Boundary arguments (mark Semicolon) base frames done = tt
end_of_call_plain CDate arguments (mark Semicolon) base frames done = tt
end_of_call_plain RDate arguments (mark Semicolon) base frames done = tt
end_of_call_plain command arguments token base frames done = outside_plain token

option_begin_plain : (setting : Option Setting) (letters : List ℕ) (base : Base) (frames : List Frame) (done : Done) → IsPlainStep (name_setting setting letters base frames done)
option_begin_plain None letters base frames done = tt
option_begin_plain (Some setting) letters base frames done = unless_plain (barred_setting setting done) _ (setting_plain setting done)

option_plain : (token : Kind) (base : Base) (frames : List Frame) (done : Done) → IsPlainStep (at_option token base frames done)
option_plain (word letters) base frames done = option_begin_plain (setting_of letters) letters base frames done
option_plain (mark BraceClose) base frames done = tt
option_plain token base frames done = outside_plain token

named_plain : (letters : List ℕ) (setting : Setting) (token : Kind) (base : Base) (frames : List Frame) (done : Done) → IsPlainStep (at_named letters setting token base frames done)
named_plain letters setting (mark Equals) base frames done = tt
named_plain letters setting token base frames done = outside_plain token

valued_if_plain : (b : Bool) (cause : CqlCause) (base : Base) (frames : List Frame) (done : Done) → IsPlain cause → IsPlainStep (valued_if b cause base frames done)
valued_if_plain true cause base frames done p = tt
valued_if_plain false cause base frames done p = p

equated_plain : (letters : List ℕ) (setting : Setting) (token : Kind) (base : Base) (frames : List Frame) (done : Done) → IsPlainStep (at_equated letters setting token base frames done)
equated_plain letters settings.False (word bytes) base frames done = valued_if_plain (bytes_eq bytes (codes "FALSE")) _ base frames done tt
equated_plain letters settings.False (number thousandths) base frames done = tt
equated_plain letters settings.False (text name) base frames done = tt
equated_plain letters settings.One (number thousandths) base frames done = valued_if_plain (int_eq thousandths (pos 1000)) _ base frames done tt
equated_plain letters settings.One (word bytes) base frames done = tt
equated_plain letters settings.One (text name) base frames done = tt
equated_plain letters settings.Curve (text name) base frames done = valued_if_plain (is_file name) _ base frames _ tt
equated_plain letters settings.Curve (word bytes) base frames done = tt
equated_plain letters settings.Curve (number thousandths) base frames done = tt
equated_plain letters settings.Ignored (word bytes) base frames done = tt
equated_plain letters settings.Ignored (number thousandths) base frames done = tt
equated_plain letters settings.Ignored (text name) base frames done = tt
equated_plain letters setting token base frames done = outside_plain token

valued_plain : (token : Kind) (base : Base) (frames : List Frame) (done : Done) → IsPlainStep (at_valued token base frames done)
valued_plain (mark Semicolon) base frames done = tt
valued_plain token base frames done = outside_plain token

part_plain : (part : Part) (token : Kind) (base : Base) (frames : List Frame) (done : Done) → IsPlainStep (step_at part token base frames done)
part_plain item token base frames done = item_plain token base frames done
part_plain closed token base frames done = closed_plain token base frames done
part_plain (called command) token base frames done = called_plain command token base frames done
part_plain (opening command) token base frames done = opening_plain command token base frames done
part_plain (given command arguments) token base frames done = behind_plain command arguments token base frames done
part_plain (parted command arguments) token base frames done = value_plain command arguments token base frames done
part_plain (ready command arguments) token base frames done = end_of_call_plain command arguments token base frames done
part_plain option token base frames done = option_plain token base frames done
part_plain (named letters setting) token base frames done = named_plain letters setting token base frames done
part_plain (equated letters setting) token base frames done = equated_plain letters setting token base frames done
part_plain valued token base frames done = valued_plain token base frames done
part_plain complete token base frames done = tt

-- ---- a fault

none_for_memory : (cause : CqlCause) → IsPlain cause → cause ≡ causes.NoMemory → ⊥
none_for_memory causes.NoMemory plain e = plain
none_for_memory _ plain e = absurd cc

told_plain : (refusal : Refusal) (before line : ℕ) → IsPlainStep (Err refusal) → IsPlain (told refusal before line).cause
told_plain (Here cause) before line plain = plain
told_plain Before before line plain = tt

-- the cause of a fault of a statement isn't want of memory
pub no_want : (base : Base) (bytes : List ℕ) (fault : CqlFault) → Fails base bytes fault → fault.cause ≡ causes.NoMemory → ⊥
no_want base bytes fault fails e =
    let refused : IsPlainStep (Err fails.refusal) =
    subst IsPlainStep fails.refused (part_plain fails.reached.part fails.at.kind fails.reached.base fails.reached.frames fails.reached.done) in
    let cause = told_plain fails.refusal (line_of_last 1 fails.front) fails.at.line refused in
    none_for_memory fault.cause (subst (λ (f : CqlFault). IsPlain f.cause) (sym fails.place) cause) e
