-- The first token that can't be taken, and the last that can.
use Rattle.std.proofs.Common.{◌≡◌, ℕ, Bool, true, false, cond, List, [], ◌∷◌, Option, Some, None, Ok, Err, refl, sym, subst, bytes_eq, codes, pos}
use Rattle.std.specs.Ordering.{int_eq}
use Rattle.cg_token.specs.Kind.{Kind, word, text, number, mark, ended, unreadable, is_last}
use Rattle.cg_token.specs.declared.token.Mark.TheVariants.{ParenOpen, ParenClose, BraceOpen, BraceClose, Comma, Semicolon, Equals}
use Rattle.cg_grammar.specs.declared.command.Command.{Command}
use Rattle.cg_grammar.specs.declared.command.Command.TheVariants.{Date, Boundary, CDate, RDate, Group, Plot, Options, Curve}
use Rattle.cg_grammar.specs.declared.command.Setting.{Setting}
use Rattle.cg_grammar.specs.declared.command.Setting.TheVariants as settings
use Rattle.cg_grammar.specs.declared.command.Base.{Base}
use Rattle.cg_grammar.specs.declared.command.Base.TheVariants as bases
use Rattle.cg_grammar.specs.declared.fault.CqlCause.{CqlCause}
use Rattle.cg_grammar.specs.declared.fault.CqlCause.TheVariants as causes
use Rattle.cg_grammar.specs.Words.{command_of, setting_of}
use Rattle.cg_grammar.specs.Arguments.{Given, nothing, one, two, value, values, takes_text, takes_file, takes_value, takes_error, may_part, is_whole, is_file, with_ending}
use Rattle.cg_grammar.specs.Done.{Done, with_curve, is_none, is_over, barred, barred_setting}
use Rattle.cg_grammar.proofs.StandsLemmas.{Stands, StandsAt}
use Rattle.cg_grammar.specs.Steps.{Part, item, closed, called, opening, given, parted, ready, option, named, equated, valued, complete, is_complete, Frame, State, state, path_of, Step, refuse, inside, cut_word, unless, begin, at_brace, at_end, at_item, at_closed, at_called, at_opening, at_given, at_value, at_ready, at_option, at_named, at_equated, at_valued, given_if, ready_if, parted_if, name_setting, valued_if, step, step_at}

-- a statement that stands alone is read
abbrev pub is_single : Base → Bool
is_single bases.Single = true
is_single _ = false

-- reading is complete behind the last token alone
abbrev Ends : Step → Kind → Base → Type 0
Ends (Ok s) t b = (is_complete s.part ≡ is_last t) × (is_single s.base ≡ is_single b)
Ends (Err r) t b = Unit {0}

-- what may be barred
unless_ends : (r : Option CqlCause) (s : State) (t : Kind) → is_complete s.part ≡ is_last t → Ends (unless r s) t s.base
unless_ends None s t h = (h, refl)
unless_ends (Some c) s t h = tt

-- a word
begin_ends : (m : Option Command) (w : List ℕ) (b : Base) (fs : List Frame) (d : Done) → Ends (begin m w b fs d) (word w) b
begin_ends None w b fs d = tt
begin_ends (Some c) w b fs d = unless_ends (barred b (path_of fs) d c) (state b fs d (called c)) (word w) refl

-- a word where the one statement may be over
over_ends : (q : Bool) (w : List ℕ) (b : Base) (fs : List Frame) (d : Done) → Ends (cond q (refuse causes.Syntax) (begin (command_of w) w b fs d)) (word w) b
over_ends true w b fs d = tt
over_ends false w b fs d = begin_ends (command_of w) w b fs d

-- a closing brace
brace_ends : (b : Base) (fs : List Frame) (d : Done) → Ends (at_brace b fs d) (mark BraceClose) b
brace_ends b (f ∷ fs) d = (refl, refl)
brace_ends bases.Plot [] d = (refl, refl)
brace_ends bases.Script [] d = tt
brace_ends bases.Single [] d = tt

-- the end behind a statement that stands alone
single_ends : (q : Bool) (d : Done) → Ends (cond q (refuse causes.Syntax) (Ok (state bases.Single [] d complete))) ended bases.Single
single_ends true d = tt
single_ends false d = (refl, refl)

-- the end
end_ends : (b : Base) (fs : List Frame) (d : Done) → Ends (at_end b fs d) ended b
end_ends b (f ∷ fs) d = tt
end_ends bases.Plot [] d = tt
end_ends bases.Script [] d = (refl, refl)
end_ends bases.Single [] d = single_ends (is_none d.members) d

-- where a statement may begin
item_ends : (t : Kind) (b : Base) (fs : List Frame) (d : Done) → Ends (at_item t b fs d) t b
item_ends (word w) b fs d = over_ends (is_over b (path_of fs) d) w b fs d
item_ends (mark BraceClose) b fs d = brace_ends b fs d
item_ends ended b fs d = end_ends b fs d
item_ends t b fs d = tt

-- behind a closing brace
closed_ends : (t : Kind) (b : Base) (fs : List Frame) (d : Done) → Ends (at_closed t b fs d) t b
closed_ends (mark Semicolon) b fs d = (refl, refl)
closed_ends t b fs d = item_ends t b fs d

-- behind the word of a command
called_ends : (c : Command) (t : Kind) (b : Base) (fs : List Frame) (d : Done) → Ends (at_called c t b fs d) t b
called_ends c (mark ParenOpen) b fs d = (refl, refl)
called_ends c t b fs d = tt

-- one more argument
given_ends : (q : Bool) (c : Command) (g : Given) (t : Kind) (b : Base) (fs : List Frame) (d : Done) → is_last t ≡ false → Ends (given_if q c g b fs d) t b
given_ends true c g t b fs d h = (sym h, refl)
given_ends false c g t b fs d h = tt

-- a comma
parted_ends : (q : Bool) (c : Command) (g : Given) (b : Base) (fs : List Frame) (d : Done) → Ends (parted_if q c g b fs d) (mark Comma) b
parted_ends true c g b fs d = (refl, refl)
parted_ends false c g b fs d = tt

-- arguments that are not whole
unready_ends : (c : Command) (g : Given) (b : Base) (fs : List Frame) (d : Done) → Ends (ready_if false c g b fs d) (mark ParenClose) b
unready_ends Curve (one n) b fs d = tt
unready_ends c g b fs d = tt

-- the closing parenthesis
ready_ends : (q : Bool) (c : Command) (g : Given) (b : Base) (fs : List Frame) (d : Done) → Ends (ready_if q c g b fs d) (mark ParenClose) b
ready_ends true c g b fs d = (refl, refl)
ready_ends false c g b fs d = unready_ends c g b fs d

-- a token that does not fit inside the parentheses
inside_ends : (t : Kind) (b : Base) → Ends (inside t) t b
inside_ends unreadable b = tt
inside_ends ended b = tt
inside_ends t b = tt

-- where an argument may come
value_ends : (c : Command) (g : Given) (t : Kind) (b : Base) (fs : List Frame) (d : Done) → Ends (at_value c g t b fs d) t b
value_ends c nothing (text n) b fs d = given_ends (takes_text c n) c (one n) (text n) b fs d refl
value_ends c nothing (number z) b fs d = given_ends (takes_value c z) c (value None z) (number z) b fs d refl
value_ends c (one n) (text m) b fs d = given_ends (takes_file c m) c (two n m) (text m) b fs d refl
value_ends c (one n) (number z) b fs d = given_ends (takes_value c z) c (value (Some n) z) (number z) b fs d refl
value_ends c (value n a) (number z) b fs d = given_ends (takes_error c z) c (values n a z) (number z) b fs d refl
value_ends c (two n m) t b fs d = inside_ends t b
value_ends c (values n a z) t b fs d = inside_ends t b
value_ends c g t b fs d = tt

-- behind the opening parenthesis
opening_ends : (c : Command) (t : Kind) (b : Base) (fs : List Frame) (d : Done) → Ends (at_opening c t b fs d) t b
opening_ends c (mark ParenClose) b fs d = ready_ends (is_whole c nothing) c nothing b fs d
opening_ends c t b fs d = value_ends c nothing t b fs d

-- behind an argument
at_given_ends : (c : Command) (g : Given) (t : Kind) (b : Base) (fs : List Frame) (d : Done) → Ends (at_given c g t b fs d) t b
at_given_ends c g (mark ParenClose) b fs d = ready_ends (is_whole c g) c g b fs d
at_given_ends c g (mark Comma) b fs d = parted_ends (may_part c g) c g b fs d
at_given_ends c g t b fs d = tt

-- a Plot stands in a script
plot_base : (b : Base) (fs : List Frame) (d : Done) → barred b (path_of fs) d Plot ≡ None → is_single bases.Plot ≡ is_single b
plot_base bases.Script fs d h = refl
plot_base bases.Plot fs d h = refl
plot_base bases.Single [] d h = absurd cc
plot_base bases.Single (f ∷ fs) d h = absurd cc

-- behind the closing parenthesis
at_ready_ends : (c : Command) (g : Given) (t : Kind) (b : Base) (fs : List Frame) (d : Done) → barred b (path_of fs) d c ≡ None → Ends (at_ready c g t b fs d) t b
at_ready_ends (Group k) g (mark BraceOpen) b fs d h = (refl, refl)
at_ready_ends Plot g (mark BraceOpen) b fs d h = (refl, plot_base b fs d h)
at_ready_ends Options g (mark BraceOpen) b fs d h = (refl, refl)
at_ready_ends Curve g (mark Semicolon) b fs d h = (refl, refl)
at_ready_ends Date g (mark Semicolon) b fs d h = (refl, refl)
at_ready_ends Boundary g (mark Semicolon) b fs d h = (refl, refl)
at_ready_ends CDate g (mark Semicolon) b fs d h = (refl, refl)
at_ready_ends RDate g (mark Semicolon) b fs d h = (refl, refl)
at_ready_ends c g t b fs d h = tt

-- the word of an option
name_ends : (m : Option Setting) (w : List ℕ) (b : Base) (fs : List Frame) (d : Done) → Ends (name_setting m w b fs d) (word w) b
name_ends None w b fs d = tt
name_ends (Some s) w b fs d = unless_ends (barred_setting s d) (state b fs d (named w s)) (word w) refl

-- where an option may begin
option_ends : (t : Kind) (b : Base) (fs : List Frame) (d : Done) → Ends (at_option t b fs d) t b
option_ends (word w) b fs d = name_ends (setting_of w) w b fs d
option_ends (mark BraceClose) b fs d = (refl, refl)
option_ends t b fs d = tt

-- behind the word of an option
named_ends : (w : List ℕ) (s : Setting) (t : Kind) (b : Base) (fs : List Frame) (d : Done) → Ends (at_named w s t b fs d) t b
named_ends w s (mark Equals) b fs d = (refl, refl)
named_ends w s t b fs d = tt

-- a value that may be refused
valued_if_ends : (q : Bool) (cause : CqlCause) (t : Kind) (b : Base) (fs : List Frame) (d : Done) → is_last t ≡ false → Ends (valued_if q cause b fs d) t b
valued_if_ends true cause t b fs d h = (sym h, refl)
valued_if_ends false cause t b fs d h = tt

-- behind the equals sign of an option
equated_ends : (w : List ℕ) (s : Setting) (t : Kind) (b : Base) (fs : List Frame) (d : Done) → Ends (at_equated w s t b fs d) t b
equated_ends w settings.False (word v) b fs d = valued_if_ends (bytes_eq v (codes "FALSE")) (causes.Option (cut_word w)) (word v) b fs d refl
equated_ends w settings.One (number z) b fs d = valued_if_ends (int_eq z (pos 1000)) (causes.Option (cut_word w)) (number z) b fs d refl
equated_ends w settings.Curve (text n) b fs d = valued_if_ends (is_file n) causes.Argument (text n) b fs (with_curve d (with_ending n)) refl
equated_ends w settings.Ignored (word v) b fs d = (refl, refl)
equated_ends w settings.Ignored (number z) b fs d = (refl, refl)
equated_ends w settings.Ignored (text n) b fs d = (refl, refl)
equated_ends w s t b fs d = tt

-- behind the value of an option
valued_ends : (t : Kind) (b : Base) (fs : List Frame) (d : Done) → Ends (at_valued t b fs d) t b
valued_ends (mark Semicolon) b fs d = (refl, refl)
valued_ends t b fs d = tt

-- the command may stand there
abbrev IsFree : Part → Base → List Frame → Done → Type 0
IsFree (ready c g) b fs d = barred b (path_of fs) d c ≡ None
IsFree _ b fs d = Unit {0}

-- each part of a statement
step_ends : (part : Part) (t : Kind) (b : Base) (fs : List Frame) (d : Done) → IsFree part b fs d → Ends (step_at part t b fs d) t b
step_ends item t b fs d h = item_ends t b fs d
step_ends closed t b fs d h = closed_ends t b fs d
step_ends (called c) t b fs d h = called_ends c t b fs d
step_ends (opening c) t b fs d h = opening_ends c t b fs d
step_ends (given c g) t b fs d h = at_given_ends c g t b fs d
step_ends (parted c g) t b fs d h = value_ends c g t b fs d
step_ends (ready c g) t b fs d h = at_ready_ends c g t b fs d h
step_ends option t b fs d h = option_ends t b fs d
step_ends (named w s) t b fs d h = named_ends w s t b fs d
step_ends (equated w s) t b fs d h = equated_ends w s t b fs d
step_ends valued t b fs d h = valued_ends t b fs d
step_ends complete t b fs d h = tt

-- what tokens lead to may stand there
free : (part : Part) (b : Base) (fs : List Frame) (d : Done) (ts : List Kind) → StandsAt part b fs d ts → IsFree part b fs d
free (ready c g) b fs d ts h = h.1.free
free item b fs d ts h = tt
free closed b fs d ts h = tt
free (called c) b fs d ts h = tt
free (opening c) b fs d ts h = tt
free (given c g) b fs d ts h = tt
free (parted c g) b fs d ts h = tt
free option b fs d ts h = tt
free (named w s) b fs d ts h = tt
free (equated w s) b fs d ts h = tt
free valued b fs d ts h = tt
free complete b fs d ts h = tt

-- a step that is made is complete just behind the last token, and keeps to a script or to a statement
pub completes : (s s' : State) (t : Kind) (ts : List Kind) → Stands s ts → step s t ≡ Ok s' → (is_complete s'.part ≡ is_last t) × (is_single s'.base ≡ is_single s.base)
completes s s' t ts l h = let P : Step → Type 0 = λ r. Ends r t s.base in subst P h (step_ends s.part t s.base s.frames s.done (free s.part s.base s.frames s.done ts l))
