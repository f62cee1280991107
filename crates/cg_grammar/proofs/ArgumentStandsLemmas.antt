-- Between parentheses: each token that is taken there belongs to what is spelled.
use Rattle.std.proofs.Common.{◌≡◌, Bool, true, false, List, [], ◌∷◌, ◌++◌, Some, None, refl}
use Rattle.cg_token.specs.Kind.{Kind, word, text, number, mark, ended, unreadable}
use Rattle.cg_token.specs.declared.token.Mark.TheVariants.{ParenOpen, ParenClose, Comma}
use Rattle.cg_grammar.specs.declared.command.Command.{Command}
use Rattle.cg_grammar.specs.declared.command.Command.TheVariants.{Curve}
use Rattle.cg_grammar.specs.declared.command.Base.{Base}
use Rattle.cg_grammar.specs.Words.{word_of}
use Rattle.cg_grammar.specs.Arguments.{Given, nothing, one, two, value, values, tokens_of, takes_text, takes_file, takes_value, takes_error, may_part, is_whole, fits}
use Rattle.cg_grammar.specs.Done.{Done}
use Rattle.cg_grammar.specs.Steps.{Frame, inside, outside, at_called, at_opening, at_given, given_if, ready_if, parted_if, at_value}
use Rattle.cg_grammar.proofs.StandsLemmas.{Calls, has_any, Lands, more-calls}

-- the opening parenthesis
pub called-lands : (c : Command) (t : Kind) (b : Base) (fs : List Frame) (d : Done) (ts : List Kind) → Calls b fs d c (word (word_of c) ∷ []) ts → Lands (at_called c t b fs d) (ts ++ t ∷ [])
called-lands c (mark ParenOpen) b fs d ts h = more-calls b fs d c (word (word_of c) ∷ []) ts (mark ParenOpen ∷ []) h
called-lands c t b fs d ts h = tt

-- arguments that are not whole
unready : (c : Command) (g : Given) (b : Base) (fs : List Frame) (d : Done) (ts : List Kind) → Lands (ready_if false c g b fs d) ts
unready Curve (one n) b fs d ts = tt
unready c g b fs d ts = tt

-- the closing parenthesis
ready_lands : (q : Bool) (c : Command) (g : Given) (b : Base) (fs : List Frame) (d : Done) (ts : List Kind) → is_whole c g ≡ q → fits c g ≡ true
    → Calls b fs d c (word (word_of c) ∷ mark ParenOpen ∷ tokens_of g) ts → Lands (ready_if q c g b fs d) (ts ++ mark ParenClose ∷ [])
ready_lands true c g b fs d ts is fit h = (rw (fit, is) refl, more-calls b fs d c (word (word_of c) ∷ mark ParenOpen ∷ tokens_of g) ts (mark ParenClose ∷ []) h)
ready_lands false c g b fs d ts is fit h = unready c g b fs d (ts ++ mark ParenClose ∷ [])

-- a comma
parted_lands : (q : Bool) (c : Command) (g : Given) (b : Base) (fs : List Frame) (d : Done) (ts : List Kind) → may_part c g ≡ q → fits c g ≡ true
    → Calls b fs d c (word (word_of c) ∷ mark ParenOpen ∷ tokens_of g) ts → Lands (parted_if q c g b fs d) (ts ++ mark Comma ∷ [])
parted_lands true c g b fs d ts is fit h = (fit, is, more-calls b fs d c (word (word_of c) ∷ mark ParenOpen ∷ tokens_of g) ts (mark Comma ∷ []) h)
parted_lands false c g b fs d ts is fit h = tt

-- one more argument
given_lands : (q : Bool) (c : Command) (g : Given) (b : Base) (fs : List Frame) (d : Done) (ts : List Kind) → has_any g ≡ true → fits c g ≡ q
    → Calls b fs d c (word (word_of c) ∷ mark ParenOpen ∷ tokens_of g) ts → Lands (given_if q c g b fs d) ts
given_lands true c g b fs d ts any fit h = (fit, any, h)
given_lands false c g b fs d ts any fit h = tt

-- a token that does not fit inside the parentheses
inside_lands : (t : Kind) (ts : List Kind) → Lands (inside t) ts
inside_lands unreadable ts = tt
inside_lands ended ts = tt
inside_lands t ts = tt

-- a token that does not fit outside them
outside_lands : (t : Kind) (ts : List Kind) → Lands (outside t) ts
outside_lands unreadable ts = tt
outside_lands t ts = tt

-- what stands before the next argument
abbrev lead : Given → List Kind
lead nothing = []
lead g = tokens_of g ++ mark Comma ∷ []

-- what is known before the next argument
abbrev Leads : Command → Given → Type 0
Leads c nothing = Unit {0}
Leads c g = (fits c g ≡ true) × (may_part c g ≡ true)

-- a token where an argument may come
value_lands : (c : Command) (g : Given) (t : Kind) (b : Base) (fs : List Frame) (d : Done) (ts : List Kind) → Leads c g → Calls b fs d c (word (word_of c) ∷ mark ParenOpen ∷ lead g) ts
    → Lands (at_value c g t b fs d) (ts ++ t ∷ [])
value_lands c nothing (text n) b fs d ts l h =
    given_lands (takes_text c n) c (one n) b fs d (ts ++ text n ∷ []) refl refl (more-calls b fs d c (word (word_of c) ∷ mark ParenOpen ∷ []) ts (text n ∷ []) h)
value_lands c nothing (number z) b fs d ts l h =
    given_lands (takes_value c z) c (value None z) b fs d (ts ++ number z ∷ []) refl refl (more-calls b fs d c (word (word_of c) ∷ mark ParenOpen ∷ []) ts (number z ∷ []) h)
value_lands c (one n) (text m) b fs d ts l h =
    given_lands (takes_file c m) c (two n m) b fs d (ts ++ text m ∷ []) refl (rw (l.0, l.1) refl) (more-calls b fs d c (word (word_of c) ∷ mark ParenOpen ∷ text n ∷ mark Comma ∷ []) ts (text m ∷ []) h)
value_lands c (one n) (number z) b fs d ts l h =
    given_lands (takes_value c z) c (value (Some n) z) b fs d (ts ++ number z ∷ []) refl (rw (l.0, l.1) refl) (more-calls b fs d c (word (word_of c) ∷ mark ParenOpen ∷ text n ∷ mark Comma ∷ []) ts (number z ∷ []) h)
value_lands c (value None a) (number z) b fs d ts l h =
    given_lands (takes_error c z) c (values None a z) b fs d (ts ++ number z ∷ []) refl (rw (l.0, l.1) refl) (more-calls b fs d c (word (word_of c) ∷ mark ParenOpen ∷ number a ∷ mark Comma ∷ []) ts (number z ∷ []) h)
value_lands c (value (Some n) a) (number z) b fs d ts l h =
    given_lands (takes_error c z) c (values (Some n) a z) b fs d (ts ++ number z ∷ []) refl (rw (l.0, l.1) refl)
    (more-calls b fs d c (word (word_of c) ∷ mark ParenOpen ∷ text n ∷ mark Comma ∷ number a ∷ mark Comma ∷ []) ts (number z ∷ []) h)
value_lands c (two n m) t b fs d ts l h = inside_lands t (ts ++ t ∷ [])
value_lands c (values n a z) t b fs d ts l h = inside_lands t (ts ++ t ∷ [])
value_lands c g t b fs d ts l h = tt

-- a token behind the opening parenthesis
pub opening-lands : (c : Command) (t : Kind) (b : Base) (fs : List Frame) (d : Done) (ts : List Kind) → Calls b fs d c (word (word_of c) ∷ mark ParenOpen ∷ []) ts → Lands (at_opening c t b fs d) (ts ++ t ∷ [])
opening-lands c (mark ParenClose) b fs d ts h = ready_lands (is_whole c nothing) c nothing b fs d ts refl refl h
opening-lands c t b fs d ts h = value_lands c nothing t b fs d ts tt h

-- a token behind an argument
pub at-given-lands : (c : Command) (g : Given) (t : Kind) (b : Base) (fs : List Frame) (d : Done) (ts : List Kind) → fits c g ≡ true → Calls b fs d c (word (word_of c) ∷ mark ParenOpen ∷ tokens_of g) ts → Lands (at_given c g t b fs d) (ts ++ t ∷ [])
at-given-lands c g (mark ParenClose) b fs d ts fit h = ready_lands (is_whole c g) c g b fs d ts refl fit h
at-given-lands c g (mark Comma) b fs d ts fit h = parted_lands (may_part c g) c g b fs d ts refl fit h
at-given-lands c g t b fs d ts fit h = tt

-- a token behind a comma
pub parted-leads : (c : Command) (g : Given) (t : Kind) (b : Base) (fs : List Frame) (d : Done) (ts : List Kind) → fits c g ≡ true → may_part c g ≡ true
    → Calls b fs d c (word (word_of c) ∷ mark ParenOpen ∷ (tokens_of g ++ mark Comma ∷ [])) ts → Lands (at_value c g t b fs d) (ts ++ t ∷ [])
parted-leads c nothing t b fs d ts fit may h = absurd cc
parted-leads c (one n) t b fs d ts fit may h = value_lands c (one n) t b fs d ts (fit, may) h
parted-leads c (two n m) t b fs d ts fit may h = value_lands c (two n m) t b fs d ts (fit, may) h
parted-leads c (value n a) t b fs d ts fit may h = value_lands c (value n a) t b fs d ts (fit, may) h
parted-leads c (values n a z) t b fs d ts fit may h = value_lands c (values n a z) t b fs d ts (fit, may) h
