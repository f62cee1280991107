-- The tokens of a chronology: each statement as a call of the grammar, which is whole and says the statement.
use Rattle.std.proofs.Common.{◌≡◌, true, false, eqb, leb, List, [], ◌∷◌, ◌++◌, length, slice_index, Option, Some, None, ℤ, pos, negsuc, ◌≤ℤ◌, int_eq, refl, ap, arith}
use Rattle.std.proofs.lemmas.Bool.Decides.{nat_tests}
use Rattle.std.proofs.lemmas.Int.{ints}
use Rattle.cg_meaning.specs.Tree as spec
use Rattle.cg_meaning.specs.Tree.{Name, Tree, Trees, none, more}
use Rattle.cg_model.specs.Group.{kind_in}
use Rattle.cg_model.specs.Limits.{IsInRange}
use Rattle.cg_model.specs.declared.group.GroupKind.{GroupKind}
use Rattle.cg_model.specs.declared.group.GroupKind.TheVariants.{Sequence, Phase, After, Before}
use Rattle.cg_token.specs.Kind.{Kind, mark}
use Rattle.cg_token.specs.declared.token.Mark.TheVariants.{BraceOpen, BraceClose, Semicolon}
use Rattle.cg_grammar.specs.declared.command.Command.{Command}
use Rattle.cg_grammar.specs.declared.command.Command.TheVariants.{Date, Boundary, CDate, RDate, Group}
use Rattle.cg_grammar.specs.Arguments.{Given, nothing, one, value, values, is_name, is_age, is_error, fits_first, is_call, call, name_or, name_in, event_in}
use Rattle.cg_writing.specs.Text.{calendar_of}
use Rattle.cg_writing.specs.Law.{IsNodeName}
use Rattle.cg_writing.proofs.YearLemmas.{le-true, eq-false, calendar-back, thousandths_of, year-true, year-back}

-- a name as the first of two arguments or more
abbrev pub first_name : Name → Option Name
first_name [] = None
first_name (c ∷ cs) = Some (c ∷ cs)

-- a name as the one argument
abbrev pub named : Name → Given
named [] = nothing
named (c ∷ cs) = one (c ∷ cs)

-- the arguments of an event
abbrev pub given_for : Name → spec.Dating → Given
given_for name spec.Free = named name
given_for name (spec.Exact year) = value (first_name name) (thousandths_of (calendar_of year))
given_for name (spec.Normal year error) = values (first_name name) (thousandths_of (calendar_of year)) error
given_for name (spec.Carbon age error) = values (first_name name) age error

-- its command
abbrev pub command_for : spec.Dating → Command
command_for spec.Free = Date
command_for (spec.Exact year) = CDate
command_for (spec.Normal year error) = CDate
command_for (spec.Carbon age error) = RDate

-- the kind of a group in the code
abbrev pub kind_back : spec.Kind → GroupKind
kind_back spec.Sequence = Sequence
kind_back spec.Phase = Phase
kind_back spec.After = After
kind_back spec.Before = Before

-- it is the same kind
pub kind-again : (kind : spec.Kind) → kind_in (kind_back kind) ≡ kind
kind-again spec.Sequence = refl
kind-again spec.Phase = refl
kind-again spec.After = refl
kind-again spec.Before = refl

-- the tokens of a statement
abbrev mutual
  pub tree_tokens : Tree → List Kind
  tree_tokens (spec.Leaf name dating) = call (command_for dating) (given_for name dating) ++ mark Semicolon ∷ []
  tree_tokens (spec.Boundary name) = call Boundary (named name) ++ mark Semicolon ∷ []
  tree_tokens (spec.Group kind name ts) =
      (call (Group (kind_back kind)) (named name) ++ mark BraceOpen ∷ (trees_tokens ts ++ mark BraceClose ∷ [])) ++ mark Semicolon ∷ []

  pub trees_tokens : Trees → List Kind
  trees_tokens none = []
  trees_tokens (more t ts) = tree_tokens t ++ trees_tokens ts

-- an argument says its name
pub name-named : (name : Name) → name_in (named name) ≡ name
name-named [] = refl
name-named (c ∷ cs) = refl

-- and a first argument
name-first : (name : Name) → name_or (first_name name) ≡ name
name-first [] = refl
name-first (c ∷ cs) = refl

-- a name that can be written is one of the grammar's
node-name : (name : Name) → IsNodeName name → is_name name ≡ true
node-name name h =
    let short : leb (length name) 120 ≡ true = let few = h.quotable.short in grind (arith, nat_tests) in
    let other : eqb (slice_index name 0) 61 ≡ false = let differs = h.no_equals in grind (arith, nat_tests) in
    rw (short, other) refl

-- it may be the one argument of an event without a dating
pub named-date : (name : Name) → IsNodeName name → is_call Date (named name) ≡ true
named-date [] h = refl
named-date (c ∷ cs) h = rw (node-name (c ∷ cs) h) refl

-- of a Boundary
pub named-boundary : (name : Name) → IsNodeName name → is_call Boundary (named name) ≡ true
named-boundary [] h = refl
named-boundary (c ∷ cs) h = rw (node-name (c ∷ cs) h) refl

-- and of a group
pub named-group : (kind : GroupKind) (name : Name) → IsNodeName name → is_call (Group kind) (named name) ≡ true
named-group kind [] h = refl
named-group kind (c ∷ cs) h = rw (node-name (c ∷ cs) h) refl

-- or the first of a calendar date
first-dated : (name : Name) → IsNodeName name → fits_first CDate (first_name name) ≡ true
first-dated [] h = refl
first-dated (c ∷ cs) h = rw (node-name (c ∷ cs) h) refl

-- or of a radiocarbon date
first-carbon : (name : Name) → IsNodeName name → fits_first RDate (first_name name) ≡ true
first-carbon [] h = refl
first-carbon (c ∷ cs) h = rw (node-name (c ∷ cs) h) refl

-- an error in range is one of the grammar's
error-true : (error : ℤ) → pos 1000 ≤ℤ error → error ≤ℤ pos 10000000 → is_error error ≡ true
error-true error low high = rw (le-true (pos 1000) error low, le-true error (pos 10000000) high) refl

-- and isn't 0
error-some : (error : ℤ) → pos 1000 ≤ℤ error → int_eq error (pos 0) ≡ false
error-some error low = eq-false error (pos 0) (λ e. absurd (omega (arith, ints, low, e)))

-- an age in range is one of the grammar's
age-true : (age : ℤ) → negsuc 1999999 ≤ℤ age → age ≤ℤ pos 60000000 → is_age age ≡ true
age-true age low high = rw (le-true (negsuc 1999999) age low, le-true age (pos 60000000) high) refl

-- the arguments of an event are whole
pub event-call : (name : Name) (dating : spec.Dating) → IsNodeName name → IsInRange dating
    → is_call (command_for dating) (given_for name dating) ≡ true
event-call name spec.Free h r = named-date name h
event-call name (spec.Exact year) h r = rw (first-dated name h, year-true (calendar_of year) (calendar-back year r).0) refl
event-call name (spec.Normal year error) h r =
    rw (first-dated name h, year-true (calendar_of year) (calendar-back year r.year_is).0, error-some error r.some, error-true error r.some r.few) refl
event-call name (spec.Carbon age error) h r =
    rw (first-carbon name h, age-true age r.low r.high, error-true error r.some r.few) refl

-- and say the event
pub event-said : (name : Name) (dating : spec.Dating) → IsInRange dating
    → event_in (command_for dating) (given_for name dating) ≡ spec.Leaf name dating
event-said name spec.Free r = ap (λ n. spec.Leaf n spec.Free) (name-named name)
event-said name (spec.Exact year) r = rw (name-first name, year-back year r) refl
event-said name (spec.Normal year error) r = rw (name-first name, error-some error r.some, year-back year r.year_is) refl
event-said name (spec.Carbon age error) r = ap (λ n. spec.Leaf n (spec.Carbon age error)) (name-first name)
