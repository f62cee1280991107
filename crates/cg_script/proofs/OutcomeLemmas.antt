-- What a line shows says one command, or has one cause for which it says none.
use Rattle.std.proofs.Common.{◌≡◌, ℕ, ◌⊎◌, inl, inr, List, [], ◌∷◌, Option, Some, None, Result, Ok, Err, refl, sym, ap, ◌∙◌, arith}
use Rattle.std.specs.Prelude.{ℤ, pos, negsuc, int_lt, Bool, true, false}
use Rattle.std.proofs.lemmas.Int.{ints}
use Rattle.cg_num.specs.Year.{IsYear}
use Rattle.cg_meaning.specs.Tree.{Name, Dating, Tree, Leaf, Boundary, Group}
use Rattle.cg_grammar.specs.Text.{SpellsStatement, Fails}
use Rattle.cg_grammar.specs.declared.command.Base.TheVariants.{Single}
use Rattle.cg_grammar.specs.declared.fault.CqlCause.{CqlCause}
use Rattle.cg_grammar.specs.declared.fault.CqlCause.TheVariants as causes
use Rattle.cg_grammar.specs.declared.fault.CqlFault.{CqlFault}
use Rattle.cg_grammar.proofs.StatementLemmas.{statement-decided}
use Rattle.cg_sharing.specs.Edit as edits
use Rattle.cg_sharing.specs.Command as commands
use Rattle.cg_sharing.specs.Command.{Command}
use Rattle.cg_script.specs.Written.{Written, Grid, Open, Take, Undo, Set, Add, Insert, Drop, Rename, Commit, Print, Ranges, Model, Work}
use Rattle.cg_script.specs.Says.{AreYears, Brings, Says, SpellsOther, FailsFor, IsUnread, IsMisspelt, HasUnread, PassesYears}
use Rattle.cg_script.specs.Script.{IfSays}
use Rattle.cg_script.specs.declared.fault.ScriptLimit.TheVariants.{Years}
use Rattle.cg_script.specs.declared.fault.ScriptCause.{ScriptCause}
use Rattle.cg_script.specs.declared.fault.ScriptCause.TheVariants.{Syntax, Statement, Limit}
use Rattle.cg_script.proofs.MemoryLemmas.{no_want}

-- why what a line shows says out command
abbrev pub IsRefused : ScriptCause → Option Written → Type 0
IsRefused Syntax written = IsMisspelt written
IsRefused (Statement cause) written = HasUnread cause written
IsRefused (Limit Years) written = PassesYears written
IsRefused _ written = ⊥

-- what comes of what a line shows
abbrev pub Outcome : Option Written → Result Command ScriptCause → Type 0
Outcome written (Ok command) = IfSays written command
Outcome written (Err cause) = IsRefused cause written

-- One outcome comes, and out other.
pub record Settled (written : Option Written) : Type 0 where
  pub outcome : Result Command ScriptCause
  pub comes : Outcome written outcome
  pub one : (other : Result Command ScriptCause) → Outcome written other → other ≡ outcome

nothing_one : (other : Result Command ScriptCause) → Outcome None other → other ≡ Err Syntax
nothing_one (Ok command) h = absurd h
nothing_one (Err Syntax) h = refl
nothing_one (Err (Statement cause)) h = absurd h
nothing_one (Err (Limit Years)) h = absurd h
nothing_one (Err _) h = absurd h

-- ---- what needs out statement

-- one command is said, and there is out cause
record IsPlain (written : Written) (command : Command) : Type 0 where
  says : Says written command
  one : (other : Command) → Says written other → other ≡ command
  spelt : ¬ IsMisspelt (Some written)
  read : (cause : CqlCause) → ¬ HasUnread cause (Some written)
  years : ¬ PassesYears (Some written)

plain_one : (written : Written) (command : Command) → IsPlain written command → (other : Result Command ScriptCause) → Outcome (Some written) other → other ≡ Ok command
plain_one written command plain (Ok other) h = ap (λ (c : Command). Ok c) (plain.one other h)
plain_one written command plain (Err Syntax) h = absurd (plain.spelt h)
plain_one written command plain (Err (Statement cause)) h = absurd (plain.read cause h)
plain_one written command plain (Err (Limit Years)) h = absurd (plain.years h)
plain_one written command plain (Err _) h = absurd h

plain_settled : (written : Written) (command : Command) → IsPlain written command → Settled (Some written)
plain_settled written command plain = record { outcome = Ok command; comes = plain.says; one = plain_one written command plain }

-- ---- grids

year_or : (year : ℤ) (old young : Bool) → int_lt year (negsuc 999) ≡ old → int_lt (pos 60000) year ≡ young → IsYear year ⊎ (¬ IsYear year)
year_or year true young e f = inr (λ h. absurd (grind (arith, ints, h.0)))
year_or year false true e f = inr (λ h. absurd (grind (arith, ints, h.1)))
year_or year false false e f = inl (grind (arith, ints), grind (arith, ints))

is_year_or : (year : ℤ) → IsYear year ⊎ (¬ IsYear year)
is_year_or year = year_or year (int_lt year (negsuc 999)) (int_lt (pos 60000) year) refl refl

grid_plain : (older younger : ℤ) → AreYears older younger → IsPlain (Grid older younger) (commands.Grid older younger)
grid_plain older younger years = record {
  says = (years, refl);
  one = λ other h. h.1;
  spelt = λ h. h;
  read = λ cause h. h;
  years = λ h. h years;
}

grid_one : (older younger : ℤ) → (¬ AreYears older younger) → (other : Result Command ScriptCause) → Outcome (Some (Grid older younger)) other → other ≡ Err (Limit Years)
grid_one older younger out (Ok other) h = absurd (out h.0)
grid_one older younger out (Err (Limit Years)) h = refl
grid_one older younger out (Err Syntax) h = absurd h
grid_one older younger out (Err (Statement cause)) h = absurd h
grid_one older younger out (Err _) h = absurd h

grid_refused : (older younger : ℤ) → (¬ AreYears older younger) → Settled (Some (Grid older younger))
grid_refused older younger out = record { outcome = Err (Limit Years); comes = out; one = grid_one older younger out }

grid_settled : (older younger : ℤ) → Settled (Some (Grid older younger))
grid_settled older younger =
    elim (is_year_or older) [
      | inr out ↦ grid_refused older younger (λ h. out h.0)
      | inl old ↦ elim (is_year_or younger) [
        | inr out ↦ grid_refused older younger (λ h. out h.1)
        | inl young ↦ plain_settled (Grid older younger) (commands.Grid older younger) (grid_plain older younger (old, young))
      ]
    ]

-- ---- statements

unread_fails : (cause : CqlCause) (statement : List ℕ) → IsUnread cause statement → FailsFor cause statement
unread_fails causes.NoMemory statement h = absurd h
unread_fails _ statement h = h

fails_unread : (cause : CqlCause) (statement : List ℕ) → (cause ≡ causes.NoMemory → ⊥) → FailsFor cause statement → IsUnread cause statement
fails_unread causes.NoMemory statement out h = out refl
fails_unread _ statement out h = h

never_both : (statement : List ℕ) (node : Tree) (cause : CqlCause) → SpellsStatement statement node → ¬ IsUnread cause statement
never_both statement node cause spelled h =
    let failed = unread_fails cause statement h in (statement-decided statement).not_both node failed.fault spelled failed.fails

one_node : (statement : List ℕ) (a b : Tree) → SpellsStatement statement a → SpellsStatement statement b → a ≡ b
one_node statement a b h k = (statement-decided statement).one_value a b h k

one_unread : (statement : List ℕ) (fault : CqlFault) (cause : CqlCause) → Fails Single statement fault → IsUnread cause statement → cause ≡ fault.cause
one_unread statement fault cause fails h =
    let failed = unread_fails cause statement h in
    sym failed.same ∙ ap (λ (f : CqlFault). f.cause) ((statement-decided statement).one_fault failed.fault fault failed.fails fails)

unread_of : (statement : List ℕ) (fault : CqlFault) → Fails Single statement fault → IsUnread fault.cause statement
unread_of statement fault fails =
    fails_unread fault.cause statement (no_want Single statement fault fails) (record { fault = fault; fails = fails; same = refl })

-- a change that a statement brings
record IsChange (written : Written) (change : Tree → edits.Edit) (statement : List ℕ) : Type 0 where
  says : (command : Command) → Says written command → Brings change statement command
  said : (command : Command) → Brings change statement command → Says written command
  spelt : ¬ IsMisspelt (Some written)
  unread : (cause : CqlCause) → HasUnread cause (Some written) → IsUnread cause statement
  failed : (cause : CqlCause) → IsUnread cause statement → HasUnread cause (Some written)
  years : ¬ PassesYears (Some written)

brings_plain : (written : Written) (change : Tree → edits.Edit) (statement : List ℕ) (node : Tree) → IsChange written change statement → SpellsStatement statement node → IsPlain written (commands.Change (change node))
brings_plain written change statement node is spelled = record {
  says = is.said (commands.Change (change node)) (record { node = node; spelled = spelled; said = refl });
  one = λ other h. let brings = is.says other h in brings.said ∙ ap (λ (t : Tree). commands.Change (change t)) (one_node statement brings.node node brings.spelled spelled);
  spelt = is.spelt;
  read = λ cause h. never_both statement node cause spelled (is.unread cause h);
  years = is.years;
}

failed_one : (written : Written) (change : Tree → edits.Edit) (statement : List ℕ) (fault : CqlFault) → IsChange written change statement → Fails Single statement fault
    → (other : Result Command ScriptCause) → Outcome (Some written) other → other ≡ Err (Statement fault.cause)
failed_one written change statement fault is fails (Ok command) h =
    let brings = is.says command h in absurd ((statement-decided statement).not_both brings.node fault brings.spelled fails)
failed_one written change statement fault is fails (Err Syntax) h = absurd (is.spelt h)
failed_one written change statement fault is fails (Err (Statement cause)) h = ap (λ (c : CqlCause). Err (Statement c)) (one_unread statement fault cause fails (is.unread cause h))
failed_one written change statement fault is fails (Err (Limit Years)) h = absurd (is.years h)
failed_one written change statement fault is fails (Err _) h = absurd h

change_settled : (written : Written) (change : Tree → edits.Edit) (statement : List ℕ) → IsChange written change statement → Settled (Some written)
change_settled written change statement is =
    elim (statement-decided statement).one [
      | inl found ↦ plain_settled written (commands.Change (change found.0)) (brings_plain written change statement found.0 is found.1)
      | inr found ↦ record {
        outcome = Err (Statement found.0.cause);
        comes = is.failed found.0.cause (unread_of statement found.0 found.1);
        one = failed_one written change statement found.0 is found.1;
      }
    ]

-- ---- a dating

dating_in : Tree → Dating → Dating
dating_in (Leaf name dating) other = dating
dating_in (Boundary name) other = other
dating_in (Group kind name ts) other = other

one_dating : (a b : Dating) → Leaf [] a ≡ Leaf [] b → a ≡ b
unfolding dating_in
one_dating a b e = ap (λ (t : Tree). dating_in t a) e

set_plain : (event : Name) (statement : List ℕ) (dating : Dating) → SpellsStatement statement (Leaf [] dating) → IsPlain (Set event statement) (commands.Change (edits.Set event dating))
set_plain event statement dating spelled = record {
  says = record { dating = dating; spelled = spelled; said = refl };
  one = λ other h. h.said ∙ ap (λ (d : Dating). commands.Change (edits.Set event d)) (one_dating h.dating dating (one_node statement (Leaf [] h.dating) (Leaf [] dating) h.spelled spelled));
  spelt = λ h. h.other dating (one_node statement h.node (Leaf [] dating) h.spelled spelled);
  read = λ cause h. never_both statement (Leaf [] dating) cause spelled h;
  years = λ h. h;
}

other_one : (event : Name) (statement : List ℕ) (other : SpellsOther statement) (result : Result Command ScriptCause) → Outcome (Some (Set event statement)) result → result ≡ Err Syntax
other_one event statement other (Ok command) h = absurd (other.other h.dating (one_node statement other.node (Leaf [] h.dating) other.spelled h.spelled))
other_one event statement other (Err Syntax) h = refl
other_one event statement other (Err (Statement cause)) h = absurd (never_both statement other.node cause other.spelled h)
other_one event statement other (Err (Limit Years)) h = absurd h
other_one event statement other (Err _) h = absurd h

other_settled : (event : Name) (statement : List ℕ) → SpellsOther statement → Settled (Some (Set event statement))
other_settled event statement other = record { outcome = Err Syntax; comes = other; one = other_one event statement other }

set_failed_one : (event : Name) (statement : List ℕ) (fault : CqlFault) → Fails Single statement fault → (other : Result Command ScriptCause) → Outcome (Some (Set event statement)) other → other ≡ Err (Statement fault.cause)
set_failed_one event statement fault fails (Ok command) h = absurd ((statement-decided statement).not_both (Leaf [] h.dating) fault h.spelled fails)
set_failed_one event statement fault fails (Err Syntax) h = absurd ((statement-decided statement).not_both h.node fault h.spelled fails)
set_failed_one event statement fault fails (Err (Statement cause)) h = ap (λ (c : CqlCause). Err (Statement c)) (one_unread statement fault cause fails h)
set_failed_one event statement fault fails (Err (Limit Years)) h = absurd h
set_failed_one event statement fault fails (Err _) h = absurd h

-- a node is a nameless date, or it is none
node_settled : (event : Name) (statement : List ℕ) (node : Tree) → SpellsStatement statement node → Settled (Some (Set event statement))
node_settled event statement (Leaf [] dating) spelled = plain_settled (Set event statement) (commands.Change (edits.Set event dating)) (set_plain event statement dating spelled)
node_settled event statement (Leaf (c ∷ cs) dating) spelled = other_settled event statement (record { node = Leaf (c ∷ cs) dating; spelled = spelled; other = λ d e. absurd cc })
node_settled event statement (Boundary name) spelled = other_settled event statement (record { node = Boundary name; spelled = spelled; other = λ d e. absurd cc })
node_settled event statement (Group kind name ts) spelled = other_settled event statement (record { node = Group kind name ts; spelled = spelled; other = λ d e. absurd cc })

set_settled : (event : Name) (statement : List ℕ) → Settled (Some (Set event statement))
set_settled event statement =
    elim (statement-decided statement).one [
      | inl found ↦ node_settled event statement found.0 found.1
      | inr found ↦ record {
        outcome = Err (Statement found.0.cause);
        comes = unread_of statement found.0 found.1;
        one = set_failed_one event statement found.0 found.1;
      }
    ]

-- ---- all of them

sole : (written : Written) (command : Command) → Says written command → ((other : Command) → Says written other → other ≡ command)
    → ¬ IsMisspelt (Some written) → ((cause : CqlCause) → ¬ HasUnread cause (Some written)) → ¬ PassesYears (Some written) → Settled (Some written)
sole written command says one spelt read years = plain_settled written command (record { says = says; one = one; spelt = spelt; read = read; years = years })

pub settled : (written : Option Written) → Settled written
settled None = record { outcome = Err Syntax; comes = tt; one = nothing_one }
settled (Some (Grid older younger)) = grid_settled older younger
settled (Some (Open name)) = sole (Open name) (commands.Open name) refl (λ other h. h) (λ h. h) (λ cause h. h) (λ h. h)
settled (Some (Take version)) = sole (Take version) (commands.Take version) refl (λ other h. h) (λ h. h) (λ cause h. h) (λ h. h)
settled (Some Undo) = sole Undo commands.Undo refl (λ other h. h) (λ h. h) (λ cause h. h) (λ h. h)
settled (Some (Set event statement)) = set_settled event statement
settled (Some (Add group statement)) = change_settled (Add group statement) (λ node. edits.Add group node) statement
    (record { says = λ command h. h; said = λ command h. h; spelt = λ h. h; unread = λ cause h. h; failed = λ cause h. h; years = λ h. h })
settled (Some (Insert name statement)) = change_settled (Insert name statement) (λ node. edits.InsertBefore name node) statement
    (record { says = λ command h. h; said = λ command h. h; spelt = λ h. h; unread = λ cause h. h; failed = λ cause h. h; years = λ h. h })
settled (Some (Drop name)) = sole (Drop name) (commands.Change (edits.Drop name)) refl (λ other h. h) (λ h. h) (λ cause h. h) (λ h. h)
settled (Some (Rename name new)) = sole (Rename name new) (commands.Change (edits.Rename name new)) refl (λ other h. h) (λ h. h) (λ cause h. h) (λ h. h)
settled (Some (Commit name)) = sole (Commit name) (commands.Commit name) refl (λ other h. h) (λ h. h) (λ cause h. h) (λ h. h)
settled (Some (Print event)) = sole (Print event) (commands.Print event) refl (λ other h. h) (λ h. h) (λ cause h. h) (λ h. h)
settled (Some (Ranges event)) = sole (Ranges event) (commands.Ranges event) refl (λ other h. h) (λ h. h) (λ cause h. h) (λ h. h)
settled (Some Model) = sole Model commands.Model refl (λ other h. h) (λ h. h) (λ cause h. h) (λ h. h)
settled (Some Work) = sole Work commands.Work refl (λ other h. h) (λ h. h) (λ cause h. h) (λ h. h)
