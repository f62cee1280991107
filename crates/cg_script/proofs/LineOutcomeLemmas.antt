-- What comes of a line behind others: one command, or one first cause.
use Rattle.std.proofs.Common.{◌≡◌, ℕ, ◌+◌, ◌<◌, ◌≤◌, Bool, true, false, cond, ◌&&◌, nat_le, List, [], ◌∷◌, ◌++◌, length, Option, Some, None, Result, Ok, Err, refl, sym, ap, ◌∙◌, arith, length-append}
use Rattle.std.proofs.lemmas.Bool.Decides.{nat_tests}
use Rattle.std.proofs.lemmas.List.Sums.{sum_by-append}
use Rattle.cg_sharing.specs.Command.{Command, Line}
use Rattle.cg_script.specs.Words.{first_word, cut_word}
use Rattle.cg_script.specs.Written.{Written, written_of}
use Rattle.cg_script.specs.Says.{Says}
use Rattle.cg_script.specs.Script.{is_print, prints_in, IfSays, is_unknown, is_print_line, HasRoom, IsCause}
use Rattle.cg_script.specs.declared.fault.ScriptLimit.TheVariants.{Commands, Prints, Years}
use Rattle.cg_script.specs.declared.fault.ScriptCause.{ScriptCause}
use Rattle.cg_script.specs.declared.fault.ScriptCause.TheVariants.{Unknown, Syntax, Statement, Limit, NoMemory}
use Rattle.cg_script.proofs.OutcomeLemmas.{Outcome, settled}
use Rattle.cg_script.proofs.ShownLemmas.{Shows, shows}

-- a command is said and has room, or this is the first cause
abbrev pub ComesAt : List Line → List ℕ → Result Command ScriptCause → Type 0
ComesAt lines line (Ok command) = HasRoom lines line × IfSays (written_of line) command
ComesAt lines line (Err cause) = IsCause cause lines line

-- the same, test by test
abbrev Choice : Bool → Type 0 → Type 0 → Type 0
Choice true A B = A
Choice false A B = B

abbrev is_print_too_many : List Line → List ℕ → Bool
is_print_too_many lines line = is_print_line line && nat_le 200 (prints_in lines)

abbrev Tested : List Line → List ℕ → Bool → Bool → Bool → Result Command ScriptCause → Type 0
Tested lines line unknown full printed result =
    Choice unknown (result ≡ Err (Unknown (cut_word (first_word line))))
    (Choice full (result ≡ Err (Limit Commands))
    (Choice printed (result ≡ Err (Limit Prints)) (Outcome (written_of line) result)))

abbrev TestedAt : List Line → List ℕ → Result Command ScriptCause → Type 0
TestedAt lines line result = Tested lines line (is_unknown line) (nat_le 1000 (length lines)) (is_print_too_many lines line) result

le_yes : (a b : ℕ) → a ≤ b → nat_le a b ≡ true
le_yes a b h = grind (arith, nat_tests)

le_no : (a b : ℕ) → b < a → nat_le a b ≡ false
le_no a b h = grind (arith, nat_tests)

yes_le : (a b : ℕ) → nat_le a b ≡ true → a ≤ b
yes_le a b h = grind (arith, nat_tests)

no_le : (a b : ℕ) → nat_le a b ≡ false → b < a
no_le a b h = grind (arith, nat_tests)

-- ---- from the first cause to the tests

print_room : (lines : List Line) (line : List ℕ) (b : Bool) → is_print_line line ≡ b → HasRoom lines line → is_print_too_many lines line ≡ false
print_room lines line true e room = ap (λ b. b && nat_le 200 (prints_in lines)) e ∙ le_no 200 (prints_in lines) (room.prints e)
print_room lines line false e room = ap (λ b. b && nat_le 200 (prints_in lines)) e

in_room : (lines : List Line) (line : List ℕ) (result : Result Command ScriptCause) → HasRoom lines line → Outcome (written_of line) result → TestedAt lines line result
in_room lines line result room outcome =
    rw (room.known, le_no 1000 (length lines) room.few, print_room lines line (is_print_line line) refl room) outcome

tested_cause : (lines : List Line) (line : List ℕ) (cause : ScriptCause) → IsCause cause lines line → TestedAt lines line (Err cause)
tested_cause lines line (Unknown word) h = rw (h.0, h.1) refl
tested_cause lines line (Limit Commands) h = rw (h.0, le_yes 1000 (length lines) h.1) refl
tested_cause lines line (Limit Prints) h = rw (h.known, le_no 1000 (length lines) h.few, h.print, le_yes 200 (prints_in lines) h.many) refl
tested_cause lines line Syntax h = in_room lines line (Err Syntax) h.0 h.1
tested_cause lines line (Statement cause) h = in_room lines line (Err (Statement cause)) h.0 h.1
tested_cause lines line (Limit Years) h = in_room lines line (Err (Limit Years)) h.0 h.1
tested_cause lines line NoMemory h = absurd h

tested : (lines : List Line) (line : List ℕ) (result : Result Command ScriptCause) → ComesAt lines line result → TestedAt lines line result
tested lines line (Ok command) h = in_room lines line (Ok command) h.0 h.1
tested lines line (Err cause) h = tested_cause lines line cause h

-- ---- from the tests to the first cause

caused : (lines : List Line) (line : List ℕ) (result : Result Command ScriptCause) → HasRoom lines line → Outcome (written_of line) result → ComesAt lines line result
caused lines line (Ok command) room h = (room, h)
caused lines line (Err Syntax) room h = (room, h)
caused lines line (Err (Statement cause)) room h = (room, h)
caused lines line (Err (Limit Years)) room h = (room, h)
caused lines line (Err _) room h = absurd h

-- One result comes of a line, and no other.
pub record SettledAt (lines : List Line) (line : List ℕ) : Type 0 where
  pub result : Result Command ScriptCause
  pub comes : ComesAt lines line result
  pub one : (other : Result Command ScriptCause) → ComesAt lines line other → other ≡ result

at_unknown : (lines : List Line) (line : List ℕ) → is_unknown line ≡ true → SettledAt lines line
at_unknown lines line e = record {
  result = Err (Unknown (cut_word (first_word line)));
  comes = (e, refl);
  one = λ other h. let t = tested lines line other h in rw e at t;
}

at_full : (lines : List Line) (line : List ℕ) → is_unknown line ≡ false → nat_le 1000 (length lines) ≡ true → SettledAt lines line
at_full lines line e f = record {
  result = Err (Limit Commands);
  comes = (e, yes_le 1000 (length lines) f);
  one = λ other h. let t = tested lines line other h in rw (e, f) at t;
}

at_print : (lines : List Line) (line : List ℕ) → is_unknown line ≡ false → nat_le 1000 (length lines) ≡ false → is_print_line line ≡ true → nat_le 200 (prints_in lines) ≡ true → SettledAt lines line
at_print lines line e f g k = record {
  result = Err (Limit Prints);
  comes = record { known = e; few = no_le 1000 (length lines) f; print = g; many = yes_le 200 (prints_in lines) k };
  one = λ other h. let t = tested lines line other h in rw (e, f, g, k) at t;
}

at_room : (lines : List Line) (line : List ℕ) → HasRoom lines line → SettledAt lines line
at_room lines line room =
    let s = settled (written_of line) in record {
      result = s.outcome;
      comes = caused lines line s.outcome room s.comes;
      one = λ other h.
          let t = tested lines line other h in
          s.one other (rw (room.known, le_no 1000 (length lines) room.few, print_room lines line (is_print_line line) refl room) at t);
    }

by_prints : (lines : List Line) (line : List ℕ) (printed many : Bool) → is_unknown line ≡ false → nat_le 1000 (length lines) ≡ false → is_print_line line ≡ printed → nat_le 200 (prints_in lines) ≡ many → SettledAt lines line
by_prints lines line true true e f g k = at_print lines line e f g k
by_prints lines line true false e f g k = at_room lines line (record { known = e; few = no_le 1000 (length lines) f; prints = λ p. no_le 200 (prints_in lines) k })
by_prints lines line false many e f g k = at_room lines line (record { known = e; few = no_le 1000 (length lines) f; prints = λ p. absurd cc })

by_commands : (lines : List Line) (line : List ℕ) (full : Bool) → is_unknown line ≡ false → nat_le 1000 (length lines) ≡ full → SettledAt lines line
by_commands lines line true e f = at_full lines line e f
by_commands lines line false e f = by_prints lines line (is_print_line line) (nat_le 200 (prints_in lines)) e f refl refl

by_word : (lines : List Line) (line : List ℕ) (unknown : Bool) → is_unknown line ≡ unknown → SettledAt lines line
by_word lines line true e = at_unknown lines line e
by_word lines line false e = by_commands lines line (nat_le 1000 (length lines)) e refl

pub settled_at : (lines : List Line) (line : List ℕ) → SettledAt lines line
settled_at lines line = by_word lines line (is_unknown line) refl

-- ---- one line more

-- what is said is written
pub record IsWritten (line : List ℕ) (command : Command) : Type 0 where
  pub written : Written
  pub is : written_of line ≡ Some written
  pub says : Says written command
  pub shown : Shows line written

pub written_by : (line : List ℕ) (command : Command) (written : Option Written) → written_of line ≡ written → IfSays written command → IsWritten line command
written_by line command None e h = absurd h
written_by line command (Some written) e h = record { written = written; is = e; says = h; shown = shows line written e }

pub is_written : (line : List ℕ) (command : Command) → IfSays (written_of line) command → IsWritten line command
is_written line command h = written_by line command (written_of line) refl h

pub printed_so : (line : List ℕ) (command : Command) → IfSays (written_of line) command → is_print command ≡ is_print_line line
printed_so line command h = let w = is_written line command h in w.shown.printed command w.says

abbrev pub is_print_at : Line → Bool
is_print_at line = is_print line.command

pub prints-append : (xs ys : List Line) → prints_in (xs ++ ys) ≡ prints_in xs + prints_in ys
prints-append xs ys = sum_by-append (λ line. cond (is_print_at line) 1 0) xs ys

prints_one : (line : Line) (b : Bool) → is_print line.command ≡ b → prints_in (line ∷ []) ≡ cond b 1 0
prints_one line b e = grind (arith, e)

grown_by : (lines : List Line) (last : Line) (line : List ℕ) (b : Bool) → is_print last.command ≡ b → is_print last.command ≡ is_print_line line → HasRoom lines line → prints_in lines ≤ 200 → prints_in (lines ++ last ∷ []) ≤ 200
grown_by lines last line true e same room few =
    omega (arith, prints-append lines (last ∷ []), prints_one last true e, room.prints (sym same ∙ e))
grown_by lines last line false e same room few =
    omega (arith, prints-append lines (last ∷ []), prints_one last false e, few)

pub grown_prints : (lines : List Line) (last : Line) (line : List ℕ) → HasRoom lines line → IfSays (written_of line) last.command → prints_in lines ≤ 200 → prints_in (lines ++ last ∷ []) ≤ 200
grown_prints lines last line room says few = grown_by lines last line (is_print last.command) refl (printed_so line last.command says) room few

pub grown_few : (lines : List Line) (last : Line) (line : List ℕ) → HasRoom lines line → length (lines ++ last ∷ []) ≤ 1000
grown_few lines last line room = omega (arith, length-append lines (last ∷ []), room.few)

-- there was room for a line that stands in a script
room_by : (lines : List Line) (last : Line) (others : List Line) (line : List ℕ) → is_print last.command ≡ is_print_line line → prints_in (lines ++ last ∷ others) ≤ 200 → is_print_line line ≡ true → prints_in lines < 200
room_by lines last others line same few print =
    omega (arith, few, prints-append lines (last ∷ others), prints-append (last ∷ []) others, prints_one last true (same ∙ print))

pub had_room : (lines : List Line) (last : Line) (others : List Line) (line : List ℕ) → IfSays (written_of line) last.command
    → length (lines ++ last ∷ others) ≤ 1000 → prints_in (lines ++ last ∷ others) ≤ 200 → HasRoom lines line
had_room lines last others line says few prints =
    let w = is_written line last.command says in record {
      known = w.shown.known;
      few = omega (arith, few, length-append lines (last ∷ others));
      prints = room_by lines last others line (w.shown.printed last.command w.says) prints;
    }
