-- A script line by line: good lines so far, and the first fault.
use Rattle.std.proofs.Common.{◌≡◌, ℕ, ◌+◌, ◌≤◌, true, false, List, [], ◌∷◌, ◌++◌, length, refl, sym, ap, subst, ◌∙◌, arith, append_assoc, append-nil}
use Rattle.std.specs.Str.Lines.{lines}
use Rattle.std.specs.List.{All}
use Rattle.std.proofs.lemmas.List.Elements.{All-nil, All-cons}
use Rattle.cg_meaning.specs.Tree.{Dating, Tree, Leaf, datings_of}
use Rattle.cg_model.specs.Limits.{IsInRange}
use Rattle.cg_grammar.specs.Text.{SpellsStatement}
use Rattle.cg_grammar.proofs.LimitLemmas.{each-statement}
use Rattle.cg_sharing.specs.Command.{Command, Line}
use Rattle.cg_sharing.specs.Course.{IsFit, AreFit}
use Rattle.cg_script.specs.Lines.{is_skipped, lines_from, command_lines}
use Rattle.cg_script.specs.Written.{Written, Grid, Open, Take, Undo, Set, Add, Insert, Drop, Rename, Commit, Print, Ranges, Model, Work, written_of}
use Rattle.cg_script.specs.Says.{Says}
use Rattle.cg_script.specs.Script.{prints_in, IfSays, SayLines, IsScript, HasRoom, IsCause, HasFault, IsTold, FailsBy, IsBounded}
use Rattle.cg_script.specs.View.{Adds}
use Rattle.cg_script.specs.declared.fault.ScriptCause.{ScriptCause}
use Rattle.cg_script.specs.declared.fault.ScriptCause.TheVariants.{Unknown, Syntax, Statement, Limit, NoMemory}
use Rattle.cg_script.specs.declared.fault.ScriptFault.{ScriptFault}
use Rattle.cg_script.proofs.ShownLemmas.{IsNamed}
use Rattle.cg_script.proofs.LineOutcomeLemmas.{is_written, grown_prints, grown_few}

-- ---- what a script brings is in order

node_in_range : (statement : List ℕ) (node : Tree) → SpellsStatement statement node → All IsInRange (datings_of node)
node_in_range statement node spelled =
    subst (λ (ds : List Dating). All IsInRange ds) (append-nil (datings_of node)) (each-statement statement node spelled).ranged

said_fit : (written : Written) (command : Command) → IsNamed written → Says written command → IsFit command
said_fit (Grid older younger) command named h = subst IsFit (sym h.1) h.0
said_fit (Open name) command named h = subst IsFit (sym h) tt
said_fit (Take version) command named h = subst IsFit (sym h) tt
said_fit Undo command named h = subst IsFit (sym h) tt
said_fit (Set event statement) command named h = subst IsFit (sym h.said) (named, node_in_range statement (Leaf [] h.dating) h.spelled 0 h.dating (omega arith))
said_fit (Add group statement) command named h = subst IsFit (sym h.said) (named, node_in_range statement h.node h.spelled)
said_fit (Insert name statement) command named h = subst IsFit (sym h.said) (named, node_in_range statement h.node h.spelled)
said_fit (Drop name) command named h = subst IsFit (sym h) named
said_fit (Rename name new) command named h = subst IsFit (sym h) named
said_fit (Commit name) command named h = subst IsFit (sym h) tt
said_fit (Print event) command named h = subst IsFit (sym h) named
said_fit (Ranges event) command named h = subst IsFit (sym h) named
said_fit Model command named h = subst IsFit (sym h) tt
said_fit Work command named h = subst IsFit (sym h) tt

line_fit : (line : List ℕ) (command : Command) → IfSays (written_of line) command → IsFit command
line_fit line command h = let w = is_written line command h in said_fit w.written command w.shown.named w.says

lines_fit : (ls : List (ℕ × List ℕ)) (said : List Line) → SayLines ls said → AreFit said
lines_fit [] [] h = All-nil (λ line. IsFit line.command)
lines_fit [] (last ∷ said) h = absurd h
lines_fit (line ∷ ls) [] h = absurd h
lines_fit (line ∷ ls) (last ∷ said) h = All-cons (λ line. IsFit line.command) last said (line_fit line.1 last.command h.1) (lines_fit ls said h.2)

-- what the commands of a script bring is in order
pub fit_script : (bytes : List ℕ) (said : List Line) → IsScript bytes said → AreFit said
fit_script bytes said script = lines_fit (command_lines bytes) said script.said

pub bounded_script : (bytes : List ℕ) (said : List Line) → IsScript bytes said → IsBounded said
bounded_script bytes said script = record { few = script.few; prints = script.prints; fit = fit_script bytes said script }

-- ---- line by line

pub say_more : (before : List (ℕ × List ℕ)) (said : List Line) (line : ℕ × List ℕ) (last : Line) → SayLines before said → last.number ≡ line.0 → IfSays (written_of line.1) last.command
    → SayLines (before ++ line ∷ []) (said ++ last ∷ [])
say_more [] [] line last h numbered says = (numbered, says, tt)
say_more [] (first ∷ said) line last h numbered says = absurd h
say_more (first ∷ before) [] line last h numbered says = absurd h
say_more (first ∷ before) (one ∷ said) line last h numbered says = (h.0, h.1, say_more before said line last h.2 numbered says)

-- Good lines come from the bytes before, and the rest of them begins with the line of this number.
pub record SoFar (bytes rest : List ℕ) (number : ℕ) (said : List Line) : Type 0 where
  pub before : List (ℕ × List ℕ)
  pub parted : command_lines bytes ≡ before ++ lines_from number rest
  pub says : SayLines before said
  pub few : length said ≤ 1000
  pub prints : prints_in said ≤ 200

line_skipped : (number : ℕ) (rest line behind : List ℕ) → lines rest ≡ line ∷ lines behind → is_skipped line ≡ true → lines_from number rest ≡ lines_from (number + 1) behind
unfolding lines_from
line_skipped number rest line behind e skip = rw (e, skip) refl

line_kept : (number : ℕ) (rest line behind : List ℕ) → lines rest ≡ line ∷ lines behind → is_skipped line ≡ false → lines_from number rest ≡ (number, line) ∷ lines_from (number + 1) behind
unfolding lines_from
line_kept number rest line behind e skip = rw (e, skip) refl

pub skipped : (bytes rest behind : List ℕ) (number : ℕ) (line : List ℕ) (said : List Line) → SoFar bytes rest number said → lines rest ≡ line ∷ lines behind → is_skipped line ≡ true
    → SoFar bytes behind (number + 1) said
skipped bytes rest behind number line said so_far split skip = record {
  before = so_far.before;
  parted = so_far.parted ∙ ap (λ ls. so_far.before ++ ls) (line_skipped number rest line behind split skip);
  says = so_far.says;
  few = so_far.few;
  prints = so_far.prints;
}

taken_by : (bytes rest behind : List ℕ) (number : ℕ) (line : List ℕ) (said : List Line) → SoFar bytes rest number said → lines_from number rest ≡ (number, line) ∷ lines_from (number + 1) behind
    → (last : Line) → HasRoom said line → last.number ≡ number → IfSays (written_of line) last.command → SoFar bytes behind (number + 1) (said ++ last ∷ [])
taken_by bytes rest behind number line said so_far kept last room numbered says = record {
  before = so_far.before ++ (number, line) ∷ [];
  parted = so_far.parted ∙ ap (λ ls. so_far.before ++ ls) kept ∙ sym (append_assoc so_far.before ((number, line) ∷ []) (lines_from (number + 1) behind));
  says = say_more so_far.before said (number, line) last so_far.says numbered says;
  few = grown_few said last line room;
  prints = grown_prints said last line room says so_far.prints;
}

-- a line that is taken leaves good lines
pub taken : (bytes rest behind : List ℕ) (number : ℕ) (line : List ℕ) (said now : List Line) → SoFar bytes rest number said → lines rest ≡ line ∷ lines behind → is_skipped line ≡ false
    → Adds said number line now → SoFar bytes behind (number + 1) now
taken bytes rest behind number line said now so_far split kept adds =
    subst (λ (ls : List Line). SoFar bytes behind (number + 1) ls) (sym adds.grown)
    (taken_by bytes rest behind number line said so_far (line_kept number rest line behind split kept) adds.last adds.room adds.numbered adds.says)

-- ---- the first fault

fault_at : (bytes rest behind : List ℕ) (number : ℕ) (line : List ℕ) (said : List Line) (fault : ScriptFault) → SoFar bytes rest number said → lines_from number rest ≡ (number, line) ∷ lines_from (number + 1) behind
    → fault.line ≡ number → IsCause fault.cause said line → HasFault bytes fault
fault_at bytes rest behind number line said fault so_far kept same cause = record {
  before = so_far.before;
  line = line;
  others = lines_from (number + 1) behind;
  lines = said;
  parted = so_far.parted ∙ ap (λ ls. so_far.before ++ ls) kept ∙ ap (λ (n : ℕ). so_far.before ++ (n, line) ∷ lines_from (number + 1) behind) (sym same);
  said = so_far.says;
  few = so_far.few;
  prints = so_far.prints;
  cause = cause;
}

told_on : (cause : ScriptCause) (P Q : Type 0) → (P → Q) → IsTold cause P → IsTold cause Q
told_on (Unknown word) P Q f h = f h
told_on Syntax P Q f h = f h
told_on (Statement cause) P Q f h = f h
told_on (Limit limit) P Q f h = f h
told_on NoMemory P Q f h = tt

-- a line that is refused has the first fault
pub refused : (bytes rest behind : List ℕ) (number : ℕ) (line : List ℕ) (said : List Line) (fault : ScriptFault) → SoFar bytes rest number said → lines rest ≡ line ∷ lines behind → is_skipped line ≡ false
    → (fault.line ≡ number) × IsTold fault.cause (IsCause fault.cause said line) → FailsBy bytes fault
refused bytes rest behind number line said fault so_far split kept h =
    told_on fault.cause (IsCause fault.cause said line) (HasFault bytes fault)
    (λ cause. fault_at bytes rest behind number line said fault so_far (line_kept number rest line behind split kept) h.0 cause) h.1

-- ---- the end

no_more : (number : ℕ) (rest : List ℕ) → length rest ≡ 0 → lines_from number rest ≡ []
unfolding lines_from
no_more number [] h = refl
no_more number (c ∷ cs) h = absurd (omega arith)

-- at the end of the bytes all their lines are good
pub at_end : (bytes rest : List ℕ) (number : ℕ) (said : List Line) → SoFar bytes rest number said → length rest ≡ 0 → IsScript bytes said
at_end bytes rest number said so_far none =
    let all : command_lines bytes ≡ so_far.before = so_far.parted ∙ ap (λ ls. so_far.before ++ ls) (no_more number rest none) ∙ append-nil so_far.before in record {
      said = subst (λ (ls : List (ℕ × List ℕ)). SayLines ls said) (sym all) so_far.says;
      few = so_far.few;
      prints = so_far.prints;
    }
