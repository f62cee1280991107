-- Each list of bytes is one script, or has one fault.
use Rattle.std.proofs.Common.{◌≡◌, ℕ, ◌≤◌, ◌⊎◌, inl, inr, List, [], ◌∷◌, ◌++◌, length, Result, Ok, Err, refl, sym, ap, subst, ◌∙◌, arith, append_assoc, append-nil}
use Rattle.cg_sharing.specs.Command.{Command, Line}
use Rattle.cg_script.specs.Lines.{command_lines}
use Rattle.cg_script.specs.Script.{prints_in, SayLines, IsScript, HasRoom, HasFault, EachIsDecided}
use Rattle.cg_script.specs.declared.fault.ScriptCause.{ScriptCause}
use Rattle.cg_script.specs.declared.fault.ScriptFault.{ScriptFault}
use Rattle.cg_script.proofs.LineOutcomeLemmas.{ComesAt, settled_at, grown_prints, grown_few, had_room}
use Rattle.cg_script.proofs.ScriptLemmas.{say_more}

-- a line of this number and command
abbrev line_of : ℕ → Command → Line
line_of number command = record { number = number; command = command }

-- what reading line by line comes to
abbrev go_on : ℕ → List Line → Result Command ScriptCause → (List Line → Result (List Line) ScriptFault) → Result (List Line) ScriptFault
go_on number said (Ok command) next = next (said ++ line_of number command ∷ [])
go_on number said (Err cause) next = Err (record { line = number; cause = cause })

abbrev reading : List (ℕ × List ℕ) → List Line → Result (List Line) ScriptFault
reading [] said = Ok said
reading (line ∷ others) said = go_on line.0 said (settled_at said line.1).result (λ now. reading others now)

reads_one : (line : ℕ × List ℕ) (others : List (ℕ × List ℕ)) (said : List Line) (result : Result Command ScriptCause) → ComesAt said line.1 result
    → reading (line ∷ others) said ≡ go_on line.0 said result (λ now. reading others now)
reads_one line others said result comes =
    ap (λ (r : Result Command ScriptCause). go_on line.0 said r (λ now. reading others now)) (sym ((settled_at said line.1).one result comes))

same_line : (line : Line) (number : ℕ) → line.number ≡ number → line_of number line.command ≡ line
same_line line number e = ap (λ (n : ℕ). line_of n line.command) (sym e)

-- good lines are read
reads_front : (before others : List (ℕ × List ℕ)) (said front : List Line) → SayLines before said → length (front ++ said) ≤ 1000 → prints_in (front ++ said) ≤ 200
    → reading (before ++ others) front ≡ reading others (front ++ said)
reads_front [] others [] front h few prints = ap (λ (ls : List Line). reading others ls) (sym (append-nil front))
reads_front [] others (one ∷ said) front h few prints = absurd h
reads_front (line ∷ before) others [] front h few prints = absurd h
reads_front (line ∷ before) others (one ∷ said) front h few prints =
    let same : (front ++ one ∷ []) ++ said ≡ front ++ one ∷ said = append_assoc front (one ∷ []) said in
    let room : HasRoom front line.1 = had_room front one said line.1 h.1 few prints in
    reads_one line (before ++ others) front (Ok one.command) (room, h.1)
    ∙ ap (λ (last : Line). reading (before ++ others) (front ++ last ∷ [])) (same_line one line.0 h.0)
    ∙ reads_front before others said (front ++ one ∷ []) h.2 (subst (λ (ls : List Line). length ls ≤ 1000) (sym same) few) (subst (λ (ls : List Line). prints_in ls ≤ 200) (sym same) prints)
    ∙ ap (λ (ls : List Line). reading others ls) same

reads_script : (bytes : List ℕ) (said : List Line) → IsScript bytes said → reading (command_lines bytes) [] ≡ Ok said
reads_script bytes said script =
    ap (λ (ls : List (ℕ × List ℕ)). reading ls []) (sym (append-nil (command_lines bytes)))
    ∙ reads_front (command_lines bytes) [] said [] script.said script.few script.prints

reads_fault : (bytes : List ℕ) (fault : ScriptFault) → HasFault bytes fault → reading (command_lines bytes) [] ≡ Err fault
reads_fault bytes fault f =
    ap (λ (ls : List (ℕ × List ℕ)). reading ls []) f.parted
    ∙ reads_front f.before ((fault.line, f.line) ∷ f.others) f.lines [] f.said f.few f.prints
    ∙ reads_one (fault.line, f.line) f.others f.lines (Err fault.cause) f.cause

-- ---- some script or some fault

abbrev IsRead : List ℕ → Type 0
IsRead bytes = ((said : List Line) × IsScript bytes said) ⊎ ((fault : ScriptFault) × HasFault bytes fault)

read_next : (bytes : List ℕ) (before others : List (ℕ × List ℕ)) (line : ℕ × List ℕ) (said : List Line) (result : Result Command ScriptCause) → command_lines bytes ≡ before ++ line ∷ others
    → SayLines before said → length said ≤ 1000 → prints_in said ≤ 200 → ComesAt said line.1 result
    → ((last : Line) → command_lines bytes ≡ (before ++ line ∷ []) ++ others → SayLines (before ++ line ∷ []) (said ++ last ∷ []) → length (said ++ last ∷ []) ≤ 1000 → prints_in (said ++ last ∷ []) ≤ 200 → IsRead bytes)
    → IsRead bytes
read_next bytes before others line said (Ok command) parted says few prints comes more =
    let last = line_of line.0 command in
    more last (parted ∙ sym (append_assoc before (line ∷ []) others)) (say_more before said line last says refl comes.1)
    (grown_few said last line.1 comes.0) (grown_prints said last line.1 comes.0 comes.1 prints)
read_next bytes before others line said (Err cause) parted says few prints comes more =
    inr (
      record { line = line.0; cause = cause },
      record {
        before = before;
        line = line.1;
        others = others;
        lines = said;
        parted = parted;
        said = says;
        few = few;
        prints = prints;
        cause = comes;
      },
    )

read_from : (bytes : List ℕ) (others before : List (ℕ × List ℕ)) (said : List Line) → command_lines bytes ≡ before ++ others → SayLines before said → length said ≤ 1000 → prints_in said ≤ 200 → IsRead bytes
read_from bytes [] before said parted says few prints =
    inl (said, record { said = subst (λ (ls : List (ℕ × List ℕ)). SayLines ls said) (sym (parted ∙ append-nil before)) says; few = few; prints = prints })
read_from bytes (line ∷ others) before said parted says few prints =
    read_next bytes before others line said (settled_at said line.1).result parted says few prints (settled_at said line.1).comes
    (λ last parted' says' few' prints'. read_from bytes others (before ++ line ∷ []) (said ++ last ∷ []) parted' says' few' prints')

same_ok : (r : Result (List Line) ScriptFault) (a b : List Line) → r ≡ Ok a → r ≡ Ok b → a ≡ b
same_ok r a b h k = cc

same_err : (r : Result (List Line) ScriptFault) (f g : ScriptFault) → r ≡ Err f → r ≡ Err g → f ≡ g
same_err r f g h k = cc

not_both : (r : Result (List Line) ScriptFault) (a : List Line) (f : ScriptFault) → r ≡ Ok a → r ≡ Err f → ⊥
not_both r a f h k = absurd cc

pub each_is_decided : EachIsDecided
each_is_decided bytes = record {
  one = read_from bytes (command_lines bytes) [] [] refl tt (omega arith) (omega arith);
  not_both = λ said fault script f. not_both (reading (command_lines bytes) []) said fault (reads_script bytes said script) (reads_fault bytes fault f);
  one_script = λ a b h k. same_ok (reading (command_lines bytes) []) a b (reads_script bytes a h) (reads_script bytes b k);
  one_fault = λ f g h k. same_err (reading (command_lines bytes) []) f g (reads_fault bytes f h) (reads_fault bytes g k);
}
