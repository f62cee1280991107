-- The text of statements is read as their tokens, wherever it stands.
use Rattle.std.proofs.Common.{◌≡◌, ℕ, ◌+◌, false, List, [], ◌∷◌, ◌++◌, slice_index, replicate, codes, All, ℤ, pos, ◌≤ℤ◌, refl, sym, subst, arith, append_assoc}
use Rattle.std.specs.Fmt.{signed_decimal}
use Rattle.std.proofs.lemmas.Int.{ints}
use Rattle.std.proofs.lemmas.List.{append-nil}
use Rattle.cg_num.specs.Decimal.{IsDecimal}
use Rattle.cg_num.specs.Written.{decimal_text}
use Rattle.cg_meaning.specs.Tree as spec
use Rattle.cg_meaning.specs.Tree.{Name, Tree, Trees, none, more, datings_of, datings_of_all}
use Rattle.cg_model.specs.Group.{word_of_kind}
use Rattle.cg_model.specs.Limits.{IsInRange, AreInRange}
use Rattle.cg_model.specs.declared.group.GroupKind.TheVariants.{Sequence, Phase, After, Before}
use Rattle.cg_model.proofs.PlaceLemmas.{All-left, All-right}
use Rattle.cg_token.specs.Kind.{Kind, word, text, number, mark}
use Rattle.cg_token.specs.declared.token.Mark.TheVariants.{ParenOpen, ParenClose, BraceOpen, BraceClose, Comma, Semicolon}
use Rattle.cg_token.specs.Cut.{in_word, in_number}
use Rattle.cg_token.specs.Lexing.{Lexes}
use Rattle.cg_token.proofs.LexLemmas.{then-lexes, none-lexes, blanks-lex, newline-lexes, mark-lexes, word-lexes, text-lexes}
use Rattle.cg_grammar.specs.declared.command.Command.{Command}
use Rattle.cg_grammar.specs.declared.command.Command.TheVariants.{Date, Boundary, CDate, RDate, Group, Plot, Options, Curve}
use Rattle.cg_grammar.specs.Words.{word_of}
use Rattle.cg_grammar.specs.Arguments.{Given, tokens_of, text_first, call}
use Rattle.cg_writing.specs.Text.{calendar_of, quoted, name_text, word_of_dating, values_text, arguments_text, call_text, line, statement_text, statements_text}
use Rattle.cg_writing.specs.Law.{IsQuotable, IsNodeName, HasNodeNames, HaveNodeNames}
use Rattle.cg_writing.proofs.YearLemmas.{calendar-back, thousandths_of, whole-text, year-decimal}
use Rattle.cg_writing.proofs.NumberLemmas.{number-lexes}
use Rattle.cg_writing.proofs.TokenLemmas.{first_name, named, given_for, command_for, kind_back, kind-again, tree_tokens, trees_tokens}
use Rattle.cg_writing.proofs.GrammarLemmas.{one-ranged}

-- a line is read as what stands in it
line-lexes : (depth : ℕ) (bytes rest : List ℕ) (ks : List Kind) → Lexes bytes (codes "\n" ++ rest) ks
    → Lexes (line depth bytes) rest ks
line-lexes depth bytes rest ks h =
    subst (λ js. Lexes (line depth bytes) rest js) (append-nil ks)
    (then-lexes (replicate depth 32 ++ bytes) (codes "\n") rest ks []
    (then-lexes (replicate depth 32) bytes (codes "\n" ++ rest) [] ks (blanks-lex depth (bytes ++ (codes "\n" ++ rest))) h) (newline-lexes rest))

-- the word of a command, before another byte than one of a word
command-lexes : (c : Command) (rest : List ℕ) → in_word (slice_index rest 0) ≡ false
    → Lexes (word_of c) rest (word (word_of c) ∷ [])
command-lexes Date rest e = word-lexes 68 (codes "ate") rest refl refl e
command-lexes Boundary rest e = word-lexes 66 (codes "oundary") rest refl refl e
command-lexes CDate rest e = word-lexes 67 (codes "_Date") rest refl refl e
command-lexes RDate rest e = word-lexes 82 (codes "_Date") rest refl refl e
command-lexes (Group Sequence) rest e = word-lexes 83 (codes "equence") rest refl refl e
command-lexes (Group Phase) rest e = word-lexes 80 (codes "hase") rest refl refl e
command-lexes (Group After) rest e = word-lexes 65 (codes "fter") rest refl refl e
command-lexes (Group Before) rest e = word-lexes 66 (codes "efore") rest refl refl e
command-lexes Plot rest e = word-lexes 80 (codes "lot") rest refl refl e
command-lexes Options rest e = word-lexes 79 (codes "ptions") rest refl refl e
command-lexes Curve rest e = word-lexes 67 (codes "urve") rest refl refl e

-- a command with its arguments
call-lexes : (c : Command) (g : Given) (arguments rest : List ℕ)
    → Lexes arguments (codes ")" ++ rest) (tokens_of g) → Lexes (call_text (word_of c) arguments) rest (call c g)
call-lexes c g arguments rest h =
    let front = word_of c ++ codes "(" in
    let behind = arguments ++ (codes ")" ++ rest) in
    let begins = word (word_of c) ∷ mark ParenOpen ∷ [] in
    then-lexes (front ++ arguments) (codes ")") rest (begins ++ tokens_of g) (mark ParenClose ∷ [])
    (then-lexes front arguments (codes ")" ++ rest) begins (tokens_of g)
    (then-lexes (word_of c) (codes "(") behind (word (word_of c) ∷ []) (mark ParenOpen ∷ []) (command-lexes c (codes "(" ++ behind) refl) (mark-lexes ParenOpen behind)) h)
    (mark-lexes ParenClose rest)

-- an event in its line
pub event-lexes : (depth : ℕ) (c : Command) (g : Given) (arguments rest : List ℕ)
    → ((behind : List ℕ) → Lexes arguments (codes ")" ++ behind) (tokens_of g))
    → Lexes (line depth (call_text (word_of c) arguments ++ codes ";")) rest (call c g ++ mark Semicolon ∷ [])
event-lexes depth c g arguments rest h =
    line-lexes depth (call_text (word_of c) arguments ++ codes ";") rest (call c g ++ mark Semicolon ∷ [])
    (then-lexes (call_text (word_of c) arguments) (codes ";") (codes "\n" ++ rest) (call c g) (mark Semicolon ∷ [])
    (call-lexes c g arguments (codes ";" ++ (codes "\n" ++ rest)) (h (codes ";" ++ (codes "\n" ++ rest)))) (mark-lexes Semicolon (codes "\n" ++ rest)))

-- a name in quotes
pub quoted-lexes : (name rest : List ℕ) → IsQuotable name → Lexes (quoted name) rest (text name ∷ [])
quoted-lexes name rest h = text-lexes name rest h.plain h.utf8

-- a name alone
named-lexes : (name : Name) (rest : List ℕ) → IsNodeName name → Lexes (name_text name []) rest (tokens_of (named name))
named-lexes [] rest h = none-lexes rest
named-lexes (c ∷ cs) rest h =
    then-lexes (quoted (c ∷ cs)) [] rest (text (c ∷ cs) ∷ []) [] (quoted-lexes (c ∷ cs) rest h.quotable) (none-lexes rest)

-- a name before values
first-lexes : (name : Name) (values rest : List ℕ) (ks : List Kind) → IsNodeName name → Lexes values rest ks
    → Lexes (name_text name (codes ",") ++ values) rest (text_first (first_name name) ks)
first-lexes [] values rest ks h v = v
first-lexes (c ∷ cs) values rest ks h v =
    let comma = codes "," in
    then-lexes (quoted (c ∷ cs) ++ comma) values rest (text (c ∷ cs) ∷ mark Comma ∷ []) ks
    (then-lexes (quoted (c ∷ cs)) comma (values ++ rest) (text (c ∷ cs) ∷ []) (mark Comma ∷ []) (quoted-lexes (c ∷ cs) (comma ++ (values ++ rest)) h.quotable)
    (mark-lexes Comma (values ++ rest))) v

-- a calendar year, before another byte than one of a number
year-lexes : (bp : ℤ) (rest : List ℕ) → IsInRange (spec.Exact bp) → in_number (slice_index rest 0) ≡ false
    → Lexes (signed_decimal (calendar_of bp)) rest (number (thousandths_of (calendar_of bp)) ∷ [])
year-lexes bp rest h e =
    subst (λ bytes. Lexes bytes rest (number (thousandths_of (calendar_of bp)) ∷ [])) (sym (whole-text (calendar_of bp)))
    (number-lexes (thousandths_of (calendar_of bp)) rest (year-decimal (calendar_of bp) (calendar-back bp h).0) e)

-- an error behind a number
error-lexes : (first rest : List ℕ) (z error : ℤ) → IsDecimal error
    → Lexes first (codes "," ++ (decimal_text error ++ (codes ")" ++ rest))) (number z ∷ [])
    → Lexes (first ++ codes "," ++ decimal_text error) (codes ")" ++ rest) (number z ∷ mark Comma ∷ number error ∷ [])
error-lexes first rest z error small h =
    let ends = codes ")" ++ rest in
    then-lexes (first ++ codes ",") (decimal_text error) ends (number z ∷ mark Comma ∷ []) (number error ∷ [])
    (then-lexes first (codes ",") (decimal_text error ++ ends) (number z ∷ []) (mark Comma ∷ []) h (mark-lexes Comma (decimal_text error ++ ends))) (number-lexes error ends small refl)

-- an error in range is a decimal
error-decimal : (error : ℤ) → pos 1000 ≤ℤ error → error ≤ℤ pos 10000000 → IsDecimal error
error-decimal error low high = (omega (arith, ints, low), omega (arith, ints, high))

-- the arguments of an event
arguments-lex : (name : Name) (dating : spec.Dating) (rest : List ℕ) → IsNodeName name → IsInRange dating
    → Lexes (arguments_text name dating) (codes ")" ++ rest) (tokens_of (given_for name dating))
arguments-lex name spec.Free rest h r =
    subst (λ bytes. Lexes bytes (codes ")" ++ rest) (tokens_of (named name))) (sym (append-nil (name_text name []))) (named-lexes name (codes ")" ++ rest) h)
arguments-lex name (spec.Exact year) rest h r =
    let ends = codes ")" ++ rest in
    first-lexes name (values_text (spec.Exact year)) ends (number (thousandths_of (calendar_of year)) ∷ []) h (year-lexes year ends r refl)
arguments-lex name (spec.Normal year error) rest h r =
    let ends = codes ")" ++ rest in
    let behind = codes "," ++ (decimal_text error ++ ends) in
    first-lexes name (values_text (spec.Normal year error)) ends (number (thousandths_of (calendar_of year)) ∷ mark Comma ∷ number error ∷ []) h
    (error-lexes (signed_decimal (calendar_of year)) rest (thousandths_of (calendar_of year)) error (error-decimal error r.some r.few) (year-lexes year behind r.year_is refl))
arguments-lex name (spec.Carbon age error) rest h r =
    let ends = codes ")" ++ rest in
    let behind = codes "," ++ (decimal_text error ++ ends) in
    let small : IsDecimal age = (omega (arith, ints, r.low), omega (arith, ints, r.high)) in
    first-lexes name (values_text (spec.Carbon age error)) ends (number age ∷ mark Comma ∷ number error ∷ []) h
    (error-lexes (decimal_text age) rest age error (error-decimal error r.some r.few) (number-lexes age behind small refl))

-- the word of an event is that of its command
word-same : (dating : spec.Dating) → word_of (command_for dating) ≡ word_of_dating dating
word-same spec.Free = refl
word-same (spec.Exact year) = refl
word-same (spec.Normal year error) = refl
word-same (spec.Carbon age error) = refl

-- the line that opens a group
opening-lexes : (depth : ℕ) (kind : spec.Kind) (name : Name) (rest : List ℕ) → IsNodeName name
    → Lexes (line depth (call_text (word_of_kind kind) (name_text name []) ++ codes "{")) rest (call (Group (kind_back kind)) (named name) ++ mark BraceOpen ∷ [])
opening-lexes depth kind name rest h =
    let c = Group (kind_back kind) in
    let ends = codes "\n" ++ rest in
    subst (λ k. Lexes (line depth (call_text (word_of_kind k) (name_text name []) ++ codes "{")) rest (call c (named name) ++ mark BraceOpen ∷ [])) (kind-again kind)
    (line-lexes depth (call_text (word_of c) (name_text name []) ++ codes "{") rest (call c (named name) ++ mark BraceOpen ∷ [])
    (then-lexes (call_text (word_of c) (name_text name [])) (codes "{") ends (call c (named name)) (mark BraceOpen ∷ [])
    (call-lexes c (named name) (name_text name []) (codes "{" ++ ends) (named-lexes name (codes ")" ++ (codes "{" ++ ends)) h)) (mark-lexes BraceOpen ends)))

-- the line that closes it
closing-lexes : (depth : ℕ) (rest : List ℕ)
    → Lexes (line depth (codes "};")) rest (mark BraceClose ∷ mark Semicolon ∷ [])
closing-lexes depth rest =
    let ends = codes "\n" ++ rest in
    line-lexes depth (codes "};") rest (mark BraceClose ∷ mark Semicolon ∷ [])
    (then-lexes (codes "}") (codes ";") ends (mark BraceClose ∷ []) (mark Semicolon ∷ []) (mark-lexes BraceClose (codes ";" ++ ends)) (mark-lexes Semicolon ends))

-- the tokens of a group, line by line
regrouped : (head body : List Kind) → ((head ++ mark BraceOpen ∷ []) ++ body) ++ (mark BraceClose ∷ mark Semicolon ∷ [])
    ≡ (head ++ mark BraceOpen ∷ (body ++ mark BraceClose ∷ [])) ++ mark Semicolon ∷ []
regrouped head body = simp append_assoc

-- the text of a statement has its tokens
mutual
  tree-lexes : (t : Tree) (depth : ℕ) (rest : List ℕ) → HasNodeNames t → All IsInRange (datings_of t)
      → Lexes (statement_text depth t) rest (tree_tokens t)
  tree-lexes (spec.Leaf name dating) depth rest h r =
      let arguments = arguments_text name dating in
      subst (λ w. Lexes (line depth (call_text w arguments ++ codes ";")) rest (tree_tokens (spec.Leaf name dating))) (word-same dating)
      (event-lexes depth (command_for dating) (given_for name dating) arguments rest (λ behind. arguments-lex name dating behind h (one-ranged dating r)))
  tree-lexes (spec.Boundary name) depth rest h r =
      event-lexes depth Boundary (named name) (name_text name []) rest (λ behind. named-lexes name (codes ")" ++ behind) h)
  tree-lexes (spec.Group kind name ts) depth rest h r =
      let head = call (Group (kind_back kind)) (named name) in
      let opening = line depth (call_text (word_of_kind kind) (name_text name []) ++ codes "{") in
      let body = statements_text (depth + 1) ts in
      let closing = line depth (codes "};") in
      let ends = mark BraceClose ∷ mark Semicolon ∷ [] in
      subst (λ ks. Lexes (opening ++ body ++ closing) rest ks) (regrouped head (trees_tokens ts))
      (then-lexes (opening ++ body) closing rest ((head ++ mark BraceOpen ∷ []) ++ trees_tokens ts) ends
      (then-lexes opening body (closing ++ rest) (head ++ mark BraceOpen ∷ []) (trees_tokens ts) (opening-lexes depth kind name (body ++ (closing ++ rest)) h.0)
      (trees-lex ts (depth + 1) (closing ++ rest) h.1 r)) (closing-lexes depth rest))

  pub trees-lex : (ts : Trees) (depth : ℕ) (rest : List ℕ) → HaveNodeNames ts → AreInRange ts
      → Lexes (statements_text depth ts) rest (trees_tokens ts)
  trees-lex none depth rest h r = none-lexes rest
  trees-lex (more t ts) depth rest h r =
      then-lexes (statement_text depth t) (statements_text depth ts) rest (tree_tokens t) (trees_tokens ts)
      (tree-lexes t depth (statements_text depth ts ++ rest) h.0 (All-left IsInRange (datings_of t) (datings_of_all ts) r))
      (trees-lex ts depth rest h.1 (All-right IsInRange (datings_of t) (datings_of_all ts) r))
