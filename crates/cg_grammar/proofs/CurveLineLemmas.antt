-- The curve of a chronology is the first name that its tokens give.
use Rattle.std.proofs.Common.{◌≡◌, ℕ, ◌+◌, Bool, true, false, cond, List, [], ◌∷◌, ◌++◌, Option, Some, None, append_assoc, add-one, refl, sym, ap, ◌∙◌, subst, codes, bytes_eq, option_map, slice_get, is_some, IsSome, ◌↔◌}
use Rattle.std.specs.Option.{option_or, option_and_then}
use Rattle.std.proofs.lemmas.Option.{slice_get-map}
use Rattle.std.proofs.lemmas.Slice.Eq.{bytes_eq-Decides}
use Rattle.cg_meaning.specs.Tree.{Name, Chronology}
use Rattle.cg_token.specs.Kind.{Kind, word, text, number, mark, ended}
use Rattle.cg_token.specs.Tokens.{Placed, AreCut, tokens_in, kinds}
use Rattle.cg_token.specs.declared.token.Mark.TheVariants.{ParenOpen, ParenClose, BraceOpen, BraceClose, Comma, Semicolon, Equals}
use Rattle.cg_token.proofs.CutLemmas.{cut-once, same-pieces, both-true}
use Rattle.cg_model.specs.declared.group.GroupKind.{GroupKind}
use Rattle.cg_model.specs.declared.group.GroupKind.TheVariants.{Sequence, Phase, After, Before}
use Rattle.cg_grammar.specs.declared.command.Command.{Command}
use Rattle.cg_grammar.specs.declared.command.Command.TheVariants.{Date, Boundary, CDate, RDate, Group, Plot, Options, Curve}
use Rattle.cg_grammar.specs.declared.command.Setting.{Setting}
use Rattle.cg_grammar.specs.declared.command.Setting.TheVariants as settings
use Rattle.cg_grammar.specs.declared.command.Base.{Base}
use Rattle.cg_grammar.specs.Words.{word_of, setting_of, is_off, is_ignored}
use Rattle.cg_grammar.specs.Arguments.{text_first, Given, nothing, one, two, value, values, tokens_of, call, is_call, fits, file_in, with_ending}
use Rattle.cg_grammar.specs.Done.{Done, curve_limit, placed_if, is_top, parent, is_event, barred_setting}
use Rattle.cg_grammar.specs.Grammar.{Takes, set, AreSettings, no_setting, setting, Are, empty, event, group, semicolon, curve, options, plot, IsScript}
use Rattle.cg_grammar.specs.Text.{Spells}
use Rattle.cg_grammar.specs.CurveLine.{is_curve, place_behind, name_place, curve_name, curve_of, IsCurveLine, HasOneCurveLine}

-- the curve at a place
abbrev curve_at : List Kind → Option ℕ → Option Name
curve_at ks p = option_map curve_of (option_and_then (λ n. slice_get ks n) p)

-- the curve that tokens name
unfoldable named : List Kind → Option Name
named ks = curve_at ks (name_place ks)

-- a place behind one token more
behind : (k : Kind) (ks : List Kind) (p : Option ℕ) → curve_at (k ∷ ks) (option_map (λ n. n + 1) p) ≡ curve_at ks p
behind k ks None = refl
behind k ks (Some n) = rw add-one refl

-- where the name stands, from whether it is behind the first token
place_is : (k : Kind) (ks : List Kind) (p : Option ℕ) → cond (is_curve k) (place_behind ks) None ≡ p → name_place (k ∷ ks) ≡ option_map (λ n. n + 1) (option_or p (name_place ks))
place_is k ks p h = rw h refl

-- no name is behind a token
pass : (k : Kind) (ks : List Kind) → cond (is_curve k) (place_behind ks) None ≡ None → named (k ∷ ks) ≡ named ks
unfolding named
pass k ks h = rw (place_is k ks None h) (behind k ks (name_place ks))

-- the name is behind a token
found : (k : Kind) (ks : List Kind) (n : ℕ) → cond (is_curve k) (place_behind ks) None ≡ Some n → named (k ∷ ks) ≡ curve_at ks (Some n)
unfolding named
found k ks n h = rw (place_is k ks (Some n) h) (behind k ks (Some n))

-- what is named, or else what comes behind it
abbrev Leads : Option Name → Option Name → List Kind → Type 0
Leads from to ks = (rest : List Kind) → option_or from (named (ks ++ rest)) ≡ option_or to (named rest)

-- tokens behind others
then : (a b c : Option Name) (ks js : List Kind) → Leads a b ks → Leads b c js → Leads a c (ks ++ js)
then a b c ks js p q = λ rest. rw append_assoc (p (js ++ rest) ∙ q rest)

-- a token that is not the word Curve
skip : (c : Option Name) (k : Kind) → is_curve k ≡ false → Leads c c (k ∷ [])
skip c k h = λ rest. ap (λ x. option_or c x) (pass k rest (rw h refl))

-- a text, or none, and what comes behind its comma
skip_first : (c : Option Name) (name : Option (List ℕ)) (ks : List Kind) → Leads c c ks → Leads c c (text_first name ks)
skip_first c None ks h = h
skip_first c (Some n) ks h = then c c c (text n ∷ mark Comma ∷ []) ks (then c c c (text n ∷ []) (mark Comma ∷ []) (skip c _ refl) (skip c _ refl)) h

-- arguments
skip_arguments : (c : Option Name) (g : Given) → Leads c c (tokens_of g)
skip_arguments c nothing = λ rest. refl
skip_arguments c (one n) = skip c _ refl
skip_arguments c (two n m) = then c c c (text n ∷ mark Comma ∷ []) (text m ∷ []) (then c c c (text n ∷ []) (mark Comma ∷ []) (skip c _ refl) (skip c _ refl)) (skip c _ refl)
skip_arguments c (value n a) = skip_first c n _ (skip c _ refl)
skip_arguments c (values n a z) = skip_first c n _ (then c c c (number a ∷ mark Comma ∷ []) (number z ∷ []) (then c c c (number a ∷ []) (mark Comma ∷ []) (skip c _ refl) (skip c _ refl)) (skip c _ refl))

-- a statement of another command, up to its last parenthesis
skip_call : (c : Option Name) (x : Command) (g : Given) → is_curve (word (word_of x)) ≡ false → Leads c c (call x g)
skip_call c x g h =
    then c c c (word (word_of x) ∷ mark ParenOpen ∷ []) (tokens_of g ++ mark ParenClose ∷ []) (then c c c (word (word_of x) ∷ []) (mark ParenOpen ∷ []) (skip c _ h) (skip c _ refl))
    (then c c c (tokens_of g) (mark ParenClose ∷ []) (skip_arguments c g) (skip c _ refl))

-- of a group
group_word : (t : GroupKind) → is_curve (word (word_of (Group t))) ≡ false
group_word Sequence = refl
group_word Phase = refl
group_word After = refl
group_word Before = refl

-- of an event
event_word : (x : Command) → is_event x ≡ true → is_curve (word (word_of x)) ≡ false
event_word Date h = refl
event_word Boundary h = refl
event_word CDate h = refl
event_word RDate h = refl
event_word (Group t) h = absurd cc
event_word Plot h = absurd cc
event_word Options h = absurd cc
event_word Curve h = absurd cc

-- a Curve may stand where none is named yet
none_yet : (q : Bool) (c : Option Name) → placed_if q (curve_limit (is_some c)) ≡ None → c ≡ None
none_yet true None h = refl
none_yet true (Some c) h = absurd cc
none_yet false c h = absurd cc

-- a Curve names its last text
curve_call : (g : Given) → is_call Curve g ≡ true → Leads None (Some (file_in g)) (call Curve g)
unfolding named
curve_call (one n) h = λ rest. found (word (codes "Curve")) (mark ParenOpen ∷ text n ∷ mark ParenClose ∷ rest) 1 refl
curve_call (two n m) h = λ rest. found (word (codes "Curve")) (mark ParenOpen ∷ text n ∷ mark Comma ∷ text m ∷ mark ParenClose ∷ rest) 3 refl
curve_call nothing h = absurd cc
curve_call (value n a) h = absurd (let p = (both-true (fits Curve (value n a)) false h).1 in cc)
curve_call (values n a z) h = absurd (let p = (both-true (fits Curve (values n a z)) false h).1 in cc)

-- whether an option is Curve
abbrev is_curve_setting : Setting → Bool
is_curve_setting settings.Curve = true
is_curve_setting _ = false

-- an option of another word than Curve
other_setting : (off fine ignored : Bool) (s : Setting)
    → cond off (Some settings.False) (cond fine (Some settings.One) (cond ignored (Some settings.Ignored) None)) ≡ Some s → false ≡ is_curve_setting s
other_setting true fine ignored s h = cc
other_setting false true ignored s h = cc
other_setting false false true s h = cc
other_setting false false false s h = absurd cc

-- an option is Curve where its word is
setting_if : (q : Bool) (w : List ℕ) (s : Setting) → bytes_eq w (codes "Curve") ≡ q → setting_of w ≡ Some s → q ≡ is_curve_setting s
unfolding setting_of
setting_if true w s e h =
    let same : w ≡ codes "Curve" = (bytes_eq-Decides w (codes "Curve")).0 e in
    let is : Some settings.Curve ≡ Some s = ap setting_of (sym same) ∙ h in
    cc
setting_if false w s e h = other_setting (is_off w) (bytes_eq w (codes "Resolution")) (is_ignored w) s (sym (rw e refl) ∙ h)

-- either way nothing
no_place : (q : Bool) → let none : Option ℕ = None in cond q none none ≡ none
no_place true = refl
no_place false = refl

-- an option of another word
other_option : (c : Option Name) (w : List ℕ) (v : Kind) → is_curve (word w) ≡ false → Leads c c (word w ∷ mark Equals ∷ v ∷ mark Semicolon ∷ [])
other_option c w v h =
    then c c c (word w ∷ mark Equals ∷ []) (v ∷ mark Semicolon ∷ []) (then c c c (word w ∷ []) (mark Equals ∷ []) (skip c _ h) (skip c _ refl))
    (λ rest. ap (λ x. option_or c x) (pass v (mark Semicolon ∷ rest) (no_place (is_curve v)) ∙ pass (mark Semicolon) rest refl))

-- an option Curve
curve_option : (c : Option Name) (w n : List ℕ) → c ≡ None → is_curve (word w) ≡ true → Leads c (Some (with_ending n)) (word w ∷ mark Equals ∷ text n ∷ mark Semicolon ∷ [])
unfolding named
curve_option c w n e h = λ rest. rw e (found (word w) (mark Equals ∷ text n ∷ mark Semicolon ∷ rest) 1 (rw h refl))

-- an option
option_leads : (w : List ℕ) (s : Setting) (v : Kind) (d : Done) → setting_of w ≡ Some s → barred_setting s d ≡ None → Takes s v
    → Leads d.curve (set s v d).curve (word w ∷ mark Equals ∷ v ∷ mark Semicolon ∷ [])
option_leads w settings.Curve v d is free takes =
    rw takes.1 (curve_option d.curve w takes.0 (none_yet true d.curve free) (setting_if (bytes_eq w (codes "Curve")) w settings.Curve refl is))
option_leads w settings.False v d is free takes = other_option d.curve w v (setting_if (bytes_eq w (codes "Curve")) w settings.False refl is)
option_leads w settings.One v d is free takes = other_option d.curve w v (setting_if (bytes_eq w (codes "Curve")) w settings.One refl is)
option_leads w settings.Ignored v d is free takes = other_option d.curve w v (setting_if (bytes_eq w (codes "Curve")) w settings.Ignored refl is)

-- options
options_lead : {d0 d : Done} {k : List Kind} → AreSettings d0 d k → Leads d0.curve d.curve k
options_lead (no_setting d) = λ rest. refl
options_lead (setting d0 d k w s v front is free takes) =
    then d0.curve d.curve (set s v d).curve k (word w ∷ mark Equals ∷ v ∷ mark Semicolon ∷ []) (options_lead front) (option_leads w s v d is free takes)

-- a block of a command
block : (a b c : Option Name) (k body : List Kind) (x : Command) (g : Given) → is_curve (word (word_of x)) ≡ false → Leads a b k → Leads b c body → Leads a c (k ++ (call x g ++ mark BraceOpen ∷ (body ++ mark BraceClose ∷ [])))
block a b c k body x g h p q =
    then a b c k (call x g ++ mark BraceOpen ∷ (body ++ mark BraceClose ∷ [])) p
    (then b b c (call x g) (mark BraceOpen ∷ (body ++ mark BraceClose ∷ [])) (skip_call b x g h)
    (then b b c (mark BraceOpen ∷ []) (body ++ mark BraceClose ∷ []) (skip b _ refl)
    (then b c c body (mark BraceClose ∷ []) q (skip c _ refl))))

-- a statement that ends in a semicolon
ended_by : (a b c : Option Name) (k : List Kind) (x : Command) (g : Given) → Leads a b k → Leads b c (call x g) → Leads a c (k ++ (call x g ++ mark Semicolon ∷ []))
ended_by a b c k x g p q = then a b c k (call x g ++ mark Semicolon ∷ []) p (then b c c (call x g) (mark Semicolon ∷ []) q (skip c _ refl))

-- statements
are_lead : {b : Base} {p : List GroupKind} {d0 d : Done} {e : Bool} {k : List Kind} → Are b p d0 d e k → Leads d0.curve d.curve k
are_lead (empty b p d) = λ rest. refl
are_lead (event b p d0 d e k c g front o free is whole) = ended_by d0.curve d.curve d.curve k c g (are_lead front) (skip_call d.curve c g (event_word c is))
are_lead (group b p d0 d d1 e e1 k body t g front o free whole inner) =
    block d0.curve d.curve d1.curve k body (Group t) g (group_word t) (are_lead front) (are_lead inner)
are_lead (semicolon b p d0 d k front) = then d0.curve d.curve d.curve k (mark Semicolon ∷ []) (are_lead front) (skip d.curve _ refl)
are_lead (curve b p d0 d e k g front free whole) =
    let none : d.curve ≡ None = none_yet (is_top b (parent p)) d.curve free in
    ended_by d0.curve d.curve (Some (file_in g)) k Curve g (are_lead front) (rw none (curve_call g whole))
are_lead (options b p d0 d d1 e k body g front free whole inner) = block d0.curve d.curve d1.curve k body Options g refl (are_lead front) (options_lead inner)
are_lead (plot d0 d d1 e e1 k body g front whole inner) = block d0.curve d.curve d1.curve k body Plot g refl (are_lead front) (are_lead inner)

-- the end names none
end_leads : (c : Option Name) → option_or c (named (ended ∷ [])) ≡ c
unfolding named
end_leads None = refl
end_leads (Some c) = refl

-- the curve of a script
script_curve : (c : Chronology) (ks : List Kind) → IsScript c ks → named ks ≡ c.curve
script_curve c ks s = ap named s.whole ∙ are_lead s.statements (ended ∷ []) ∙ end_leads s.left.curve ∙ s.curve

-- one map behind another
map_twice : (t : Option Placed) → option_map (λ (x : Placed). curve_of x.kind) t ≡ option_map curve_of (option_map (λ (x : Placed). x.kind) t)
map_twice None = refl
map_twice (Some t) = refl

-- the same from tokens with their lines
place_curve : (ts : List Placed) (p : Option ℕ) → option_map (λ (t : Placed). curve_of t.kind) (option_and_then (λ n. slice_get ts n) p) ≡ curve_at (kinds ts) p
place_curve ts None = refl
place_curve ts (Some n) = rw slice_get-map (map_twice (slice_get ts n))

-- the token that names the curve
pub spelled-curve : (bytes : List ℕ) (c : Chronology) (ts : List Placed) → AreCut 1 bytes ts → Spells bytes c → c.curve ≡ option_map (λ token. curve_of token.kind) (curve_name (tokens_in ts))
unfolding named
spelled-curve bytes c ts cut s =
    let same : s.pieces ≡ ts = same-pieces s.pieces ts 1 bytes s.cut cut in
    let grammar : IsScript c (kinds (tokens_in ts)) = subst (λ (x : List Placed). IsScript c (kinds (tokens_in x))) same s.grammar in
    sym (place_curve (tokens_in ts) (name_place (kinds (tokens_in ts))) ∙ script_curve c (kinds (tokens_in ts)) grammar)

-- a token is there or none
some_token : (t : Option Placed) → is_some (option_map (λ (x : Placed). x.line) t) ≡ is_some (option_map (λ (x : Placed). curve_of x.kind) t)
some_token None = refl
some_token (Some t) = refl

-- there is a line where there is a curve
pub line-where-curve : (bytes : List ℕ) (line : Option ℕ) (c : Chronology) → IsCurveLine bytes line → Spells bytes c → (IsSome line ↔ IsSome c.curve)
line-where-curve bytes line c is s =
    let both : is_some line ≡ is_some c.curve = ap is_some is.told ∙ some_token (curve_name (tokens_in is.pieces)) ∙ ap is_some (sym (spelled-curve bytes c is.pieces is.cut s)) in
    (λ h. sym both ∙ h, λ h. both ∙ h)

-- each list of bytes names its curve on one line or on none
pub each-curve-line : (bytes : List ℕ) → HasOneCurveLine bytes
each-curve-line bytes =
    let c = cut-once 1 bytes in
    record {
      line = option_map (λ (t : Placed). t.line) (curve_name (tokens_in c.pieces));
      here = record { pieces = c.pieces; cut = c.cut; told = refl };
      one = λ other is. is.told ∙ ap (λ (x : List Placed). option_map (λ (t : Placed). t.line) (curve_name (tokens_in x))) (same-pieces is.pieces c.pieces 1 bytes is.cut c.cut);
      curve = λ chronology s. spelled-curve bytes chronology c.pieces c.cut s;
    }
