-- The text of a model is read as the model.
use Rattle.std.proofs.Common.{◌≡◌, ℕ, ◌+◌, ◌≤◌, Bool, true, false, leb, ◌&&◌, ◌||◌, List, [], ◌∷◌, ◌++◌, length, codes, Option, Some, None, refl, sym, ap, ◌∙◌, subst, arith}
use Rattle.std.proofs.lemmas.Bool.Decides.{nat_tests}
use Rattle.std.proofs.lemmas.List.{append-nil, map-append}
use Rattle.cg_meaning.specs.Tree.{Name, Trees, none, Chronology}
use Rattle.cg_model.specs.Limits.{IsModel}
use Rattle.cg_token.specs.Kind.{Kind, is_last, mark, ended}
use Rattle.cg_token.specs.declared.token.Mark.TheVariants.{Semicolon}
use Rattle.cg_token.specs.Cut.{cut}
use Rattle.cg_token.specs.Tokens.{Placed, AreCut, AreOthers, line_after, behind, tokens_in, kinds}
use Rattle.cg_token.specs.Lexing.{Lexes}
use Rattle.cg_token.proofs.CutLemmas.{both-true, cut-once}
use Rattle.cg_token.proofs.LexLemmas.{then-lexes, none-lexes, tokens-append}
use Rattle.cg_grammar.specs.declared.command.Command.TheVariants.{Curve}
use Rattle.cg_grammar.specs.declared.command.Base.TheVariants as bases
use Rattle.cg_grammar.specs.Arguments.{one, has_ending, with_ending, is_name, is_file, is_call, call}
use Rattle.cg_grammar.specs.Done.{Done, start, with_curve}
use Rattle.cg_grammar.specs.Grammar.{Are, empty, curve, IsScript}
use Rattle.cg_writing.specs.Text.{quoted, curve_text, statements_text, model_text}
use Rattle.cg_writing.specs.Law.{HaveNodeNames, IsFileName, NamesFile, IsWritable, WrittenIsRead}
use Rattle.cg_writing.proofs.TokenLemmas.{trees_tokens}
use Rattle.cg_writing.proofs.GrammarLemmas.{joined, all-joined, AllFit, trees-added}
use Rattle.cg_writing.proofs.TextLemmas.{event-lexes, quoted-lexes, trees-lex}

-- the tokens of the curve
abbrev curve_tokens : Option Name → List Kind
curve_tokens None = []
curve_tokens (Some file) = call Curve (one file) ++ mark Semicolon ∷ []

-- its line is read as them
curve-lexes : (named : Option Name) (rest : List ℕ) → NamesFile named
    → Lexes (curve_text named) rest (curve_tokens named)
curve-lexes None rest h = none-lexes rest
curve-lexes (Some file) rest h = event-lexes 0 Curve (one file) (quoted file) rest (λ behind. quoted-lexes file (codes ")" ++ behind) h.quotable)

-- a name with the ending isn't empty
ending-long : (name : Name) → has_ending name ≡ true → 4 ≤ length name
unfolding has_ending
ending-long name h =
    let long : leb 4 (length name) ≡ true = (both-true (leb 4 (length name)) _ h).0 in
    grind (arith, nat_tests)

-- the name of a file is one of the grammar's
file-true : (name : Name) → IsFileName name → is_file name ≡ true
file-true name h =
    let some = ending-long name h.ending in
    let short = h.quotable.short in
    let whole : length name + 0 ≤ 120 = omega (arith, short) in
    rw h.ending (grind (arith, nat_tests))

-- so is the call
file-call : (name : Name) → IsFileName name → is_call Curve (one name) ≡ true
file-call name h = by_test (is_name name) (file-true name h)
  where
    by_test : (q : Bool) → is_file name ≡ true → ((q || is_file name) && is_file name) ≡ true
    by_test true e = rw e refl
    by_test false e = rw e refl

-- the ending stands there
file-again : (name : Name) → IsFileName name → with_ending name ≡ name
unfolding with_ending
file-again name h = rw h.ending refl

-- what stands behind the line of the curve
abbrev begun : Option Name → Done
begun None = start
begun (Some file) = with_curve start file

-- the curve is a statement, or nothing
curve-are : (named : Option Name) → NamesFile named → Are bases.Script [] start (begun named) false (curve_tokens named)
curve-are None h = empty bases.Script [] start
curve-are (Some file) h =
    subst (λ name. Are bases.Script [] start (with_curve start name) false (curve_tokens (Some file))) (file-again file h)
    (curve bases.Script [] start start false [] (one file) (empty bases.Script [] start) refl (file-call file h))

-- there is room for a model
model-fits : (named : Option Name) (top : Trees) → IsModel top → HaveNodeNames top → AllFit [] (begun named) top
model-fits None top h names = record {
  events = omega (arith, h.limits.events);
  groups = omega (arith, h.limits.groups);
  depth = omega (arith, h.limits.depth);
  placed = h.placed;
  ranged = h.ranged;
  names = names;
}
model-fits (Some file) top h names = record {
  events = omega (arith, h.limits.events);
  groups = omega (arith, h.limits.groups);
  depth = omega (arith, h.limits.depth);
  placed = h.placed;
  ranged = h.ranged;
  names = names;
}

-- the curve that is named
begun-curve : (named : Option Name) → (begun named).curve ≡ named
begun-curve None = refl
begun-curve (Some file) = refl

-- no members stand before the top statements
begun-members : (named : Option Name) → (begun named).members ≡ none
begun-members None = refl
begun-members (Some file) = refl

-- the tokens of a model and the end are a script
model-script : (c : Chronology) → IsModel c.top → IsWritable c
    → IsScript c ((curve_tokens c.curve ++ trees_tokens c.top) ++ ended ∷ [])
model-script c h writable =
    let added = trees-added c.top [] start (begun c.curve) false (curve_tokens c.curve) (curve-are c.curve writable.file) (model-fits c.curve c.top h writable.names) in
    record {
      left = added.left;
      brace = added.brace;
      body = curve_tokens c.curve ++ trees_tokens c.top;
      statements = added.statements;
      top = added.members ∙ ap (λ ts. joined ts c.top) (begun-members c.curve) ∙ all-joined c.top;
      curve = added.curve ∙ begun-curve c.curve;
      whole = refl;
    }

-- the text of a model is read as its tokens
model-lexes : (c : Chronology) → IsModel c.top → IsWritable c
    → Lexes (model_text c) [] (curve_tokens c.curve ++ trees_tokens c.top)
model-lexes c h writable =
    then-lexes (curve_text c.curve) (statements_text 0 c.top) [] (curve_tokens c.curve) (trees_tokens c.top)
    (curve-lexes c.curve (statements_text 0 c.top ++ []) writable.file) (trees-lex c.top 0 [] writable.names h.ranged)

-- no bytes are the end
end-cut : (line : ℕ) (ts : List Placed) → AreCut line [] ts → kinds (tokens_in ts) ≡ ended ∷ []
unfolding cut
end-cut line [] h = absurd h
end-cut line (t ∷ ts) h =
    let no_others : ts ≡ [] = subst (λ q. AreOthers q ts (AreCut (line_after line []) (behind []) ts)) (ap is_last h.0) h.2 in
    ap (λ us. kinds (tokens_in (t ∷ us))) no_others ∙ by_kind t.kind h.0 refl
  where
    by_kind : (k : Kind) → k ≡ ended → t.kind ≡ k → kinds (tokens_in (t ∷ [])) ≡ ended ∷ []
    by_kind k e s = rw (s, e) refl

-- what is written is read
pub written-is-read : WrittenIsRead
unfolding Lexes
written-is-read c h writable =
    let pieces = cut-once 1 (model_text c) in
    let found = model-lexes c h writable 1 pieces.pieces (rw append-nil pieces.cut) in
    let last = end-cut found.line found.others found.next in
    let same : kinds (tokens_in pieces.pieces) ≡ (curve_tokens c.curve ++ trees_tokens c.top) ++ ended ∷ [] =
    ap (λ ts. kinds (tokens_in ts)) found.whole ∙ ap kinds (tokens-append found.front found.others)
    ∙ map-append (λ (t : Placed). t.kind) (tokens_in found.front) (tokens_in found.others) ∙ rw (found.same, last) refl in
    record { pieces = pieces.pieces; cut = pieces.cut; grammar = subst (IsScript c) (sym same) (model-script c h writable) }
