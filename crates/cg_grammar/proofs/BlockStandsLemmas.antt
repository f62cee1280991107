-- Where a statement may begin: each token that is taken there belongs to what is spelled.
use Rattle.std.proofs.Common.{◌≡◌, ℕ, Bool, true, false, List, [], ◌∷◌, ◌++◌, Option, Some, None, Ok, refl, sym, ap, ◌∙◌, append_assoc, subst, cond}
use Rattle.cg_token.specs.Kind.{Kind, word, mark, ended}
use Rattle.cg_token.specs.declared.token.Mark.TheVariants.{BraceOpen, BraceClose, Semicolon}
use Rattle.cg_grammar.specs.declared.command.Command.{Command}
use Rattle.cg_grammar.specs.declared.command.Command.TheVariants.{Group, Plot}
use Rattle.cg_grammar.specs.declared.command.Base.{Base}
use Rattle.cg_grammar.specs.declared.command.Base.TheVariants as bases
use Rattle.cg_grammar.specs.declared.fault.CqlCause.{CqlCause}
use Rattle.cg_grammar.specs.declared.fault.CqlCause.TheVariants as causes
use Rattle.cg_grammar.specs.Words.{word_of, command_of}
use Rattle.cg_grammar.specs.Arguments.{call}
use Rattle.cg_grammar.specs.Done.{Done, start, with_group, is_none, is_over, barred}
use Rattle.cg_grammar.specs.Grammar.{Are, group, semicolon, plot}
use Rattle.cg_grammar.specs.Steps.{called, complete, Frame, state, path_of, refuse, unless, begin, at_brace, at_end, at_item, at_closed}
use Rattle.cg_grammar.proofs.StandsLemmas.{Before, script, single, in_plot, in_group, Whole, Lands, more-whole}
use Rattle.cg_grammar.proofs.WordLemmas.{command-is}

-- the word of a command that may be barred
bar_lands : (r : Option CqlCause) (w : List ℕ) (c : Command) (b : Base) (fs : List Frame) (d : Done) (e : Bool) (ts : List Kind) → Whole b fs d e ts → is_over b (path_of fs) d ≡ false
    → w ≡ word_of c → barred b (path_of fs) d c ≡ r → Lands (unless r (state b fs d (called c))) (ts ++ word w ∷ [])
bar_lands None w c b fs d e ts h o is free = record { brace = e; head = ts; statements = h; more_may = o; free = free; whole = ap (λ (x : List ℕ). ts ++ word x ∷ []) is }
bar_lands (Some r) w c b fs d e ts h o is free = tt

-- a word that may be no command
begin_lands : (m : Option Command) (w : List ℕ) (b : Base) (fs : List Frame) (d : Done) (e : Bool) (ts : List Kind) → Whole b fs d e ts → is_over b (path_of fs) d ≡ false
    → command_of w ≡ m → Lands (begin m w b fs d) (ts ++ word w ∷ [])
begin_lands None w b fs d e ts h o is = tt
begin_lands (Some c) w b fs d e ts h o is = bar_lands (barred b (path_of fs) d c) w c b fs d e ts h o (command-is w c is) refl

-- a word where the one statement may be over
over_lands : (q : Bool) (w : List ℕ) (b : Base) (fs : List Frame) (d : Done) (e : Bool) (ts : List Kind) → Whole b fs d e ts → is_over b (path_of fs) d ≡ q
    → Lands (cond q (refuse causes.Syntax) (begin (command_of w) w b fs d)) (ts ++ word w ∷ [])
over_lands true w b fs d e ts h o = tt
over_lands false w b fs d e ts h o = begin_lands (command_of w) w b fs d e ts h o refl

-- tokens in brackets of three
regroup : (a b c y : List Kind) (t : Kind) → (a ++ (b ++ (c ++ t ∷ []))) ++ y ≡ a ++ (b ++ (c ++ t ∷ y))
regroup a b c y t = simp append_assoc refl

-- and of two
regroup_two : (b c y : List Kind) (t : Kind) → (b ++ (c ++ t ∷ [])) ++ y ≡ b ++ (c ++ t ∷ y)
regroup_two b c y t = simp append_assoc refl

-- a group is whole at its brace
group_ends : {b : Base} {f : Frame} {fs : List Frame} {from : Done} {front : List Kind} → Before b (f ∷ fs) from front → (d : Done) (e : Bool) (body : List Kind) → Are b (f.kind ∷ path_of fs) from d e body
    → Whole b fs (with_group f.before f.kind f.name d) true (front ++ (body ++ mark BraceClose ∷ []))
group_ends (in_group b fs d0 d1 e1 k front t g before are o free is) d e body inner = record {
  from = d0;
  front = front;
  body = k ++ (call (Group t) g ++ mark BraceOpen ∷ (body ++ mark BraceClose ∷ []));
  before = before;
  statements = group b (path_of fs) d0 d1 d e1 e k body t g are o free is inner;
  whole = regroup front k (call (Group t) g) (body ++ mark BraceClose ∷ []) (mark BraceOpen);
}

-- and a Plot
plot_ends : {from : Done} {front : List Kind} → Before bases.Plot [] from front → (d : Done) (e : Bool) (body : List Kind) → Are bases.Plot [] from d e body
    → Whole bases.Script [] d true (front ++ (body ++ mark BraceClose ∷ []))
plot_ends (in_plot d1 e1 k g are is) d e body inner = record {
  from = start;
  front = [];
  body = k ++ (call Plot g ++ mark BraceOpen ∷ (body ++ mark BraceClose ∷ []));
  before = script;
  statements = plot start d1 d e1 e k body g are is inner;
  whole = regroup_two k (call Plot g) (body ++ mark BraceClose ∷ []) (mark BraceOpen);
}

-- a closing brace
brace_lands : (b : Base) (fs : List Frame) (d : Done) (e : Bool) (ts : List Kind) → Whole b fs d e ts → Lands (at_brace b fs d) (ts ++ mark BraceClose ∷ [])
brace_lands b (f ∷ fs) d e ts h =
    subst (λ (x : List Kind). Whole b fs (with_group f.before f.kind f.name d) true x) (sym (append_assoc h.front h.body (mark BraceClose ∷ [])) ∙ ap (λ (x : List Kind). x ++ mark BraceClose ∷ []) (sym h.whole))
    (group_ends h.before d e h.body h.statements)
brace_lands bases.Plot [] d e ts h =
    subst (λ (x : List Kind). Whole bases.Script [] d true x) (sym (append_assoc h.front h.body (mark BraceClose ∷ [])) ∙ ap (λ (x : List Kind). x ++ mark BraceClose ∷ []) (sym h.whole))
    (plot_ends h.before d e h.body h.statements)
brace_lands bases.Script [] d e ts h = tt
brace_lands bases.Single [] d e ts h = tt

-- nothing stands before a script
pub script-from : {from : Done} {front : List Kind} → Before bases.Script [] from front → (from ≡ start) × (front ≡ [])
script-from script = (refl, refl)

-- nor before a statement that stands alone
pub single-from : {from : Done} {front : List Kind} → Before bases.Single [] from front → (from ≡ start) × (front ≡ [])
single-from single = (refl, refl)

-- the end behind a statement that stands alone
single_end : (q : Bool) (d : Done) (e : Bool) (ts body : List Kind) → Are bases.Single [] start d e body → ts ≡ body → is_none d.members ≡ q
    → Lands (cond q (refuse causes.Syntax) (Ok (state bases.Single [] d complete))) (ts ++ ended ∷ [])
single_end true d e ts body are is un = tt
single_end false d e ts body are is un = (e, body, are, un, ap (λ (x : List Kind). x ++ ended ∷ []) is)

-- the end
end_lands : (b : Base) (fs : List Frame) (d : Done) (e : Bool) (ts : List Kind) → Whole b fs d e ts → Lands (at_end b fs d) (ts ++ ended ∷ [])
end_lands b (f ∷ fs) d e ts h = tt
end_lands bases.Plot [] d e ts h = tt
end_lands bases.Script [] d e ts h =
    let p = script-from h.before in
    (e, h.body, subst (λ (x : Done). Are bases.Script [] x d e h.body) p.0 h.statements, ap (λ (x : List Kind). x ++ ended ∷ []) (h.whole ∙ ap (λ (x : List Kind). x ++ h.body) p.1))
end_lands bases.Single [] d e ts h =
    let p = single-from h.before in
    single_end (is_none d.members) d e ts h.body (subst (λ (x : Done). Are bases.Single [] x d e h.body) p.0 h.statements) (h.whole ∙ ap (λ (x : List Kind). x ++ h.body) p.1) refl

-- a token where a statement may begin
pub item-lands : (t : Kind) (b : Base) (fs : List Frame) (d : Done) (e : Bool) (ts : List Kind) → Whole b fs d e ts → Lands (at_item t b fs d) (ts ++ t ∷ [])
item-lands (word w) b fs d e ts h = over_lands (is_over b (path_of fs) d) w b fs d e ts h refl
item-lands (mark BraceClose) b fs d e ts h = brace_lands b fs d e ts h
item-lands ended b fs d e ts h = end_lands b fs d e ts h
item-lands t b fs d e ts h = tt

-- a token behind a closing brace
pub closed-lands : (t : Kind) (b : Base) (fs : List Frame) (d : Done) (ts : List Kind) → Whole b fs d true ts → Lands (at_closed t b fs d) (ts ++ t ∷ [])
closed-lands (mark Semicolon) b fs d ts h = more-whole b fs d d true false ts (mark Semicolon ∷ []) h (semicolon b (path_of fs) h.from d h.body h.statements)
closed-lands t b fs d ts h = item-lands t b fs d true ts h
