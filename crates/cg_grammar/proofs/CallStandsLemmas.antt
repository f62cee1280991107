-- Behind the closing parenthesis: each token that is taken there belongs to what is spelled.
use Rattle.std.proofs.Common.{◌≡◌, true, false, List, [], ◌∷◌, ◌++◌, Some, None, refl, sym, ap, ◌∙◌, append_assoc, subst}
use Rattle.std.proofs.lemmas.List.{append-nil}
use Rattle.cg_token.specs.Kind.{Kind, mark}
use Rattle.cg_token.specs.declared.token.Mark.TheVariants.{BraceOpen, Semicolon}
use Rattle.cg_model.specs.declared.group.GroupKind.{GroupKind}
use Rattle.cg_grammar.specs.declared.command.Command.{Command}
use Rattle.cg_grammar.specs.declared.command.Command.TheVariants.{Date, Boundary, CDate, RDate, Group, Plot, Options, Curve}
use Rattle.cg_grammar.specs.declared.command.Base.{Base}
use Rattle.cg_grammar.specs.declared.command.Base.TheVariants as bases
use Rattle.cg_grammar.specs.declared.fault.CqlCause.TheVariants as causes
use Rattle.cg_grammar.specs.Arguments.{Given, is_call, call, event_in, name_in, file_in}
use Rattle.cg_grammar.specs.Done.{Done, with_event, opened, with_curve, is_event}
use Rattle.cg_grammar.specs.Grammar.{no_setting, Are, empty, event, curve}
use Rattle.cg_grammar.specs.Steps.{Frame, path_of, at_ready}
use Rattle.cg_grammar.proofs.StandsLemmas.{in_plot, in_group, Whole, Calls, Sets, Lands, more-calls, more-whole}
use Rattle.cg_grammar.proofs.BlockStandsLemmas.{script-from}

-- how what stands before a block is put together
heads : (a b c new head ts : List Kind) → head ≡ a ++ b → ts ≡ head ++ c → ts ++ new ≡ (a ++ (b ++ (c ++ new))) ++ []
heads a b c new head ts h e = rw (e, h) (simp (append_assoc, append-nil) refl)

-- the brace of a group
into_group : (t : GroupKind) (g : Given) (b : Base) (fs : List Frame) (d : Done) (ts : List Kind) → is_call (Group t) g ≡ true → Calls b fs d (Group t) (call (Group t) g) ts
    → Whole b (record { kind = t; name = name_in g; before = d.members } ∷ fs) (opened d) false (ts ++ mark BraceOpen ∷ [])
into_group t g b fs d ts is h =
    let w = h.statements in
    record {
      from = opened d;
      front = w.front ++ (w.body ++ (call (Group t) g ++ mark BraceOpen ∷ []));
      body = [];
      before = in_group b fs w.from d h.brace w.body w.front t g w.before w.statements h.more_may h.free is;
      statements = empty b (t ∷ path_of fs) (opened d);
      whole = heads w.front w.body (call (Group t) g) (mark BraceOpen ∷ []) h.head ts w.whole h.whole;
    }

-- the brace of a Plot
into_plot : (g : Given) (b : Base) (fs : List Frame) (d : Done) (ts : List Kind) → is_call Plot g ≡ true → Calls b fs d Plot (call Plot g) ts → Whole bases.Plot fs d false (ts ++ mark BraceOpen ∷ [])
into_plot g bases.Script [] d ts is h =
    let w = h.statements in
    let p = script-from w.before in
    let from_start : w.front ++ w.body ≡ w.body = ap (λ (x : List Kind). x ++ w.body) p.1 in
    record {
      from = d;
      front = w.body ++ (call Plot g ++ mark BraceOpen ∷ []);
      body = [];
      before = in_plot d h.brace w.body g (subst (λ (x : Done). Are bases.Script [] x d h.brace w.body) p.0 w.statements) is;
      statements = empty bases.Plot [] d;
      whole = heads [] w.body (call Plot g) (mark BraceOpen ∷ []) h.head ts (w.whole ∙ from_start) h.whole;
    }
into_plot g bases.Script (f ∷ fs) d ts is h = absurd (let e : Some causes.Place ≡ None = h.free in cc)
into_plot g bases.Plot [] d ts is h = absurd (let e : Some causes.Place ≡ None = h.free in cc)
into_plot g bases.Plot (f ∷ fs) d ts is h = absurd (let e : Some causes.Place ≡ None = h.free in cc)
into_plot g bases.Single [] d ts is h = absurd (let e : Some causes.Place ≡ None = h.free in cc)
into_plot g bases.Single (f ∷ fs) d ts is h = absurd (let e : Some causes.Place ≡ None = h.free in cc)

-- the brace of Options
into_options : (g : Given) (b : Base) (fs : List Frame) (d : Done) (ts : List Kind) → is_call Options g ≡ true → Calls b fs d Options (call Options g) ts → Sets b fs d [] (ts ++ mark BraceOpen ∷ [])
into_options g b fs d ts is h = record {
  before = d;
  given = g;
  settings = [];
  head = ts ++ mark BraceOpen ∷ [];
  call_is = is;
  called = more-calls b fs d Options (call Options g) ts (mark BraceOpen ∷ []) h;
  are = no_setting d;
  whole = sym (append-nil (ts ++ mark BraceOpen ∷ []));
}

-- the semicolon of an event
past_event : (c : Command) (g : Given) (b : Base) (fs : List Frame) (d : Done) (ts : List Kind) → is_event c ≡ true → is_call c g ≡ true → Calls b fs d c (call c g) ts
    → Whole b fs (with_event d (event_in c g)) false (ts ++ mark Semicolon ∷ [])
past_event c g b fs d ts event_is is h =
    let w = h.statements in
    subst (λ (x : List Kind). Whole b fs (with_event d (event_in c g)) false x) (sym (append_assoc h.head (call c g) (mark Semicolon ∷ [])) ∙ ap (λ (x : List Kind). x ++ mark Semicolon ∷ []) (sym h.whole))
    (more-whole b fs d (with_event d (event_in c g)) h.brace false h.head (call c g ++ mark Semicolon ∷ []) w
    (event b (path_of fs) w.from d h.brace w.body c g w.statements h.more_may h.free event_is is))

-- the semicolon of a Curve
past_curve : (g : Given) (b : Base) (fs : List Frame) (d : Done) (ts : List Kind) → is_call Curve g ≡ true → Calls b fs d Curve (call Curve g) ts
    → Whole b fs (with_curve d (file_in g)) false (ts ++ mark Semicolon ∷ [])
past_curve g b fs d ts is h =
    let w = h.statements in
    subst (λ (x : List Kind). Whole b fs (with_curve d (file_in g)) false x) (sym (append_assoc h.head (call Curve g) (mark Semicolon ∷ [])) ∙ ap (λ (x : List Kind). x ++ mark Semicolon ∷ []) (sym h.whole))
    (more-whole b fs d (with_curve d (file_in g)) h.brace false h.head (call Curve g ++ mark Semicolon ∷ []) w
    (curve b (path_of fs) w.from d h.brace w.body g w.statements h.free is))

-- a token behind the closing parenthesis
pub past-ready : (c : Command) (g : Given) (t : Kind) (b : Base) (fs : List Frame) (d : Done) (ts : List Kind) → is_call c g ≡ true → Calls b fs d c (call c g) ts → Lands (at_ready c g t b fs d) (ts ++ t ∷ [])
past-ready (Group k) g (mark BraceOpen) b fs d ts is h = into_group k g b fs d ts is h
past-ready Plot g (mark BraceOpen) b fs d ts is h = into_plot g b fs d ts is h
past-ready Options g (mark BraceOpen) b fs d ts is h = into_options g b fs d ts is h
past-ready Curve g (mark Semicolon) b fs d ts is h = past_curve g b fs d ts is h
past-ready Date g (mark Semicolon) b fs d ts is h = past_event Date g b fs d ts refl is h
past-ready Boundary g (mark Semicolon) b fs d ts is h = past_event Boundary g b fs d ts refl is h
past-ready CDate g (mark Semicolon) b fs d ts is h = past_event CDate g b fs d ts refl is h
past-ready RDate g (mark Semicolon) b fs d ts is h = past_event RDate g b fs d ts refl is h
past-ready c g t b fs d ts is h = tt
