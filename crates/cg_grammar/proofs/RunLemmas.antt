-- What the grammar spells is read.
use Rattle.std.proofs.Common.{◌≡◌, ℕ, Bool, true, false, ◌&&◌, List, [], ◌∷◌, ◌++◌, Option, Some, None, Ok, Err, refl, ap, ◌∙◌}
use Rattle.cg_token.specs.Kind.{Kind, gap, word, text, number, mark, ended, unreadable}
use Rattle.cg_token.specs.declared.token.Mark.TheVariants.{ParenOpen, ParenClose, BraceOpen, BraceClose, Semicolon, Equals}
use Rattle.cg_model.specs.declared.group.GroupKind.{GroupKind}
use Rattle.cg_token.proofs.CutLemmas.{both-true}
use Rattle.cg_grammar.specs.declared.command.Command.{Command}
use Rattle.cg_grammar.specs.declared.command.Command.TheVariants.{Date, Boundary, CDate, RDate, Group, Plot, Options, Curve}
use Rattle.cg_grammar.specs.declared.command.Setting.{Setting}
use Rattle.cg_grammar.specs.declared.command.Setting.TheVariants as settings
use Rattle.cg_grammar.specs.declared.command.Base.{Base}
use Rattle.cg_grammar.specs.declared.command.Base.TheVariants as bases
use Rattle.cg_grammar.specs.declared.fault.CqlCause.{CqlCause}
use Rattle.cg_grammar.specs.Words.{word_of}
use Rattle.cg_grammar.specs.Arguments.{Given, nothing, one, two, value, values, tokens_of, takes_text, takes_file, goes_on, takes_value, has_error, takes_error, is_whole, fits, is_call, call, event_in, name_in, file_in}
use Rattle.cg_grammar.specs.Done.{Done, with_event, opened, with_group, with_curve, is_over, barred, is_event, is_top, placed_if, parent}
use Rattle.cg_grammar.specs.Grammar.{Takes, set, AreSettings, no_setting, setting, Are, empty, event, group, semicolon, curve, options, plot}
use Rattle.cg_grammar.proofs.WordLemmas.{command-again}
use Rattle.cg_grammar.specs.Steps.{Part, item, closed, called, ready, option, equated, valued, Frame, State, state, path_of, Step, step, after, run}

-- a token that is taken, and more behind it
after-ok : (r : Step) (t : Kind) (a b : List Kind) (s' : State) → ((s : State) → run a s ≡ Ok s' → run (a ++ b) s ≡ run b s') → after r t a (λ s. run a s) ≡ Ok s' → after r t (a ++ b) (λ s. run (a ++ b) s) ≡ run b s'
after-ok (Ok s) t a b s' ih h = ih s h
after-ok (Err r) t a b s' ih h = absurd cc

-- reading goes on where it stood
pub run-append : (a b : List Kind) (s s' : State) → run a s ≡ Ok s' → run (a ++ b) s ≡ run b s'
run-append [] b s s' h = ap (λ x. elim x [ Ok y ↦ run b y | Err z ↦ Err z ]) h
run-append (t ∷ a) b s s' h = after-ok (step s t) t a b s' (λ u v. run-append a b u s' v) h

-- one run behind another
pub then-run : (a b : List Kind) (s s' s'' : State) → run a s ≡ Ok s' → run b s' ≡ Ok s'' → run (a ++ b) s ≡ Ok s''
then-run a b s s' s'' p q = run-append a b s s' p ∙ q

-- where statements may begin
abbrev pub last : Bool → Part
last true = closed
last false = item

-- the word of a command
word_run : (c : Command) (b : Base) (fs : List Frame) (d : Done) (e : Bool) → is_over b (path_of fs) d ≡ false → barred b (path_of fs) d c ≡ None
    → run (word (word_of c) ∷ []) (state b fs d (last e)) ≡ Ok (state b fs d (called c))
word_run c b fs d true o h = rw (o, command-again c, h) refl
word_run c b fs d false o h = rw (o, command-again c, h) refl

-- its arguments
arguments_run : (c : Command) (g : Given) (b : Base) (fs : List Frame) (d : Done) → is_call c g ≡ true
    → run (mark ParenOpen ∷ (tokens_of g ++ mark ParenClose ∷ [])) (state b fs d (called c)) ≡ Ok (state b fs d (ready c g))
arguments_run c nothing b fs d h = rw h refl
arguments_run c (one n) b fs d h =
    let p = both-true (takes_text c n) (is_whole c (one n)) h in rw (p.0, p.1) refl
arguments_run c (two n m) b fs d h =
    let p = both-true (fits c (two n m)) (is_whole c (two n m)) h in
    let q = both-true (takes_text c n && goes_on c n) (takes_file c m) p.0 in
    let r = both-true (takes_text c n) (goes_on c n) q.0 in
    rw (r.0, r.1, q.1, p.1) refl
arguments_run c (value None a) b fs d h =
    let p = both-true (takes_value c a) (is_whole c (value None a)) h in rw (p.0, p.1) refl
arguments_run c (value (Some n) a) b fs d h =
    let p = both-true (fits c (value (Some n) a)) (is_whole c (value (Some n) a)) h in
    let q = both-true (takes_text c n && goes_on c n) (takes_value c a) p.0 in
    let r = both-true (takes_text c n) (goes_on c n) q.0 in
    rw (r.0, r.1, q.1, p.1) refl
arguments_run c (values None a z) b fs d h =
    let p = both-true (fits c (values None a z)) (is_whole c (values None a z)) h in
    let q = both-true (takes_value c a) (has_error c && takes_error c z) p.0 in
    let r = both-true (has_error c) (takes_error c z) q.1 in
    rw (q.0, r.0, r.1, p.1) refl
arguments_run c (values (Some n) a z) b fs d h =
    let p = both-true (fits c (values (Some n) a z)) (is_whole c (values (Some n) a z)) h in
    let q = both-true (fits c (value (Some n) a)) (has_error c && takes_error c z) p.0 in
    let r = both-true (has_error c) (takes_error c z) q.1 in
    let u = both-true (takes_text c n && goes_on c n) (takes_value c a) q.0 in
    let v = both-true (takes_text c n) (goes_on c n) u.0 in
    rw (v.0, v.1, u.1, r.0, r.1, p.1) refl

-- both
pub call-run : (c : Command) (g : Given) (b : Base) (fs : List Frame) (d : Done) (e : Bool) → is_over b (path_of fs) d ≡ false → barred b (path_of fs) d c ≡ None → is_call c g ≡ true
    → run (call c g) (state b fs d (last e)) ≡ Ok (state b fs d (ready c g))
call-run c g b fs d e o h i = then-run (word (word_of c) ∷ []) (mark ParenOpen ∷ (tokens_of g ++ mark ParenClose ∷ [])) (state b fs d (last e)) (state b fs d (called c)) (state b fs d (ready c g)) (word_run c b fs d e o h) (arguments_run c g b fs d i)

-- the semicolon of an event
pub event-run : (c : Command) (g : Given) (b : Base) (fs : List Frame) (d : Done) → is_event c ≡ true → run (mark Semicolon ∷ []) (state b fs d (ready c g)) ≡ Ok (state b fs (with_event d (event_in c g)) item)
event-run Date g b fs d h = refl
event-run Boundary g b fs d h = refl
event-run CDate g b fs d h = refl
event-run RDate g b fs d h = refl
event-run (Group t) g b fs d h = absurd cc
event-run Plot g b fs d h = absurd cc
event-run Options g b fs d h = absurd cc
event-run Curve g b fs d h = absurd cc

-- the value of an option
value_run : (w : List ℕ) (s : Setting) (v : Kind) (b : Base) (fs : List Frame) (d : Done) → Takes s v → run (v ∷ []) (state b fs d (equated w s)) ≡ Ok (state b fs (set s v d) valued)
value_run w settings.False v b fs d h = rw h refl
value_run w settings.One v b fs d h = rw h refl
value_run w settings.Curve v b fs d h = rw (h.1, h.2) refl
value_run w settings.Ignored (word v) b fs d h = refl
value_run w settings.Ignored (number z) b fs d h = refl
value_run w settings.Ignored (text n) b fs d h = refl
value_run w settings.Ignored gap b fs d h = absurd h
value_run w settings.Ignored (mark m) b fs d h = absurd h
value_run w settings.Ignored ended b fs d h = absurd h
value_run w settings.Ignored unreadable b fs d h = absurd h

-- options behind one another
settings_run : {d0 d : Done} {k : List Kind} → AreSettings d0 d k → (b : Base) (fs : List Frame) → run k (state b fs d0 option) ≡ Ok (state b fs d option)
settings_run (no_setting d) b fs = refl
settings_run (setting d0 d k w s v front is free takes) b fs =
    then-run k (word w ∷ mark Equals ∷ v ∷ mark Semicolon ∷ []) (state b fs d0 option) (state b fs d option) (state b fs (set s v d) option) (settings_run front b fs)
    (then-run (word w ∷ mark Equals ∷ []) (v ∷ mark Semicolon ∷ []) (state b fs d option) (state b fs d (equated w s)) (state b fs (set s v d) option) (rw (is, free) refl)
    (then-run (v ∷ []) (mark Semicolon ∷ []) (state b fs d (equated w s)) (state b fs (set s v d) valued) (state b fs (set s v d) option) (value_run w s v b fs d takes) refl))

-- what stands at the top stands in no statement alone
top_free : (b : Base) (p : List GroupKind) (d : Done) (limit : Option CqlCause) → placed_if (is_top b (parent p)) limit ≡ None → is_over b p d ≡ false
top_free bases.Script p d limit h = refl
top_free bases.Plot p d limit h = refl
top_free bases.Single [] d limit h = absurd cc
top_free bases.Single (t ∷ p) d limit h = refl

-- the brace of a group
pub brace-run : (e : Bool) (b : Base) (f : Frame) (fs : List Frame) (d : Done) → run (mark BraceClose ∷ []) (state b (f ∷ fs) d (last e)) ≡ Ok (state b fs (with_group f.before f.kind f.name d) closed)
brace-run true b f fs d = refl
brace-run false b f fs d = refl

-- the brace of a Plot
pub plot-brace : (e : Bool) (d : Done) → run (mark BraceClose ∷ []) (state bases.Plot [] d (last e)) ≡ Ok (state bases.Script [] d closed)
plot-brace true d = refl
plot-brace false d = refl

-- a Plot
plot_run : (d0 d d1 : Done) (e e1 : Bool) (k body : List Kind) (g : Given) → is_call Plot g ≡ true
    → run k (state bases.Script [] d0 item) ≡ Ok (state bases.Script [] d (last e)) → run body (state bases.Plot [] d item) ≡ Ok (state bases.Plot [] d1 (last e1))
    → run (k ++ (call Plot g ++ mark BraceOpen ∷ (body ++ mark BraceClose ∷ []))) (state bases.Script [] d0 item) ≡ Ok (state bases.Script [] d1 closed)
plot_run d0 d d1 e e1 k body g whole p q =
    then-run k (call Plot g ++ mark BraceOpen ∷ (body ++ mark BraceClose ∷ [])) (state bases.Script [] d0 item) (state bases.Script [] d (last e)) (state bases.Script [] d1 closed) p
    (then-run (call Plot g) (mark BraceOpen ∷ (body ++ mark BraceClose ∷ [])) (state bases.Script [] d (last e)) (state bases.Script [] d (ready Plot g)) (state bases.Script [] d1 closed)
    (call-run Plot g bases.Script [] d e refl refl whole)
    (then-run body (mark BraceClose ∷ []) (state bases.Plot [] d item) (state bases.Plot [] d1 (last e1)) (state bases.Script [] d1 closed) q (plot-brace e1 d1)))

-- the statements of a block are read
pub are-run : {b : Base} {p : List GroupKind} {d0 d : Done} {e : Bool} {k : List Kind} → Are b p d0 d e k → (fs : List Frame) → path_of fs ≡ p
    → run k (state b fs d0 item) ≡ Ok (state b fs d (last e))
are-run (empty b p d) fs q = refl
are-run (event b p d0 d e k c g front o free is whole) fs q =
    then-run k (call c g ++ mark Semicolon ∷ []) (state b fs d0 item) (state b fs d (last e)) (state b fs (with_event d (event_in c g)) item) (are-run front fs q)
    (then-run (call c g) (mark Semicolon ∷ []) (state b fs d (last e)) (state b fs d (ready c g)) (state b fs (with_event d (event_in c g)) item)
    (call-run c g b fs d e (rw q o) (rw q free) whole) (event-run c g b fs d is))
are-run (group b p d0 d d1 e e1 k body t g front o free whole inner) fs q =
    let f : Frame = record { kind = t; name = name_in g; before = d.members } in
    then-run k (call (Group t) g ++ mark BraceOpen ∷ (body ++ mark BraceClose ∷ [])) (state b fs d0 item) (state b fs d (last e)) (state b fs (with_group d.members t (name_in g) d1) closed) (are-run front fs q)
    (then-run (call (Group t) g) (mark BraceOpen ∷ (body ++ mark BraceClose ∷ [])) (state b fs d (last e)) (state b fs d (ready (Group t) g)) (state b fs (with_group d.members t (name_in g) d1) closed)
    (call-run (Group t) g b fs d e (rw q o) (rw q free) whole)
    (then-run body (mark BraceClose ∷ []) (state b (f ∷ fs) (opened d) item) (state b (f ∷ fs) d1 (last e1)) (state b fs (with_group d.members t (name_in g) d1) closed)
    (are-run inner (f ∷ fs) (ap (λ x. t ∷ x) q)) (brace-run e1 b f fs d1)))
are-run (semicolon b p d0 d k front) fs q =
    then-run k (mark Semicolon ∷ []) (state b fs d0 item) (state b fs d closed) (state b fs d item) (are-run front fs q) refl
are-run (curve b p d0 d e k g front free whole) fs q =
    then-run k (call Curve g ++ mark Semicolon ∷ []) (state b fs d0 item) (state b fs d (last e)) (state b fs (with_curve d (file_in g)) item) (are-run front fs q)
    (then-run (call Curve g) (mark Semicolon ∷ []) (state b fs d (last e)) (state b fs d (ready Curve g)) (state b fs (with_curve d (file_in g)) item)
    (call-run Curve g b fs d e (rw q (top_free b p d _ free)) (rw q free) whole) refl)
are-run (options b p d0 d d1 e k body g front free whole inner) fs q =
    then-run k (call Options g ++ mark BraceOpen ∷ (body ++ mark BraceClose ∷ [])) (state b fs d0 item) (state b fs d (last e)) (state b fs d1 closed) (are-run front fs q)
    (then-run (call Options g) (mark BraceOpen ∷ (body ++ mark BraceClose ∷ [])) (state b fs d (last e)) (state b fs d (ready Options g)) (state b fs d1 closed)
    (call-run Options g b fs d e (rw q (top_free b p d _ free)) (rw q free) whole)
    (then-run body (mark BraceClose ∷ []) (state b fs d option) (state b fs d1 option) (state b fs d1 closed) (settings_run inner b fs) refl))
are-run (plot d0 d d1 e e1 k body g front whole inner) [] q = plot_run d0 d d1 e e1 k body g whole (are-run front [] refl) (are-run inner [] refl)
are-run (plot d0 d d1 e e1 k body g front whole inner) (f ∷ fs) q = absurd cc
