-- Each state that reading reaches can be completed.
use Rattle.std.proofs.Common.{◌≡◌, ℕ, Bool, true, false, ◌&&◌, ◌||◌, List, [], ◌∷◌, ◌++◌, Option, Some, None, Ok, refl, ap, ◌∙◌, subst, codes, pos, ℤ, arith}
use Rattle.cg_meaning.specs.Tree.{Tree, Trees, none, more, count_all}
use Rattle.cg_model.specs.Node.{trees_with}
use Rattle.cg_model.specs.declared.group.GroupKind.{GroupKind}
use Rattle.cg_token.specs.Kind.{Kind, word, text, number, mark, ended}
use Rattle.cg_token.specs.declared.token.Mark.TheVariants.{ParenOpen, ParenClose, BraceOpen, BraceClose, Comma, Semicolon, Equals}
use Rattle.cg_token.proofs.CutLemmas.{both-true}
use Rattle.cg_grammar.specs.declared.command.Command.{Command}
use Rattle.cg_grammar.specs.declared.command.Command.TheVariants.{Date, Boundary, CDate, RDate, Group, Plot, Options, Curve}
use Rattle.cg_grammar.specs.declared.command.Setting.{Setting}
use Rattle.cg_grammar.specs.declared.command.Setting.TheVariants as settings
use Rattle.cg_grammar.specs.declared.command.Base.{Base}
use Rattle.cg_grammar.specs.declared.command.Base.TheVariants as bases
use Rattle.cg_grammar.specs.declared.fault.CqlCause.{CqlCause}
use Rattle.cg_grammar.specs.Arguments.{call, with_ending, Given, nothing, one, two, value, values, fits, fits_first, takes_file, takes_value, takes_error, has_error, may_part, is_whole, is_name, is_file, has_ending, name_in, event_in, file_in}
use Rattle.cg_grammar.specs.Done.{Done, start, with_group, with_event, with_curve, opened, is_none, parent, is_top, is_script, placed_if, barred}
use Rattle.cg_grammar.specs.Grammar.{Are}
use Rattle.cg_grammar.specs.Steps.{Part, item, closed, called, opening, given, parted, ready, option, named, equated, valued, complete, is_complete, Frame, State, state, path_of, run}
use Rattle.cg_grammar.proofs.RunLemmas.{run-append, then-run, call-run, event-run, last, brace-run, plot-brace}
use Rattle.cg_grammar.proofs.StandsLemmas.{StandsAt, Whole, Sets, has_any}
use Rattle.cg_grammar.proofs.BlockStandsLemmas.{single-from}
use Rattle.cg_grammar.proofs.FirstLemmas.{is_single}
use Rattle.cg_grammar.proofs.LimitLemmas.{grows}

-- tokens that lead to the end
pub record Completes (s : State) : Type 0 where
  pub more : List Kind
  pub end : State
  pub runs : run more s ≡ Ok end
  pub done : is_complete end.part ≡ true

-- tokens before others
by_way : (a : List Kind) (s s' : State) → run a s ≡ Ok s' → Completes s' → Completes s
by_way a s s' e c = record { more = a ++ c.more; end = c.end; runs = run-append a c.more s s' e ∙ c.runs; done = c.done }

-- a script ends
script_ends : (e : Bool) (d : Done) → Completes (state bases.Script [] d (last e))
script_ends true d = record { more = ended ∷ []; end = state bases.Script [] d complete; runs = refl; done = refl }
script_ends false d = record { more = ended ∷ []; end = state bases.Script [] d complete; runs = refl; done = refl }

-- what is needed to end where a statement may begin
abbrev Ends : Base → List Frame → Done → Type 0
Ends bases.Single [] d = is_none d.members ≡ false
Ends b fs d = Unit {0}

-- there is a member where one was put
some_member : (ts : Trees) (t : Tree) → is_none (trees_with ts t) ≡ false
some_member none t = refl
some_member (more u us) t = refl

-- behind a member
ends_with : (b : Base) (fs : List Frame) (d : Done) (ts : Trees) (t : Tree) → d.members ≡ trees_with ts t → Ends b fs d
ends_with bases.Single [] d ts t e = ap is_none e ∙ some_member ts t
ends_with bases.Single (f ∷ fs) d ts t e = tt
ends_with bases.Script fs d ts t e = tt
ends_with bases.Plot fs d ts t e = tt

-- in a group
ends_inside : (b : Base) (f : Frame) (fs : List Frame) (d : Done) → Ends b (f ∷ fs) d
ends_inside bases.Single f fs d = tt
ends_inside bases.Script f fs d = tt
ends_inside bases.Plot f fs d = tt

-- in a script
ends_top : (b : Base) (fs : List Frame) (d : Done) → is_single b ≡ false → Ends b fs d
ends_top bases.Single fs d n = absurd cc
ends_top bases.Script fs d n = tt
ends_top bases.Plot fs d n = tt

-- a statement that stands alone ends
single_ends : (e : Bool) (d : Done) → is_none d.members ≡ false → Completes (state bases.Single [] d (last e))
single_ends true d n = record { more = ended ∷ []; end = state bases.Single [] d complete; runs = rw n refl; done = refl }
single_ends false d n = record { more = ended ∷ []; end = state bases.Single [] d complete; runs = rw n refl; done = refl }

-- where a statement may begin
items_end : (b : Base) (fs : List Frame) (d : Done) (e : Bool) → Ends b fs d → Completes (state b fs d (last e))
items_end b (f ∷ fs) d e n =
    let g = with_group f.before f.kind f.name d in
    by_way (mark BraceClose ∷ []) (state b (f ∷ fs) d (last e)) (state b fs g closed) (brace-run e b f fs d) (items_end b fs g true (ends_with b fs g f.before _ refl))
items_end bases.Plot [] d e n = by_way (mark BraceClose ∷ []) (state bases.Plot [] d (last e)) (state bases.Script [] d closed) (plot-brace e d) (script_ends true d)
items_end bases.Script [] d e n = script_ends e d
items_end bases.Single [] d e n = single_ends e d n

-- where an option may begin
option_end : (b : Base) (fs : List Frame) (d : Done) → is_single b ≡ false → Completes (state b fs d option)
option_end b fs d n = by_way (mark BraceClose ∷ []) (state b fs d option) (state b fs d closed) refl (items_end b fs d true (ends_top b fs d n))

-- what is needed of a command that was called
abbrev May : Command → Base → Type 0
May Plot b = is_single b ≡ false
May Options b = is_single b ≡ false
May Curve b = is_single b ≡ false
May c b = Unit {0}

-- behind the closing parenthesis
ready_end : (c : Command) (g : Given) (b : Base) (fs : List Frame) (d : Done) → May c b → Completes (state b fs d (ready c g))
ready_end (Group t) g b fs d n =
    let f : Frame = record { kind = t; name = name_in g; before = d.members } in
    by_way (mark BraceOpen ∷ []) (state b fs d (ready (Group t) g)) (state b (f ∷ fs) (opened d) item) refl (items_end b (f ∷ fs) (opened d) false (ends_inside b f fs (opened d)))
ready_end Plot g b fs d n = by_way (mark BraceOpen ∷ []) (state b fs d (ready Plot g)) (state bases.Plot fs d item) refl (items_end bases.Plot fs d false tt)
ready_end Options g b fs d n = by_way (mark BraceOpen ∷ []) (state b fs d (ready Options g)) (state b fs d option) refl (option_end b fs d n)
ready_end Curve g b fs d n =
    let w = with_curve d (file_in g) in
    by_way (mark Semicolon ∷ []) (state b fs d (ready Curve g)) (state b fs w item) refl (items_end b fs w false (ends_top b fs w n))
ready_end Date g b fs d n =
    let w = with_event d (event_in Date g) in
    by_way (mark Semicolon ∷ []) (state b fs d (ready Date g)) (state b fs w item) refl (items_end b fs w false (ends_with b fs w d.members _ refl))
ready_end Boundary g b fs d n =
    let w = with_event d (event_in Boundary g) in
    by_way (mark Semicolon ∷ []) (state b fs d (ready Boundary g)) (state b fs w item) refl (items_end b fs w false (ends_with b fs w d.members _ refl))
ready_end CDate g b fs d n =
    let w = with_event d (event_in CDate g) in
    by_way (mark Semicolon ∷ []) (state b fs d (ready CDate g)) (state b fs w item) refl (items_end b fs w false (ends_with b fs w d.members _ refl))
ready_end RDate g b fs d n =
    let w = with_event d (event_in RDate g) in
    by_way (mark Semicolon ∷ []) (state b fs d (ready RDate g)) (state b fs w item) refl (items_end b fs w false (ends_with b fs w d.members _ refl))

-- a file's name
abbrev file : List ℕ
file = codes "a.14c"

-- it is one
file_is : is_file file ≡ true
unfolding has_ending
file_is = refl

-- behind whole arguments
whole_end : (c : Command) (g : Given) (b : Base) (fs : List Frame) (d : Done) → May c b → is_whole c g ≡ true → Completes (state b fs d (given c g))
whole_end c g b fs d n w = by_way (mark ParenClose ∷ []) (state b fs d (given c g)) (state b fs d (ready c g)) (rw w refl) (ready_end c g b fs d n)

-- behind one number
value_end : (c : Command) (n : Option (List ℕ)) (a : ℤ) (b : Base) (fs : List Frame) (d : Done) → May c b → fits c (value n a) ≡ true → Completes (state b fs d (given c (value n a)))
value_end CDate n a b fs d s f = whole_end CDate (value n a) b fs d s refl
value_end RDate n a b fs d s f =
    by_way (mark Comma ∷ number (pos 1000) ∷ []) (state b fs d (given RDate (value n a))) (state b fs d (given RDate (values n a (pos 1000)))) refl (whole_end RDate (values n a (pos 1000)) b fs d s refl)
value_end Date n a b fs d s f = absurd (let p = (both-true (fits_first Date n) false f).1 in cc)
value_end Boundary n a b fs d s f = absurd (let p = (both-true (fits_first Boundary n) false f).1 in cc)
value_end (Group t) n a b fs d s f = absurd (let p = (both-true (fits_first (Group t) n) false f).1 in cc)
value_end Plot n a b fs d s f = absurd (let p = (both-true (fits_first Plot n) false f).1 in cc)
value_end Options n a b fs d s f = absurd (let p = (both-true (fits_first Options n) false f).1 in cc)
value_end Curve n a b fs d s f = absurd (let p = (both-true (fits_first Curve n) false f).1 in cc)

-- behind one text of a Curve
curve_end : (q : Bool) (n : List ℕ) (b : Base) (fs : List Frame) (d : Done) → is_single b ≡ false → is_name n ≡ q → (q || is_file n) ≡ true → Completes (state b fs d (given Curve (one n)))
curve_end true n b fs d s e f =
    by_way (mark Comma ∷ text file ∷ []) (state b fs d (given Curve (one n))) (state b fs d (given Curve (two n file))) (rw (e, file_is) refl) (whole_end Curve (two n file) b fs d s refl)
curve_end false n b fs d s e f = whole_end Curve (one n) b fs d s f

-- behind one text
one_end : (c : Command) (n : List ℕ) (b : Base) (fs : List Frame) (d : Done) → May c b → fits c (one n) ≡ true → Completes (state b fs d (given c (one n)))
one_end CDate n b fs d s f =
    by_way (mark Comma ∷ number (pos 1000) ∷ []) (state b fs d (given CDate (one n))) (state b fs d (given CDate (value (Some n) (pos 1000)))) refl (whole_end CDate (value (Some n) (pos 1000)) b fs d s refl)
one_end RDate n b fs d s f =
    by_way (mark Comma ∷ number (pos 0) ∷ mark Comma ∷ number (pos 1000) ∷ []) (state b fs d (given RDate (one n))) (state b fs d (given RDate (values (Some n) (pos 0) (pos 1000)))) refl
    (whole_end RDate (values (Some n) (pos 0) (pos 1000)) b fs d s refl)
one_end Curve n b fs d s f = curve_end (is_name n) n b fs d s refl f
one_end Options n b fs d s f = absurd cc
one_end Date n b fs d s f = whole_end Date (one n) b fs d s refl
one_end Boundary n b fs d s f = whole_end Boundary (one n) b fs d s refl
one_end (Group t) n b fs d s f = whole_end (Group t) (one n) b fs d s refl
one_end Plot n b fs d s f = whole_end Plot (one n) b fs d s refl

-- behind two texts
two_end : (c : Command) (n m : List ℕ) (b : Base) (fs : List Frame) (d : Done) → May c b → takes_file c m ≡ true → Completes (state b fs d (given c (two n m)))
two_end Curve n m b fs d s f = whole_end Curve (two n m) b fs d s refl
two_end c n m b fs d s f = absurd cc

-- behind two numbers
values_end : (c : Command) (n : Option (List ℕ)) (a z : ℤ) (b : Base) (fs : List Frame) (d : Done) → May c b → has_error c ≡ true → Completes (state b fs d (given c (values n a z)))
values_end CDate n a z b fs d s f = whole_end CDate (values n a z) b fs d s refl
values_end RDate n a z b fs d s f = whole_end RDate (values n a z) b fs d s refl
values_end c n a z b fs d s f = absurd cc

-- behind an argument
given_end : (c : Command) (g : Given) (b : Base) (fs : List Frame) (d : Done) → May c b → fits c g ≡ true → has_any g ≡ true → Completes (state b fs d (given c g))
given_end c nothing b fs d s f any = absurd cc
given_end c (one n) b fs d s f any = one_end c n b fs d s f
given_end c (two n m) b fs d s f any = two_end c n m b fs d s (both-true (fits_first c (Some n)) (takes_file c m) f).1
given_end c (value n a) b fs d s f any = value_end c n a b fs d s f
given_end c (values n a z) b fs d s f any =
    let p = both-true (fits_first c n && takes_value c a) (has_error c && takes_error c z) f in values_end c n a z b fs d s (both-true (has_error c) (takes_error c z) p.1).0

-- behind a comma
parted_end : (c : Command) (g : Given) (b : Base) (fs : List Frame) (d : Done) → May c b → may_part c g ≡ true → Completes (state b fs d (parted c g))
parted_end CDate (one n) b fs d s f = by_way (number (pos 1000) ∷ []) (state b fs d (parted CDate (one n))) (state b fs d (given CDate (value (Some n) (pos 1000)))) refl (whole_end CDate (value (Some n) (pos 1000)) b fs d s refl)
parted_end RDate (one n) b fs d s f =
    by_way (number (pos 0) ∷ mark Comma ∷ number (pos 1000) ∷ []) (state b fs d (parted RDate (one n))) (state b fs d (given RDate (values (Some n) (pos 0) (pos 1000)))) refl (whole_end RDate (values (Some n) (pos 0) (pos 1000)) b fs d s refl)
parted_end Curve (one n) b fs d s f = by_way (text file ∷ []) (state b fs d (parted Curve (one n))) (state b fs d (given Curve (two n file))) (rw file_is refl) (whole_end Curve (two n file) b fs d s refl)
parted_end CDate (value n a) b fs d s f = by_way (number (pos 1000) ∷ []) (state b fs d (parted CDate (value n a))) (state b fs d (given CDate (values n a (pos 1000)))) refl (whole_end CDate (values n a (pos 1000)) b fs d s refl)
parted_end RDate (value n a) b fs d s f = by_way (number (pos 1000) ∷ []) (state b fs d (parted RDate (value n a))) (state b fs d (given RDate (values n a (pos 1000)))) refl (whole_end RDate (values n a (pos 1000)) b fs d s refl)
parted_end c nothing b fs d s f = absurd cc
parted_end c (two n m) b fs d s f = absurd cc
parted_end c (values n a z) b fs d s f = absurd cc
parted_end c (one n) b fs d s f = absurd cc
parted_end c (value n a) b fs d s f = absurd cc

-- behind the opening parenthesis
opening_end : (c : Command) (b : Base) (fs : List Frame) (d : Done) → May c b → Completes (state b fs d (opening c))
opening_end CDate b fs d s = by_way (number (pos 1000) ∷ []) (state b fs d (opening CDate)) (state b fs d (given CDate (value None (pos 1000)))) refl (whole_end CDate (value None (pos 1000)) b fs d s refl)
opening_end RDate b fs d s =
    by_way (number (pos 0) ∷ mark Comma ∷ number (pos 1000) ∷ []) (state b fs d (opening RDate)) (state b fs d (given RDate (values None (pos 0) (pos 1000)))) refl (whole_end RDate (values None (pos 0) (pos 1000)) b fs d s refl)
opening_end Curve b fs d s = by_way (text file ∷ []) (state b fs d (opening Curve)) (state b fs d (given Curve (one file))) refl (whole_end Curve (one file) b fs d s file_is)
opening_end Date b fs d s = by_way (mark ParenClose ∷ []) (state b fs d (opening Date)) (state b fs d (ready Date nothing)) refl (ready_end Date nothing b fs d s)
opening_end Boundary b fs d s = by_way (mark ParenClose ∷ []) (state b fs d (opening Boundary)) (state b fs d (ready Boundary nothing)) refl (ready_end Boundary nothing b fs d s)
opening_end (Group t) b fs d s = by_way (mark ParenClose ∷ []) (state b fs d (opening (Group t))) (state b fs d (ready (Group t) nothing)) refl (ready_end (Group t) nothing b fs d s)
opening_end Plot b fs d s = by_way (mark ParenClose ∷ []) (state b fs d (opening Plot)) (state b fs d (ready Plot nothing)) refl (ready_end Plot nothing b fs d s)
opening_end Options b fs d s = by_way (mark ParenClose ∷ []) (state b fs d (opening Options)) (state b fs d (ready Options nothing)) refl (ready_end Options nothing b fs d s)

-- behind the equals sign of an option
equated_end : (w : List ℕ) (t : Setting) (b : Base) (fs : List Frame) (d : Done) → is_single b ≡ false → Completes (state b fs d (equated w t))
equated_end w settings.False b fs d s = by_way (word (codes "FALSE") ∷ mark Semicolon ∷ []) (state b fs d (equated w settings.False)) (state b fs d option) refl (option_end b fs d s)
equated_end w settings.One b fs d s = by_way (number (pos 1000) ∷ mark Semicolon ∷ []) (state b fs d (equated w settings.One)) (state b fs d option) refl (option_end b fs d s)
equated_end w settings.Ignored b fs d s = by_way (number (pos 0) ∷ mark Semicolon ∷ []) (state b fs d (equated w settings.Ignored)) (state b fs d option) refl (option_end b fs d s)
equated_end w settings.Curve b fs d s = by_way (text file ∷ mark Semicolon ∷ []) (state b fs d (equated w settings.Curve)) (state b fs (with_curve d (with_ending file)) option) (rw file_is refl) (option_end b fs (with_curve d (with_ending file)) s)

-- the top is that of a script
top_base : (b : Base) (p : List GroupKind) (limit : Option CqlCause) → placed_if (is_top b (parent p)) limit ≡ None → is_single b ≡ false
top_base bases.Script p limit h = refl
top_base bases.Plot p limit h = refl
top_base bases.Single [] limit h = absurd cc
top_base bases.Single (t ∷ p) limit h = absurd cc

-- so it is where a Plot may stand
plot_top : (b : Base) (p : List GroupKind) → placed_if (is_script b (parent p)) None ≡ None → is_single b ≡ false
plot_top bases.Script p h = refl
plot_top bases.Plot p h = refl
plot_top bases.Single [] h = absurd cc
plot_top bases.Single (t ∷ p) h = absurd cc

-- a command that was called may stand there
may : (c : Command) (b : Base) (p : List GroupKind) (d : Done) → barred b p d c ≡ None → May c b
may Plot b p d h = plot_top b p h
may Options b p d h = top_base b p None h
may Curve b p d h = top_base b p _ h
may Date b p d h = tt
may Boundary b p d h = tt
may CDate b p d h = tt
may RDate b p d h = tt
may (Group t) b p d h = tt

-- no members are no events
none_count : (ts : Trees) → is_none ts ≡ true → count_all ts ≡ 0
none_count none h = refl
none_count (more t ts) h = absurd cc

-- where nothing stands alone yet, a Date may
first_end : (e : Bool) (d : Done) → d.events ≡ 0 → is_none d.members ≡ true → Completes (state bases.Single [] d (last e))
first_end e d zero_is none_is =
    let w = with_event d (event_in Date nothing) in
    by_way (call Date nothing ++ mark Semicolon ∷ []) (state bases.Single [] d (last e)) (state bases.Single [] w item)
    (then-run (call Date nothing) (mark Semicolon ∷ []) (state bases.Single [] d (last e)) (state bases.Single [] d (ready Date nothing)) (state bases.Single [] w item)
    (call-run Date nothing bases.Single [] d e (rw none_is refl) (rw zero_is refl) refl) (event-run Date nothing bases.Single [] d refl))
    (items_end bases.Single [] w false (ends_with bases.Single [] w d.members _ refl))

-- where a statement that stands alone may begin, or has ended
alone_end : (q : Bool) (e : Bool) (d : Done) (body : List Kind) → is_none d.members ≡ q → Are bases.Single [] start d e body → Completes (state bases.Single [] d (last e))
alone_end false e d body n are = single_ends e d n
alone_end true e d body n are =
    let g = (grows are).events in
    let zero_is = none_count d.members n in
    first_end e d (omega (arith, g, zero_is)) n

-- where a statement may begin
begin_end : (b : Base) (fs : List Frame) (d : Done) (e : Bool) (ts : List Kind) → Whole b fs d e ts → Completes (state b fs d (last e))
begin_end bases.Single [] d e ts h =
    alone_end (is_none d.members) e d h.body refl (subst (λ (x : Done). Are bases.Single [] x d e h.body) (single-from h.before).0 h.statements)
begin_end bases.Single (f ∷ fs) d e ts h = items_end bases.Single (f ∷ fs) d e tt
begin_end bases.Script fs d e ts h = items_end bases.Script fs d e tt
begin_end bases.Plot fs d e ts h = items_end bases.Plot fs d e tt

-- Options stand in a script
set_base : (b : Base) (fs : List Frame) (d : Done) (new ts : List Kind) → Sets b fs d new ts → is_single b ≡ false
set_base b fs d new ts h = top_base b (path_of fs) None h.called.free

-- each state that tokens lead to
pub completed : (part : Part) (b : Base) (fs : List Frame) (d : Done) (ts : List Kind) → StandsAt part b fs d ts → Completes (state b fs d part)
completed item b fs d ts h = begin_end b fs d false ts h
completed closed b fs d ts h = begin_end b fs d true ts h
completed (called c) b fs d ts h = by_way (mark ParenOpen ∷ []) (state b fs d (called c)) (state b fs d (opening c)) refl (opening_end c b fs d (may c b (path_of fs) d h.free))
completed (opening c) b fs d ts h = opening_end c b fs d (may c b (path_of fs) d h.free)
completed (given c g) b fs d ts h = given_end c g b fs d (may c b (path_of fs) d h.2.free) h.0 h.1
completed (parted c g) b fs d ts h = parted_end c g b fs d (may c b (path_of fs) d h.2.free) h.1
completed (ready c g) b fs d ts h = ready_end c g b fs d (may c b (path_of fs) d h.1.free)
completed option b fs d ts h = option_end b fs d (set_base b fs d _ ts h)
completed (named w t) b fs d ts h = by_way (mark Equals ∷ []) (state b fs d (named w t)) (state b fs d (equated w t)) refl (equated_end w t b fs d (set_base b fs d _ ts h.2))
completed (equated w t) b fs d ts h = equated_end w t b fs d (set_base b fs d _ ts h.2)
completed valued b fs d ts (w, t, v, from, is, free, takes, left, h) = by_way (mark Semicolon ∷ []) (state b fs d valued) (state b fs d option) refl (option_end b fs d (set_base b fs from _ ts h))
completed complete b fs d ts h = record { more = []; end = state b fs d complete; runs = refl; done = refl }
