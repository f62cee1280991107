-- What the grammar spells is within the limits of a model.
use Rattle.std.proofs.Common.{◌≡◌, ◌≢◌, ℕ, zero, suc, ◌+◌, ◌<◌, ◌≤◌, Bool, true, false, not, ◌&&◌, ◌||◌, cond, leb, List, [], ◌∷◌, length, Option, None, refl, sym, ap, ◌∙◌, subst, arith, All, ℤ, pos, negsuc, ◌≤ℤ◌, int_le}
use Rattle.std.specs.Ordering.{int_eq}
use Rattle.std.proofs.lemmas.List.Elements.{All-nil, All-cons}
use Rattle.std.proofs.lemmas.Bool.Decides.{nat_tests, Decides-int_eq}
use Rattle.std.specs.Prelude.{int_div}
use Rattle.std.proofs.lemmas.Int.{ints}
use Rattle.cg_num.specs.Year.{IsYear, IsCalendarYear, bp_of_calendar}
use Rattle.cg_meaning.specs.Tree as spec
use Rattle.cg_meaning.specs.Tree.{Tree, Trees, none, more, Name, count, count_all, datings_of, datings_of_all, Chronology}
use Rattle.cg_model.specs.Limits as model
use Rattle.cg_model.specs.Limits.{groups_of, groups_in, depth_of, depth_in, HoldsBoundaries, IsInPlace, AreInPlace, IsInRange, AreInRange, IsModel, IsNormal, IsCarbon}
use Rattle.cg_model.proofs.PushLemmas.{count_all-trees_with, groups_in-trees_with, depth_in-trees_with, AreInPlace-trees_with, AreInRange-trees_with}
use Rattle.cg_token.specs.Kind.{Kind, text}
use Rattle.cg_model.specs.declared.group.GroupKind.{GroupKind}
use Rattle.cg_model.specs.declared.group.GroupKind.TheVariants.{Sequence, Phase, After, Before}
use Rattle.cg_token.proofs.CutLemmas.{both-true}
use Rattle.cg_grammar.specs.declared.command.Command.{Command}
use Rattle.cg_grammar.specs.declared.command.Command.TheVariants.{Date, Boundary, CDate, RDate, Group, Plot, Options, Curve}
use Rattle.cg_grammar.specs.declared.command.Setting.{Setting}
use Rattle.cg_grammar.specs.declared.command.Setting.TheVariants as settings
use Rattle.cg_grammar.specs.declared.command.Base.{Base}
use Rattle.cg_grammar.specs.declared.command.Base.TheVariants as bases
use Rattle.cg_grammar.specs.declared.fault.CqlCause.{CqlCause}
use Rattle.cg_grammar.specs.declared.fault.CqlCause.TheVariants as causes
use Rattle.cg_grammar.specs.declared.fault.CqlLimit.TheVariants as limits
use Rattle.cg_model.specs.Group.{kind_in}
use Rattle.cg_grammar.specs.Arguments.{Given, value, values, fits, fits_first, is_call, is_year, is_calendar, is_age, is_error, year_in, name_in, dating_in, event_in}
use Rattle.cg_grammar.specs.Done.{Done, start, with_event, opened, with_group, with_curve, parent, limit_of, event_limit, group_limit, holds_boundary, placed_if, barred, is_event}
use Rattle.cg_grammar.specs.Grammar.{AreSettings, no_setting, setting, set, Are, empty, event, group, semicolon, curve, options, plot}
use Rattle.cg_grammar.specs.Text.{EachSpelledIsModel, EachStatementIsWithinLimits, IsWithin}

-- the kind in which statements stand
abbrev pub kind_at : Base → List GroupKind → spec.Kind
kind_at b (t ∷ p) = kind_in t
kind_at bases.Single [] = spec.Sequence
kind_at b [] = spec.Phase

-- what statements leave, from what stood before them: counts, depth, places and ranges
pub record Grows (b : Base) (p : List GroupKind) (d0 d : Done) : Type 0 where
  pub events : d.events + count_all d0.members ≡ d0.events + count_all d.members
  pub groups : d.groups + groups_in d0.members ≡ d0.groups + groups_in d.members
  pub few : d0.events ≤ 100 → d.events ≤ 100
  pub few_groups : d0.groups ≤ 60 → d.groups ≤ 60
  pub deep : length p + depth_in d0.members ≤ 16 → length p + depth_in d.members ≤ 16
  pub placed : AreInPlace (kind_at b p) d0.members → AreInPlace (kind_at b p) d.members
  pub ranged : AreInRange d0.members → AreInRange d.members

-- nothing changes
same_grows : (b : Base) (p : List GroupKind) (d : Done) → Grows b p d d
same_grows b p d = record { events = refl; groups = refl; few = λ h. h; few_groups = λ h. h; deep = λ h. h; placed = λ h. h; ranged = λ h. h }

-- statements behind others
then_grows : (b : Base) (p : List GroupKind) (d0 d d1 : Done) → Grows b p d0 d → Grows b p d d1 → Grows b p d0 d1
then_grows b p d0 d d1 f g = record {
  events = let x = f.events in let y = g.events in omega (arith, x, y);
  groups = let x = f.groups in let y = g.groups in omega (arith, x, y);
  few = λ h. g.few (f.few h);
  few_groups = λ h. g.few_groups (f.few_groups h);
  deep = λ h. g.deep (f.deep h);
  placed = λ h. g.placed (f.placed h);
  ranged = λ h. g.ranged (f.ranged h);
}

-- limits
limit_free : (q : Bool) (cause : CqlCause) (other : Option CqlCause) → limit_of q cause other ≡ None → (q ≡ false) × (other ≡ None)
limit_free true cause other h = absurd cc
limit_free false cause other h = (refl, h)

-- a test of numbers that fails
below : (n m : ℕ) → leb n m ≡ false → m < n
below n m h = grind (arith, nat_tests)

-- an event that is not barred
event_free : (depth events : ℕ) → event_limit depth events ≡ None → (events < 100) × (depth < 16)
event_free depth events h =
    let p = limit_free (leb 100 events) (causes.Limit limits.Events) _ h in
    let q = limit_free (leb 16 depth) (causes.Limit limits.Depth) None p.1 in
    (below 100 events p.0, below 16 depth q.0)

-- a group that is not
group_free : (depth groups : ℕ) → group_limit depth groups ≡ None → (groups < 60) × (depth < 16)
group_free depth groups h =
    let p = limit_free (leb 60 groups) (causes.Limit limits.Groups) _ h in
    let q = limit_free (leb 16 depth) (causes.Limit limits.Depth) None p.1 in
    (below 60 groups p.0, below 16 depth q.0)

-- what fits its place
placed_free : (q : Bool) (limit : Option CqlCause) → placed_if q limit ≡ None → (q ≡ true) × (limit ≡ None)
placed_free true limit h = (refl, h)
placed_free false limit h = absurd cc

-- a Boundary that fits its place
boundary_placed : (b : Base) (p : List GroupKind) → holds_boundary b (parent p) ≡ true → HoldsBoundaries (kind_at b p)
boundary_placed b (Sequence ∷ p) h = refl
boundary_placed b (Phase ∷ p) h = absurd cc
boundary_placed b (After ∷ p) h = absurd cc
boundary_placed b (Before ∷ p) h = absurd cc
boundary_placed bases.Single [] h = refl
boundary_placed bases.Script [] h = absurd cc
boundary_placed bases.Plot [] h = absurd cc

-- an event that may stand there
record Fits (b : Base) (p : List GroupKind) (d : Done) (t : Tree) : Type 0 where
  one : count t ≡ 1
  no_group : groups_of t ≡ 0
  flat : depth_of t ≡ 1
  few : d.events < 100
  deep : length p < 16
  placed : IsInPlace (kind_at b p) t
  ranged : All IsInRange (datings_of t)

-- one dating in range
alone : (d : spec.Dating) → IsInRange d → All IsInRange (d ∷ [])
alone d h = All-cons IsInRange d [] h (All-nil IsInRange)

-- a leaf fits
leaf_fits : (b : Base) (p : List GroupKind) (d : Done) (n : Name) (x : spec.Dating) → event_limit (length p) d.events ≡ None → IsInRange x → Fits b p d (spec.Leaf n x)
leaf_fits b p d n x h r = let f = event_free (length p) d.events h in record { one = refl; no_group = refl; flat = refl; few = f.0; deep = f.1; placed = tt; ranged = alone x r }

-- a test of whole numbers that holds
true_le : (x y : ℤ) → int_le x y ≡ true → x ≤ℤ y
true_le x y h = grind (arith, ints)

-- and one that fails
not_same : (x y : ℤ) → not (int_eq x y) ≡ true → x ≢ y
not_same x y h e = let yes : int_eq x y ≡ true = (Decides-int_eq x y).1 e in let wrong : not true ≡ true = ap not (sym yes) ∙ h in absurd cc

-- a year from 1 on
first_year : (n : ℕ) → (pos n ≡ pos 0 → ⊥) → pos 1 ≤ℤ pos n
first_year zero h = absurd (h refl)
first_year (suc n) h = omega (arith, ints)

-- a calendar year in range is a year
in_calendar : (y : ℤ) → IsCalendarYear y → IsYear (bp_of_calendar y)
in_calendar (pos n) h = let some : pos 1 ≤ℤ pos n = first_year n h.0 in (omega (arith, ints, h.2), omega (arith, ints, some))
in_calendar (negsuc n) h = (omega (arith, ints), omega (arith, ints, h.1))

-- the same by its test
calendar_year : (y : ℤ) → is_calendar y ≡ true → IsYear (bp_of_calendar y)
calendar_year y h =
    let p = both-true (not (int_eq y (pos 0))) (int_le (negsuc 58050) y && int_le y (pos 2950)) h in
    let q = both-true (int_le (negsuc 58050) y) (int_le y (pos 2950)) p.1 in
    in_calendar y (not_same y (pos 0) p.0, true_le _ _ q.0, true_le _ _ q.1)

-- a year of thousandths is one
year_ranged : (z : ℤ) → is_year z ≡ true → IsYear (year_in z)
year_ranged z h = let p = both-true _ (is_calendar (int_div z (pos 1000))) h in calendar_year (int_div z (pos 1000)) p.1

-- an error is in range
error_ranged : (z : ℤ) → is_error z ≡ true → (pos 1000 ≤ℤ z) × (z ≤ℤ pos 10000000)
error_ranged z h = let p = both-true _ _ h in (true_le _ _ p.0, true_le _ _ p.1)

-- a C_Date with an error, or with 0
error_or : (q : Bool) (y e : ℤ) → is_year y ≡ true → int_eq e (pos 0) ≡ q → (q || is_error e) ≡ true → IsInRange (cond q (spec.Exact (year_in y)) (spec.Normal (year_in y) e))
error_or true y e h k o = year_ranged y h
error_or false y e h k o = let p = error_ranged e o in record { year_is = year_ranged y h; some = p.0; few = p.1 }

-- the dating that arguments state is in range
dating_ranged : (c : Command) (g : Given) → is_call c g ≡ true → IsInRange (dating_in c g)
dating_ranged CDate (value n y) h = let p = both-true (fits CDate (value n y)) true h in let q = both-true (fits_first CDate n) (is_year y) p.0 in year_ranged y q.1
dating_ranged CDate (values n y e) h =
    let p = both-true (fits CDate (values n y e)) true h in
    let q = both-true (fits_first CDate n && is_year y) (int_eq e (pos 0) || is_error e) p.0 in
    let r = both-true (fits_first CDate n) (is_year y) q.0 in
    error_or (int_eq e (pos 0)) y e r.1 refl q.1
dating_ranged RDate (values n a e) h =
    let p = both-true (fits RDate (values n a e)) true h in
    let q = both-true (fits_first RDate n && is_age a) (is_error e) p.0 in
    let r = both-true (fits_first RDate n) (is_age a) q.0 in
    let low = both-true _ _ r.1 in
    let error = error_ranged e q.1 in
    record { low = true_le _ _ low.0; high = true_le _ _ low.1; some = error.0; few = error.1 }
dating_ranged c g h = tt

-- the event of a statement fits
event_fits : (c : Command) (g : Given) (b : Base) (p : List GroupKind) (d : Done) → is_event c ≡ true → barred b p d c ≡ None → is_call c g ≡ true → Fits b p d (event_in c g)
event_fits Date g b p d is free whole = leaf_fits b p d (name_in g) (dating_in Date g) free (dating_ranged Date g whole)
event_fits CDate g b p d is free whole = leaf_fits b p d (name_in g) (dating_in CDate g) free (dating_ranged CDate g whole)
event_fits RDate g b p d is free whole = leaf_fits b p d (name_in g) (dating_in RDate g) free (dating_ranged RDate g whole)
event_fits Boundary g b p d is free whole =
    let q = placed_free (holds_boundary b (parent p)) _ free in
    let f = event_free (length p) d.events q.1 in
    record { one = refl; no_group = refl; flat = refl; few = f.0; deep = f.1; placed = boundary_placed b p q.0; ranged = alone spec.Free tt }
event_fits (Group t) g b p d is free whole = absurd cc
event_fits Plot g b p d is free whole = absurd cc
event_fits Options g b p d is free whole = absurd cc
event_fits Curve g b p d is free whole = absurd cc

-- an event behind the others
event_grows : (b : Base) (p : List GroupKind) (d : Done) (t : Tree) → Fits b p d t → Grows b p d (with_event d t)
event_grows b p d t f =
    let one = f.one in
    let few = f.few in
    let deep = f.deep in
    let flat = f.flat in
    record {
      events = omega (arith, one, count_all-trees_with d.members t);
      groups = let n = f.no_group in omega (arith, n, groups_in-trees_with d.members t);
      few = λ h. omega (arith, few);
      few_groups = λ h. h;
      deep = λ h. rw (depth_in-trees_with d.members t, flat) (omega (arith, h, deep));
      placed = λ h. AreInPlace-trees_with (kind_at b p) d.members t h f.placed;
      ranged = λ h. AreInRange-trees_with d.members t h f.ranged;
    }

-- a group behind the others
group_grows : (b : Base) (p : List GroupKind) (d d1 : Done) (t : GroupKind) (n : Name) → barred b p d (Group t) ≡ None → Grows b (t ∷ p) (opened d) d1 → Grows b p d (with_group d.members t n d1)
group_grows b p d d1 t n free f =
    let x = f.events in
    let y = f.groups in
    let q = group_free (length p) d.groups free in
    let few = q.0 in
    let shallow = q.1 in
    let inner : suc (length p) + depth_in d1.members ≤ 16 = f.deep (omega (arith, shallow)) in
    record {
      events = omega (arith, x, count_all-trees_with d.members (spec.Group (kind_in t) n d1.members));
      groups = omega (arith, y, groups_in-trees_with d.members (spec.Group (kind_in t) n d1.members));
      few = f.few;
      few_groups = λ h. f.few_groups (omega (arith, few));
      deep = λ h. rw (depth_in-trees_with d.members (spec.Group (kind_in t) n d1.members)) (omega (arith, h, inner));
      placed = λ h. AreInPlace-trees_with (kind_at b p) d.members (spec.Group (kind_in t) n d1.members) h (f.placed tt);
      ranged = λ h. AreInRange-trees_with d.members (spec.Group (kind_in t) n d1.members) h (f.ranged (All-nil IsInRange));
    }

-- settings and curves leave the members
set_grows : (b : Base) (p : List GroupKind) (s : Setting) (v : Kind) (d : Done) → Grows b p d (set s v d)
set_grows b p settings.Curve (text n) d = record { events = refl; groups = refl; few = λ h. h; few_groups = λ h. h; deep = λ h. h; placed = λ h. h; ranged = λ h. h }
set_grows b p s v d = same_grows b p d

-- settings behind one another
settings_grow : {d0 d : Done} {k : List Kind} → AreSettings d0 d k → (b : Base) (p : List GroupKind) → Grows b p d0 d
settings_grow (no_setting d) b p = same_grows b p d
settings_grow (setting d0 d k w s v front is free takes) b p = then_grows b p d0 d (set s v d) (settings_grow front b p) (set_grows b p s v d)

-- a Curve
curve_grows : (b : Base) (p : List GroupKind) (d : Done) (n : Name) → Grows b p d (with_curve d n)
curve_grows b p d n = record { events = refl; groups = refl; few = λ h. h; few_groups = λ h. h; deep = λ h. h; placed = λ h. h; ranged = λ h. h }

-- a Plot
plot_grows : (d0 d : Done) → Grows bases.Plot [] d0 d → Grows bases.Script [] d0 d
plot_grows d0 d f = record { events = f.events; groups = f.groups; few = f.few; few_groups = f.few_groups; deep = f.deep; placed = f.placed; ranged = f.ranged }

-- statements behind one another
pub grows : {b : Base} {p : List GroupKind} {d0 d : Done} {e : Bool} {k : List Kind} → Are b p d0 d e k → Grows b p d0 d
grows (empty b p d) = same_grows b p d
grows (event b p d0 d e k c g front o free is whole) = then_grows b p d0 d (with_event d (event_in c g)) (grows front) (event_grows b p d (event_in c g) (event_fits c g b p d is free whole))
grows (group b p d0 d d1 e e1 k body t g front o free whole inner) = then_grows b p d0 d (with_group d.members t (name_in g) d1) (grows front) (group_grows b p d d1 t (name_in g) free (grows inner))
grows (semicolon b p d0 d k front) = grows front
grows (curve b p d0 d e k g front free whole) = then_grows b p d0 d _ (grows front) (curve_grows b p d _)
grows (options b p d0 d d1 e k body g front free whole inner) = then_grows b p d0 d d1 (grows front) (settings_grow inner b p)
grows (plot d0 d d1 e e1 k body g front whole inner) = then_grows bases.Script [] d0 d d1 (grows front) (plot_grows d d1 (grows inner))

-- a script spells a model
pub script-model : {d : Done} {e : Bool} {k : List Kind} → Are bases.Script [] start d e k → IsModel d.members
script-model {d = d} are =
    let g = grows are in
    let x = g.events in
    let y = g.groups in
    let few = g.few (omega arith) in
    let few_groups = g.few_groups (omega arith) in
    let deep = g.deep (omega arith) in
    record {
      limits = record { events = omega (arith, x, few); groups = omega (arith, y, few_groups); depth = omega (arith, deep) };
      placed = g.placed tt;
      ranged = g.ranged (All-nil IsInRange);
    }

-- a chronology that bytes spell is a model
pub each-spelled : EachSpelledIsModel
each-spelled bytes c h = let g = h.grammar in subst IsModel g.top (script-model g.statements)

-- what one statement leaves
single-within : {d : Done} {e : Bool} {k : List Kind} → Are bases.Single [] start d e k → (t : Tree) → d.members ≡ more t none → IsWithin t
single-within {d = d} are t sole =
    let g = grows are in
    let x = g.events in
    let y = g.groups in
    let few = g.few (omega arith) in
    let few_groups = g.few_groups (omega arith) in
    let deep = g.deep (omega arith) in
    let limits : model.IsWithinLimits d.members = record { events = omega (arith, x, few); groups = omega (arith, y, few_groups); depth = omega (arith, deep) } in
    let placed : AreInPlace spec.Sequence (more t none) = subst (λ (ts : Trees). AreInPlace spec.Sequence ts) sole (g.placed tt) in
    record {
      limits = subst (λ (ts : Trees). model.IsWithinLimits ts) sole limits;
      placed = placed.0;
      ranged = subst (λ (ts : Trees). AreInRange ts) sole (g.ranged (All-nil IsInRange));
    }

-- a statement that bytes spell is within the limits of a model
pub each-statement : EachStatementIsWithinLimits
each-statement bytes t h = let g = h.grammar in single-within g.statements t g.alone
