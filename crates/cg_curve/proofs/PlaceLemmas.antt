-- The curve at a year, found from the place of the year among the rows.
use Rattle.std.proofs.Common.{◌≡◌, ◌≢◌, ℕ, zero, suc, ◌-◌, ◌<◌, Bool, true, false, cond, ◌&&◌, List, [], ◌∷◌, length, drop, Some, None, refl, sym, ap, subst, ◌∙◌, arith, ℤ, pos, ◌<ℤ◌, ◌≤ℤ◌, get_or, drop-cons, All}
use Rattle.std.specs.Prelude.{int_lt}
use Rattle.std.specs.Ordering.{int_eq, is_eq}
use Rattle.std.specs.declared.cmp.Ordering.TheVariants.{Less, Equal, Greater}
use Rattle.std.proofs.lemmas.Int.{ints}
use Rattle.std.proofs.lemmas.List.{drop_all}
use Rattle.cg_meaning.specs.Curve.{Row, point_at, point_at_row, point_between}
use Rattle.cg_curve.specs.Rows.{IsRowInRange, EachNext, IsOlder}
use Rattle.cg_curve.specs.Point.{IsBetween}
use Rattle.cg_curve.proofs.RowLemmas.{lt_true, lt_false}

-- ---- the tests of the definition

first : {A : Type 0} (e b : Bool) (x y z : A) → e ≡ true → cond e x (cond b y z) ≡ x
first true b x y z p = refl
first false b x y z p = absurd (cc)

second : {A : Type 0} (e b : Bool) (x y z : A) → e ≡ false → b ≡ true → cond e x (cond b y z) ≡ y
second true b x y z p q = absurd (cc)
second false true x y z p q = refl
second false false x y z p q = absurd (cc)

third : {A : Type 0} (e b : Bool) (x y z : A) → e ≡ false → b ≡ false → cond e x (cond b y z) ≡ z
third true b x y z p q = absurd (cc)
third false true x y z p q = absurd (cc)
third false false x y z p q = refl

both : (a b : Bool) → a ≡ true → b ≡ true → (a && b) ≡ true
both true true p q = refl
both true false p q = q
both false b p q = p

left_fails : (a b : Bool) → a ≡ false → (a && b) ≡ false
left_fails true b p = absurd (cc)
left_fails false b p = refl

right_fails : (a b : Bool) → b ≡ false → (a && b) ≡ false
right_fails true b p = p
right_fails false b p = refl

eq_below : (a b : ℤ) → a <ℤ b → int_eq a b ≡ false
eq_below a b h = ap (λ v. is_eq (cond v Less (cond (int_lt b a) Greater Equal))) (lt_true a b h)

eq_above : (a b : ℤ) → b <ℤ a → int_eq a b ≡ false
eq_above a b h = ap (λ v. is_eq (cond v Less (cond (int_lt b a) Greater Equal))) (lt_false b a h) ∙ ap (λ v. is_eq (cond v Greater Equal)) (lt_true b a h)

not_below : (a b : ℤ) → a ≡ b → int_lt a b ≡ false
not_below a b h = grind (arith, ints)

not_under : (a b : ℤ) → b ≤ℤ a → int_lt a b ≡ false
not_under a b h = grind (arith, ints)

eq_same : (a b : ℤ) → a ≡ b → int_eq a b ≡ true
eq_same a b h = ap (λ v. is_eq (cond v Less (cond (int_lt b a) Greater Equal))) (not_below a b h) ∙ ap (λ v. is_eq (cond v Greater Equal)) (not_below b a (sym h))

below_or_same : (a b : ℤ) → a ≤ℤ b → a ≢ b → a <ℤ b
below_or_same a b h k = grind (arith, ints)

-- ---- one row or two

pub hit : (row : Row) (rows : List Row) (year : ℤ) → row.year ≡ year → point_at (row ∷ rows) year ≡ Some (point_at_row row)
hit row [] year h = ap (λ v. cond v (Some (point_at_row row)) None) (eq_same row.year year h)
hit row (next ∷ rows) year h =
    first (int_eq row.year year) (int_lt next.year year && int_lt year row.year) (Some (point_at_row row)) (Some (point_between row next year)) (point_at (next ∷ rows) year) (eq_same row.year year h)

pub skip : (older younger : Row) (rows : List Row) (year : ℤ) → younger.year <ℤ older.year → year ≤ℤ younger.year → point_at (older ∷ younger ∷ rows) year ≡ point_at (younger ∷ rows) year
skip older younger rows year falls h =
    let above : year <ℤ older.year = omega (arith, ints) in
    third (int_eq older.year year) (int_lt younger.year year && int_lt year older.year) (Some (point_at_row older)) (Some (point_between older younger year)) (point_at (younger ∷ rows) year)
    (eq_above older.year year above) (left_fails (int_lt younger.year year) (int_lt year older.year) (not_under younger.year year h))

pub on_line : (older younger : Row) (rows : List Row) (year : ℤ) → younger.year <ℤ year → year <ℤ older.year → point_at (older ∷ younger ∷ rows) year ≡ Some (point_between older younger year)
on_line older younger rows year below above =
    second (int_eq older.year year) (int_lt younger.year year && int_lt year older.year) (Some (point_at_row older)) (Some (point_between older younger year)) (point_at (younger ∷ rows) year)
    (eq_above older.year year above) (both (int_lt younger.year year) (int_lt year older.year) (lt_true younger.year year below) (lt_true year older.year above))

pub past_last : (row : Row) (year : ℤ) → year <ℤ row.year → point_at (row ∷ []) year ≡ None
past_last row year h = ap (λ v. cond v (Some (point_at_row row)) None) (eq_above row.year year h)

-- older than all rows
pub too_old : (row : Row) (rows : List Row) (year : ℤ) → EachNext IsOlder (row ∷ rows) → row.year <ℤ year → point_at (row ∷ rows) year ≡ None
too_old row [] year order h = ap (λ v. cond v (Some (point_at_row row)) None) (eq_below row.year year h)
too_old row (next ∷ rows) year order h =
    let falls = order.0 in
    let below : next.year <ℤ year = omega (arith, ints, falls) in
    let under : row.year ≤ℤ year = omega (arith, ints) in
    third (int_eq row.year year) (int_lt next.year year && int_lt year row.year) (Some (point_at_row row)) (Some (point_between row next year)) (point_at (next ∷ rows) year)
    (eq_below row.year year h) (right_fails (int_lt next.year year) (int_lt year row.year) (not_under year row.year under))
    ∙ too_old next rows year order.1 below

-- ---- the place of a year

pub fall_to : (row : Row) (rows : List Row) (k : ℕ) (d : Row) → EachNext IsOlder (row ∷ rows) → k < length (row ∷ rows) → (get_or (row ∷ rows) k d).year ≤ℤ row.year
fall_to row rows zero d order lt = omega (arith, ints)
fall_to row [] (suc k) d order lt = absurd (omega arith)
fall_to row (next ∷ rows) (suc k) d order lt =
    let rest = fall_to next rows k d order.1 (omega arith) in let falls = order.0 in
    omega (arith, ints, rest, falls)

skip_to : (rows : List Row) (year : ℤ) (q : ℕ) (d : Row) → EachNext IsOlder rows → q < length rows → year <ℤ (get_or rows q d).year → point_at rows year ≡ point_at (drop q rows) year
skip_to rows year zero d order lt above = refl
skip_to [] year (suc q) d order lt above = absurd (omega arith)
skip_to (row ∷ []) year (suc q) d order lt above = absurd (omega arith)
skip_to (row ∷ next ∷ rows) year (suc q) d order lt above =
    let within : q < length (next ∷ rows) = omega arith in
    let high = fall_to next rows q d order.1 within in
    let not_over : year ≤ℤ next.year = omega (arith, ints, high, above) in
    skip row next rows year order.0 not_over ∙ skip_to (next ∷ rows) year q d order.1 within above

before : (rows : List Row) (year : ℤ) (q h : ℕ) (d : Row) → IsBetween rows year (suc q) h → year <ℤ (get_or rows q d).year
before rows year q h d place =
    let e : suc q - 1 ≡ q = omega arith in
    subst (λ (k : ℕ). year <ℤ (get_or rows k d).year) e (place.older (omega arith) d)

one_row : (rows : List Row) (q : ℕ) (d : Row) → suc q ≡ length rows → drop q rows ≡ get_or rows q d ∷ []
one_row rows q d len =
    let lt : q < length rows = omega arith in
    drop-cons rows q d lt ∙ ap (λ rest. get_or rows q d ∷ rest) (drop_all (suc q) rows (omega arith))

two_rows : (rows : List Row) (q : ℕ) (d e : Row) → suc q < length rows → drop q rows ≡ get_or rows q d ∷ get_or rows (suc q) e ∷ drop (suc (suc q)) rows
two_rows rows q d e lt =
    let lt' : q < length rows = omega arith in
    drop-cons rows q d lt' ∙ ap (λ rest. get_or rows q d ∷ rest) (drop-cons rows (suc q) e lt)

any_row : Row
any_row = record { year = pos 0; age = pos 0; sigma = pos 0 }

-- past all rows there is no value
pub at_end : (rows : List Row) (year : ℤ) (place : ℕ) → EachNext IsOlder rows → IsBetween rows year place place → place ≡ length rows → point_at rows year ≡ None
at_end [] year zero order is len = refl
at_end (row ∷ rows) year zero order is len = absurd (omega arith)
at_end rows year (suc q) order is len =
    let above = before rows year q (suc q) any_row is in
    skip_to rows year q any_row order (omega arith) above ∙ ap (λ rs. point_at rs year) (one_row rows q any_row len) ∙ past_last (get_or rows q any_row) year above

-- before all rows there is none
pub at_start : (rows : List Row) (year : ℤ) (place : ℕ) (younger : Row) → EachNext IsOlder rows → IsBetween rows year place place → place < length rows → place ≡ 0
    → younger ≡ get_or rows place younger → younger.year ≢ year → point_at rows year ≡ None
at_start [] year place younger order is lt none row other = absurd (omega arith)
at_start (row ∷ rows) year zero younger order is lt none e other =
    let under : row.year ≤ℤ year = is.others lt younger in
    too_old row rows year order (below_or_same row.year year under (λ h. other (ap (λ (r : Row). r.year) e ∙ h)))
at_start (row ∷ rows) year (suc q) younger order is lt none e other = absurd (omega arith)

-- a row's own year
pub at_row : (rows : List Row) (year : ℤ) (place : ℕ) (younger : Row) → EachNext IsOlder rows → IsBetween rows year place place → place < length rows
    → younger ≡ get_or rows place younger → younger.year ≡ year → point_at rows year ≡ Some (point_at_row younger)
at_row [] year zero younger order is lt e same = absurd (omega arith)
at_row (row ∷ rows) year zero younger order is lt e same =
    let own : row.year ≡ year = ap (λ (r : Row). r.year) (sym e) ∙ same in
    hit row rows year own ∙ ap (λ r. Some (point_at_row r)) (sym e)
at_row rows year (suc q) younger order is lt e same =
    let above = before rows year q (suc q) younger is in
    let own : (get_or rows (suc q) younger).year ≡ year = ap (λ (r : Row). r.year) (sym e) ∙ same in
    let at_most : year ≤ℤ (get_or rows (suc q) younger).year = omega (arith, ints, own) in
    let falls : (get_or rows (suc q) younger).year <ℤ (get_or rows q younger).year = omega (arith, ints, own, above) in
    skip_to rows year q younger order (omega arith) above ∙ ap (λ rs. point_at rs year) (two_rows rows q younger younger lt)
    ∙ skip (get_or rows q younger) (get_or rows (suc q) younger) (drop (suc (suc q)) rows) year falls at_most
    ∙ hit (get_or rows (suc q) younger) (drop (suc (suc q)) rows) year own ∙ ap (λ r. Some (point_at_row r)) (sym e)

line_at : (rows : List Row) (year : ℤ) (q : ℕ) (older younger : Row) → EachNext IsOlder rows → IsBetween rows year (suc q) (suc q) → suc q < length rows
    → older ≡ get_or rows q older → younger ≡ get_or rows (suc q) younger → younger.year ≢ year → point_at rows year ≡ Some (point_between older younger year)
line_at rows year q older younger order is lt o y other =
    let above = before rows year q (suc q) older is in
    let under : (get_or rows (suc q) younger).year ≤ℤ year = is.others lt younger in
    let below = below_or_same (get_or rows (suc q) younger).year year under (λ h. other (ap (λ (r : Row). r.year) y ∙ h)) in
    skip_to rows year q older order (omega arith) above ∙ ap (λ rs. point_at rs year) (two_rows rows q older younger lt)
    ∙ on_line (get_or rows q older) (get_or rows (suc q) younger) (drop (suc (suc q)) rows) year below above
    ∙ ap (λ r. Some (point_between r (get_or rows (suc q) younger) year)) (sym o) ∙ ap (λ r. Some (point_between older r year)) (sym y)

-- between two rows
pub between_rows : (rows : List Row) (year : ℤ) (place : ℕ) (older younger : Row) → EachNext IsOlder rows → IsBetween rows year place place → place < length rows → 0 < place
    → older ≡ get_or rows (place - 1) older → younger ≡ get_or rows place younger → younger.year ≢ year → point_at rows year ≡ Some (point_between older younger year)
between_rows rows year zero older younger order is lt some o y other = absurd (omega arith)
between_rows rows year (suc q) older younger order is lt some o y other =
    let e : suc q - 1 ≡ q = omega arith in
    line_at rows year q older younger order is lt (subst (λ (k : ℕ). older ≡ get_or rows k older) e o) y other

-- what holds of each row and the next
next_at : (Next : Row → Row → Type 0) (rows : List Row) (q : ℕ) (older younger : Row) → EachNext Next rows → suc q < length rows
    → older ≡ get_or rows q older → younger ≡ get_or rows (suc q) younger → Next older younger
next_at Next [] q older younger each lt o y = absurd (omega arith)
next_at Next (row ∷ []) q older younger each lt o y = absurd (omega arith)
next_at Next (row ∷ next ∷ rows) zero older younger each lt o y =
    subst (λ (r : Row). Next older r) (sym y) (subst (λ (r : Row). Next r next) (sym o) each.0)
next_at Next (row ∷ next ∷ rows) (suc q) older younger each lt o y = next_at Next (next ∷ rows) q older younger each.1 (omega arith) o y

pub next_at_place : (Next : Row → Row → Type 0) (rows : List Row) (place : ℕ) (older younger : Row) → EachNext Next rows → place < length rows → 0 < place
    → older ≡ get_or rows (place - 1) older → younger ≡ get_or rows place younger → Next older younger
next_at_place Next rows zero older younger each lt some o y = absurd (omega arith)
next_at_place Next rows (suc q) older younger each lt some o y =
    let e : suc q - 1 ≡ q = omega arith in
    next_at Next rows q older younger each lt (subst (λ (k : ℕ). older ≡ get_or rows k older) e o) y

pub range_at : (rows : List Row) (place : ℕ) (row : Row) → All IsRowInRange rows → place < length rows → row ≡ get_or rows place row → IsRowInRange row
range_at rows place row each lt e = subst (λ (r : Row). IsRowInRange r) (sym e) (each place row lt)
