-- Rows against their neighbours: one row more, the other way round, and what the tests of a next row say.
use Rattle.std.proofs.Common.{◌≡◌, ℕ, ◌+◌, ◌<◌, ◌≤◌, ◌⊎◌, inl, inr, Bool, true, false, cond, not, ◌&&◌, List, [], ◌∷◌, ◌++◌, length, refl, sym, ap, subst, ◌∙◌, arith, ℤ, pos, negsuc, ◌<ℤ◌, ◌≤ℤ◌, ◌-ℤ◌, length-append}
use Rattle.std.specs.Prelude.{reverse, int_lt, nat_le, unsigned_abs}
use Rattle.std.specs.Ordering.{is_eq}
use Rattle.std.specs.declared.cmp.Ordering.TheVariants.{Less, Equal, Greater}
use Rattle.std.proofs.lemmas.List.{reverse-append, reverse-reverse, length-reverse}
use Rattle.std.proofs.lemmas.Bool.Decides.{nat_tests}
use Rattle.std.proofs.lemmas.Int.{ints}
use Rattle.cg_meaning.specs.Curve.{Row}
use Rattle.cg_curve.specs.Rows.{IsRowInRange, EachNext, IsOlder, IsYounger, IsNear}
use Rattle.cg_curve.specs.File.{AreInOrder}
use Rattle.cg_curve.specs.Reading.{in_range, in_order, is_near}

-- the test says whether the fact holds
abbrev pub Tests : Bool → Type 0 → Type 0
Tests true Fact = Fact
Tests false Fact = ¬ Fact

-- where the fact holds the test is passed, and else it isn't
pub tests_true : (b : Bool) (Fact : Type 0) → Tests b Fact → Fact → b ≡ true
tests_true true Fact t h = refl
tests_true false Fact t h = absurd (t h)

pub tests_false : (b : Bool) (Fact : Type 0) → Tests b Fact → ¬ Fact → b ≡ false
tests_false true Fact t h = absurd (h t)
tests_false false Fact t h = refl

-- a test of the other fact, if the two come together
pub tests_same : (b : Bool) (A B : Type 0) → (A → B) → (B → A) → Tests b A → Tests b B
tests_same true A B f g t = f t
tests_same false A B f g t = λ h. t (g h)

-- ---- neighbours

-- the relation the other way round
abbrev flipped : (Row → Row → Type 0) → Row → Row → Type 0
flipped Next row next = Next next row

snoc : (Next : Row → Row → Type 0) (rows : List Row) (x y : Row) → EachNext Next (rows ++ x ∷ []) → Next x y → EachNext Next ((rows ++ x ∷ []) ++ y ∷ [])
snoc Next [] x y h r = (r, tt)
snoc Next (z ∷ []) x y h r = (h.0, (r, tt))
snoc Next (z ∷ w ∷ rows) x y h r = (h.0, snoc Next (w ∷ rows) x y h.1 r)

unsnoc : (Next : Row → Row → Type 0) (rows : List Row) (x y : Row) → EachNext Next ((rows ++ x ∷ []) ++ y ∷ []) → EachNext Next (rows ++ x ∷ []) × Next x y
unsnoc Next [] x y h = (tt, h.0)
unsnoc Next (z ∷ []) x y h = ((h.0, tt), h.1.0)
unsnoc Next (z ∷ w ∷ rows) x y h = let rest = unsnoc Next (w ∷ rows) x y h.1 in ((h.0, rest.0), rest.1)

pub reverse_cons : (row : Row) (rows : List Row) → reverse (row ∷ rows) ≡ reverse rows ++ row ∷ []
reverse_cons row rows = reverse-append (row ∷ []) rows

reverse_two : (row next : Row) (rows : List Row) → reverse (row ∷ next ∷ rows) ≡ (reverse rows ++ next ∷ []) ++ row ∷ []
reverse_two row next rows = reverse_cons row (next ∷ rows) ∙ ap (λ front. front ++ row ∷ []) (reverse_cons next rows)

pub EachNext-reverse : (Next : Row → Row → Type 0) (rows : List Row) → EachNext Next rows → EachNext (flipped Next) (reverse rows)
EachNext-reverse Next [] h = tt
EachNext-reverse Next (row ∷ []) h = tt
EachNext-reverse Next (row ∷ next ∷ rows) h =
    let rest : EachNext (flipped Next) (reverse rows ++ next ∷ []) = subst (λ (rs : List Row). EachNext (flipped Next) rs) (reverse_cons next rows) (EachNext-reverse Next (next ∷ rows) h.1) in
    subst (λ (rs : List Row). EachNext (flipped Next) rs) (sym (reverse_two row next rows)) (snoc (flipped Next) (reverse rows) next row rest h.0)

pub EachNext-from_reverse : (Next : Row → Row → Type 0) (rows : List Row) → EachNext (flipped Next) (reverse rows) → EachNext Next rows
EachNext-from_reverse Next rows h =
    subst (λ (rs : List Row). EachNext Next rs) (reverse-reverse rows) (EachNext-reverse (flipped Next) (reverse rows) h)

-- the first rows of such rows are such rows
pub EachNext-front : (Next : Row → Row → Type 0) (rows more : List Row) → EachNext Next (rows ++ more) → EachNext Next rows
EachNext-front Next [] more h = tt
EachNext-front Next (row ∷ []) more h = tt
EachNext-front Next (row ∷ next ∷ rows) more h = (h.0, EachNext-front Next (next ∷ rows) more h.1)

-- ---- the newest row first

-- the years of rows, the newest first, go one way
abbrev GoOneWay : List Row → Type 0
GoOneWay back = EachNext IsYounger back ⊎ EachNext IsOlder back

pub order_from_back : (back : List Row) → GoOneWay back → AreInOrder (reverse back)
order_from_back back (inl h) = inl (EachNext-reverse IsYounger back h)
order_from_back back (inr h) = inr (EachNext-reverse IsOlder back h)

pub order_to_back : (back : List Row) → AreInOrder (reverse back) → GoOneWay back
order_to_back back (inl h) = inl (EachNext-from_reverse IsYounger back h)
order_to_back back (inr h) = inr (EachNext-from_reverse IsOlder back h)

near_swap : (a b : Row) → IsNear a b → IsNear b a
near_swap a b h = omega (arith, ints)

near_flip : (rows : List Row) → EachNext (flipped IsNear) rows → EachNext IsNear rows
near_flip [] h = tt
near_flip (row ∷ []) h = tt
near_flip (row ∷ next ∷ rows) h = (near_swap next row h.0, near_flip (next ∷ rows) h.1)

pub near_reverse : (rows : List Row) → EachNext IsNear rows → EachNext IsNear (reverse rows)
near_reverse rows h = near_flip (reverse rows) (EachNext-reverse IsNear rows h)

pub near_from_reverse : (rows : List Row) → EachNext IsNear (reverse rows) → EachNext IsNear rows
near_from_reverse rows h = subst (λ (rs : List Row). EachNext IsNear rs) (reverse-reverse rows) (near_reverse (reverse rows) h)

-- ---- the tests

pub lt_yes : (a b : ℤ) → int_lt a b ≡ true → a <ℤ b
lt_yes a b e = grind (arith, ints)

pub lt_no : (a b : ℤ) → int_lt a b ≡ false → b ≤ℤ a
lt_no a b e = grind (arith, ints)

pub lt_true : (a b : ℤ) → a <ℤ b → int_lt a b ≡ true
lt_true a b h = grind (arith, ints)

pub lt_false : (a b : ℤ) → a <ℤ b → int_lt b a ≡ false
lt_false a b h = grind (arith, ints)

pub never : (a b : ℤ) → a <ℤ b → ¬ (b ≤ℤ a)
never a b h k = omega (arith, ints)

pub never_both : (a b : ℤ) → a <ℤ b → ¬ (b <ℤ a)
never_both a b h k = omega (arith, ints)

le_yes : (a b : ℕ) → nat_le a b ≡ true → a ≤ b
le_yes a b e = grind (arith, nat_tests)

le_no : (a b : ℕ) → nat_le a b ≡ false → ¬ (a ≤ b)
le_no a b e h = grind (arith, nat_tests)

range_by : (row : Row) (a b c d : Bool) → int_lt row.age (negsuc 9999999) ≡ a → int_lt (pos 70000000) row.age ≡ b → int_lt row.sigma (pos 0) ≡ c → int_lt (pos 10000000) row.sigma ≡ d
    → Tests (not a && (not b && (not c && not d))) (IsRowInRange row)
range_by row true b c d e f g h = λ r. never row.age (negsuc 9999999) (lt_yes row.age (negsuc 9999999) e) r.age_low
range_by row false true c d e f g h = λ r. never (pos 70000000) row.age (lt_yes (pos 70000000) row.age f) r.age_high
range_by row false false true d e f g h = λ r. never row.sigma (pos 0) (lt_yes row.sigma (pos 0) g) r.sigma_low
range_by row false false false true e f g h = λ r. never (pos 10000000) row.sigma (lt_yes (pos 10000000) row.sigma h) r.sigma_high
range_by row false false false false e f g h = record {
  age_low = lt_no row.age (negsuc 9999999) e;
  age_high = lt_no (pos 70000000) row.age f;
  sigma_low = lt_no row.sigma (pos 0) g;
  sigma_high = lt_no (pos 10000000) row.sigma h;
}

-- whether a row is in range
pub range_test : (row : Row) → Tests (in_range row) (IsRowInRange row)
range_test row = range_by row (int_lt row.age (negsuc 9999999)) (int_lt (pos 70000000) row.age) (int_lt row.sigma (pos 0)) (int_lt (pos 10000000) row.sigma) refl refl refl refl

falls_on : (row last before : Row) (rows : List Row) (v : Bool) → int_lt row.year last.year ≡ v → EachNext IsYounger (last ∷ before ∷ rows) → Tests v (GoOneWay (row ∷ last ∷ before ∷ rows))
falls_on row last before rows true e way = inl (lt_yes row.year last.year e, way)
falls_on row last before rows false e way = λ g. elim g [ inl k ↦ never row.year last.year k.0 (lt_no row.year last.year e) | inr k ↦ never_both last.year before.year way.0 k.1.0 ]

rises_on : (row last before : Row) (rows : List Row) (v : Bool) → int_lt last.year row.year ≡ v → EachNext IsOlder (last ∷ before ∷ rows) → Tests v (GoOneWay (row ∷ last ∷ before ∷ rows))
rises_on row last before rows true e way = inr (lt_yes last.year row.year e, way)
rises_on row last before rows false e way = λ g. elim g [ inl k ↦ never_both before.year last.year way.0 k.1.0 | inr k ↦ never last.year row.year k.0 (lt_no last.year row.year e) ]

goes_on : (row last before : Row) (rows : List Row) → GoOneWay (last ∷ before ∷ rows) → Tests (in_order (last ∷ before ∷ rows) row.year) (GoOneWay (row ∷ last ∷ before ∷ rows))
goes_on row last before rows (inl way) =
    let falls : int_lt last.year before.year ≡ true = lt_true last.year before.year way.0 in
    subst (λ (v : Bool). Tests (cond v (int_lt row.year last.year) (int_lt last.year row.year)) (GoOneWay (row ∷ last ∷ before ∷ rows))) (sym falls)
    (falls_on row last before rows (int_lt row.year last.year) refl way)
goes_on row last before rows (inr way) =
    let rises : int_lt last.year before.year ≡ false = lt_false before.year last.year way.0 in
    subst (λ (v : Bool). Tests (cond v (int_lt row.year last.year) (int_lt last.year row.year)) (GoOneWay (row ∷ last ∷ before ∷ rows))) (sym rises)
    (rises_on row last before rows (int_lt last.year row.year) refl way)

differ_by : (row last : Row) (v w : Bool) → int_lt row.year last.year ≡ v → int_lt last.year row.year ≡ w
    → Tests (not (is_eq (cond v Less (cond w Greater Equal)))) (GoOneWay (row ∷ last ∷ []))
differ_by row last true w e f = inl (lt_yes row.year last.year e, tt)
differ_by row last false true e f = inr (lt_yes last.year row.year f, tt)
differ_by row last false false e f = λ g. elim g [ inl k ↦ never row.year last.year k.0 (lt_no row.year last.year e) | inr k ↦ never last.year row.year k.0 (lt_no last.year row.year f) ]

order_test_back : (back : List Row) (row : Row) → GoOneWay back → Tests (in_order back row.year) (GoOneWay (row ∷ back))
order_test_back [] row way = inl tt
order_test_back (last ∷ []) row way = differ_by row last (int_lt row.year last.year) (int_lt last.year row.year) refl refl
order_test_back (last ∷ before ∷ rows) row way = goes_on row last before rows way

near_by : (row last : Row) (rows : List Row) (v : Bool) → nat_le (unsigned_abs (last.year -ℤ row.year)) 1000 ≡ v → EachNext IsNear (last ∷ rows) → Tests v (EachNext IsNear (row ∷ last ∷ rows))
near_by row last rows true e near = (near_swap last row (le_yes (unsigned_abs (last.year -ℤ row.year)) 1000 e), near)
near_by row last rows false e near = λ g. le_no (unsigned_abs (last.year -ℤ row.year)) 1000 e (near_swap row last g.0)

near_test_back : (back : List Row) (row : Row) → EachNext IsNear back → Tests (is_near back row.year) (EachNext IsNear (row ∷ back))
near_test_back [] row near = tt
near_test_back (last ∷ rows) row near = near_by row last rows (nat_le (unsigned_abs (last.year -ℤ row.year)) 1000) refl near

-- after rows in order, the test says whether they are in order with the next
pub order_test : (back : List Row) (row : Row) → AreInOrder (reverse back) → Tests (in_order back row.year) (AreInOrder (reverse back ++ row ∷ []))
order_test back row order =
    let together : Tests (in_order back row.year) (AreInOrder (reverse (row ∷ back))) =
    tests_same (in_order back row.year) (GoOneWay (row ∷ back)) (AreInOrder (reverse (row ∷ back))) (order_from_back (row ∷ back)) (order_to_back (row ∷ back)) (order_test_back back row (order_to_back back order)) in
    subst (λ (rs : List Row). Tests (in_order back row.year) (AreInOrder rs)) (reverse_cons row back) together

-- the same of the gap
pub near_test : (back : List Row) (row : Row) → EachNext IsNear (reverse back) → Tests (is_near back row.year) (EachNext IsNear (reverse back ++ row ∷ []))
near_test back row near =
    let together : Tests (is_near back row.year) (EachNext IsNear (reverse (row ∷ back))) =
    tests_same (is_near back row.year) (EachNext IsNear (row ∷ back)) (EachNext IsNear (reverse (row ∷ back))) (near_reverse (row ∷ back)) (near_from_reverse (row ∷ back)) (near_test_back back row (near_from_reverse back near)) in
    subst (λ (rs : List Row). Tests (is_near back row.year) (EachNext IsNear rs)) (reverse_cons row back) together

full_by : (rows : List Row) (n : ℕ) (v : Bool) → nat_le 20000 n ≡ v → length rows ≡ n + 1 → Tests v (20000 < length rows)
full_by rows n true e len = let le : 20000 ≤ n = le_yes 20000 n e in omega arith
full_by rows n false e len = λ h. le_no 20000 n e (omega arith)

-- whether there are too many with the next
pub full_test : (back : List Row) (row : Row) → Tests (nat_le 20000 (length back)) (20000 < length (reverse back ++ row ∷ []))
full_test back row = full_by (reverse back ++ row ∷ []) (length back) (nat_le 20000 (length back)) refl (omega (arith, length-append (reverse back) (row ∷ []), length-reverse back))
