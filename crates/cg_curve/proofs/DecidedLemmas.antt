-- Each list of bytes is a file of one curve, or has one fault.
use Rattle.std.proofs.Common.{◌≡◌, ℕ, zero, suc, ◌<◌, ◌≤◌, ◌⊎◌, inl, inr, Bool, true, false, cond, not, List, [], ◌∷◌, ◌++◌, length, Option, Some, None, Result, Ok, Err, refl, sym, ap, subst, ◌∙◌, arith, append_assoc, append-nil, length-append, get_or}
use Rattle.std.specs.Prelude.{reverse, All, nat_le, nat_lt}
use Rattle.std.proofs.lemmas.List.{reverse-reverse, length-reverse}
use Rattle.std.proofs.lemmas.Bool.Decides.{nat_tests}
use Rattle.cg_meaning.specs.Curve.{Row, Curve}
use Rattle.cg_curve.specs.Lines.{data_lines}
use Rattle.cg_curve.specs.Rows.{row_of, SayRows, IsRowInRange, EachNext, IsOlder, IsYounger, IsNear, IsCurve}
use Rattle.cg_curve.specs.File.{AreInOrder, AreGood, FailsAt, SaysNone, PassesRange, BreaksOrder, LeavesGap, IsTooMany, HasFault, IsCurveFile, EachIsDecided}
use Rattle.cg_curve.specs.Reading.{in_range, in_order, is_near, with_row, oldest_first}
use Rattle.cg_curve.specs.declared.fault.CurveFault.{CurveFault}
use Rattle.cg_curve.specs.declared.fault.CurveFault.TheVariants.{BadRow, OutOfRange, Order, Gap, TooMany, TooFew, NoMemory}
use Rattle.cg_curve.proofs.RowLemmas.{tests_true, tests_false, range_test, order_test, near_test, full_test, reverse_cons, EachNext-front, EachNext-reverse, near_reverse, never_both}
use Rattle.cg_curve.proofs.FileLemmas.{IsCause, Outcome, outcome, say_more, good_back, none_good, fault_in}
use Rattle.cg_curve.proofs.CurveLemmas.{All-reverse, file_of_good, too_few}

-- ---- some curve or some fault

-- the rows of all lines are good, or some line has a fault
abbrev IsRead : List ℕ → Type 0
IsRead bytes = ((rows : List Row) × SayRows (data_lines bytes) rows × AreGood rows) ⊎ ((fault : CurveFault) × HasFault bytes fault)

grown : (rows : List Row) (row : Row) → AreGood (reverse (reverse rows) ++ row ∷ []) → AreGood (rows ++ row ∷ [])
grown rows row good = subst (λ (rs : List Row). AreGood (rs ++ row ∷ [])) (reverse-reverse rows) good

read_next : (bytes : List ℕ) (before others : List (ℕ × List ℕ)) (line : ℕ × List ℕ) (rows : List Row) (r : Result (List Row) CurveFault) → data_lines bytes ≡ before ++ line ∷ others → SayRows before rows → AreGood rows
    → Outcome line.0 (reverse rows) (row_of line.1) r
    → ((row : Row) → data_lines bytes ≡ (before ++ line ∷ []) ++ others → SayRows (before ++ line ∷ []) (rows ++ row ∷ []) → AreGood (rows ++ row ∷ []) → IsRead bytes) → IsRead bytes
read_next bytes before others line rows (Ok now) parted said good takes more =
    more takes.row (parted ∙ sym (append_assoc before (line ∷ []) others)) (say_more before rows line.0 line.1 takes.row said takes.says) (grown rows takes.row takes.good)
read_next bytes before others line rows (Err fault) parted said good cause more =
    inr (fault, fault_in bytes before others line.0 line.1 rows fault parted said good (subst (λ (rs : List Row). IsCause fault line.0 rs (row_of line.1)) (reverse-reverse rows) cause))

read_from : (bytes : List ℕ) (others before : List (ℕ × List ℕ)) (rows : List Row) → data_lines bytes ≡ before ++ others → SayRows before rows → AreGood rows → IsRead bytes
read_from bytes [] before rows parted said good =
    inl (rows, subst (λ (ls : List (ℕ × List ℕ)). SayRows ls rows) (sym (parted ∙ append-nil before)) said, good)
read_from bytes (line ∷ others) before rows parted said good =
    read_next bytes before others line rows (with_row line.0 (reverse rows) (row_of line.1)) parted said good (outcome line.0 (reverse rows) (row_of line.1) (good_back rows good))
    (λ row parted' said' good'. read_from bytes others (before ++ line ∷ []) (rows ++ row ∷ []) parted' said' good')

enough : (rows : List Row) → (2 ≤ length rows) ⊎ (length rows < 2)
enough [] = inr (omega arith)
enough (row ∷ []) = inr (omega arith)
enough (row ∷ next ∷ rows) = inl (omega arith)

some_answer : (bytes : List ℕ) → IsRead bytes → ((curve : Curve) × IsCurveFile bytes curve) ⊎ ((fault : CurveFault) × HasFault bytes fault)
some_answer bytes (inl r) =
    elim (enough r.0) [
      | inl some ↦ inl (oldest_first r.0, file_of_good bytes r.0 r.1 r.2 some)
      | inr few ↦ inr (TooFew, too_few bytes r.0 r.1 r.2 few)
    ]
some_answer bytes (inr f) = inr f

-- ---- one curve or one fault

-- what reading line by line comes to
abbrev go_on : Result (List Row) CurveFault → (List Row → Result (List Row) CurveFault) → Result (List Row) CurveFault
go_on (Ok now) next = next now
go_on (Err fault) next = Err fault

abbrev reading : List (ℕ × List ℕ) → List Row → Result (List Row) CurveFault
reading [] back = Ok back
reading (line ∷ lines) back = go_on (with_row line.0 back (row_of line.1)) (λ now. reading lines now)

abbrev verdict : Result (List Row) CurveFault → Result (List Row) CurveFault
verdict (Err fault) = Err fault
verdict (Ok back) = cond (nat_lt (length back) 2) (Err TooFew) (Ok back)

last_of : (P : Row → Type 0) (rows : List Row) (row : Row) → All P (rows ++ row ∷ []) → P row
last_of P [] row h = h 0 row (omega arith)
last_of P (first ∷ rows) row h = last_of P rows row (λ k d lt. h (suc k) d (omega arith))

cons_all : (P : Row → Type 0) (row : Row) (rows : List Row) → P row → All P rows → (k : ℕ) (d : Row) → k < length (row ∷ rows) → P (get_or (row ∷ rows) k d)
cons_all P row rows h rest zero d lt = h
cons_all P row rows h rest (suc k) d lt = rest k d (omega arith)

all_front : (P : Row → Type 0) (rows more : List Row) → All P (rows ++ more) → All P rows
all_front P [] more h = λ k d lt. absurd (omega arith)
all_front P (row ∷ rows) more h = cons_all P row rows (h 0 row (omega arith)) (all_front P rows more (λ k d lt. h (suc k) d (omega arith)))

order_front : (rows more : List Row) → AreInOrder (rows ++ more) → AreInOrder rows
order_front rows more (inl h) = inl (EachNext-front IsOlder rows more h)
order_front rows more (inr h) = inr (EachNext-front IsYounger rows more h)

good_front : (rows more : List Row) → AreGood (rows ++ more) → AreGood rows
good_front rows more good = record {
  in_range = all_front IsRowInRange rows more good.in_range;
  order = order_front rows more good.order;
  near = EachNext-front IsNear rows more good.near;
  few = omega (arith, length-append rows more, good.few);
}

-- the chain of tests
abbrev chain : ℕ → List Row → Row → Bool → Bool → Bool → Bool → Result (List Row) CurveFault
chain number back row r o g f = cond (not r) (Err (OutOfRange number)) (cond (not o) (Err (Order number)) (cond (not g) (Err (Gap number)) (cond f (Err (TooMany number)) (Ok (row ∷ back)))))

chain_ok : (number : ℕ) (back : List Row) (row : Row) (r o g f : Bool) → r ≡ true → o ≡ true → g ≡ true → f ≡ false → chain number back row r o g f ≡ Ok (row ∷ back)
chain_ok number back row r o g f p q s t = rw (p, q, s, t) refl

chain_range : (number : ℕ) (back : List Row) (row : Row) (r o g f : Bool) → r ≡ false → chain number back row r o g f ≡ Err (OutOfRange number)
chain_range number back row r o g f p = rw p refl

chain_order : (number : ℕ) (back : List Row) (row : Row) (r o g f : Bool) → r ≡ true → o ≡ false → chain number back row r o g f ≡ Err (Order number)
chain_order number back row r o g f p q = rw (p, q) refl

chain_gap : (number : ℕ) (back : List Row) (row : Row) (r o g f : Bool) → r ≡ true → o ≡ true → g ≡ false → chain number back row r o g f ≡ Err (Gap number)
chain_gap number back row r o g f p q s = rw (p, q, s) refl

chain_full : (number : ℕ) (back : List Row) (row : Row) (r o g f : Bool) → r ≡ true → o ≡ true → g ≡ true → f ≡ true → chain number back row r o g f ≡ Err (TooMany number)
chain_full number back row r o g f p q s t = rw (p, q, s, t) refl

range_true : (row : Row) → IsRowInRange row → in_range row ≡ true
range_true row h = tests_true (in_range row) (IsRowInRange row) (range_test row) h

order_true : (back : List Row) (row : Row) → AreGood (reverse back) → AreInOrder (reverse back ++ row ∷ []) → in_order back row.year ≡ true
order_true back row good h = tests_true (in_order back row.year) (AreInOrder (reverse back ++ row ∷ [])) (order_test back row good.order) h

near_true : (back : List Row) (row : Row) → AreGood (reverse back) → EachNext IsNear (reverse back ++ row ∷ []) → is_near back row.year ≡ true
near_true back row good h = tests_true (is_near back row.year) (EachNext IsNear (reverse back ++ row ∷ [])) (near_test back row good.near) h

accepts : (number : ℕ) (back : List Row) (row : Row) → AreGood (reverse back ++ row ∷ []) → with_row number back (Some row) ≡ Ok (row ∷ back)
accepts number back row good =
    let before = good_front (reverse back) (row ∷ []) good in
    let full : nat_le 20000 (length back) ≡ false =
    tests_false (nat_le 20000 (length back)) (20000 < length (reverse back ++ row ∷ [])) (full_test back row) (λ h. omega (arith, h, good.few)) in
    chain_ok number back row (in_range row) (in_order back row.year) (is_near back row.year) (nat_le 20000 (length back))
    (range_true row (last_of IsRowInRange (reverse back) row good.in_range)) (order_true back row before good.order) (near_true back row before good.near) full

refuses_row : (number : ℕ) (back : List Row) (row : Row) (fault : CurveFault) → AreGood (reverse back) → IsCause fault number (reverse back) (Some row) → with_row number back (Some row) ≡ Err fault
refuses_row number back row (BadRow k) good c = absurd (cc (c.1))
refuses_row number back row (OutOfRange k) good c =
    chain_range number back row (in_range row) (in_order back row.year) (is_near back row.year) (nat_le 20000 (length back)) (tests_false (in_range row) (IsRowInRange row) (range_test row) c.1)
    ∙ ap (λ (n : ℕ). Err (OutOfRange n)) (sym c.0)
refuses_row number back row (Order k) good c =
    chain_order number back row (in_range row) (in_order back row.year) (is_near back row.year) (nat_le 20000 (length back)) (range_true row c.1.0)
    (tests_false (in_order back row.year) (AreInOrder (reverse back ++ row ∷ [])) (order_test back row good.order) c.1.1)
    ∙ ap (λ (n : ℕ). Err (Order n)) (sym c.0)
refuses_row number back row (Gap k) good c =
    chain_gap number back row (in_range row) (in_order back row.year) (is_near back row.year) (nat_le 20000 (length back)) (range_true row c.1.0) (order_true back row good c.1.1)
    (tests_false (is_near back row.year) (EachNext IsNear (reverse back ++ row ∷ [])) (near_test back row good.near) c.1.2)
    ∙ ap (λ (n : ℕ). Err (Gap n)) (sym c.0)
refuses_row number back row (TooMany k) good c =
    chain_full number back row (in_range row) (in_order back row.year) (is_near back row.year) (nat_le 20000 (length back)) (range_true row c.1.0) (order_true back row good c.1.1) (near_true back row good c.1.2)
    (tests_true (nat_le 20000 (length back)) (20000 < length (reverse back ++ row ∷ [])) (full_test back row) c.1.3)
    ∙ ap (λ (n : ℕ). Err (TooMany n)) (sym c.0)
refuses_row number back row TooFew good c = absurd c
refuses_row number back row NoMemory good c = absurd c

refuses_none : (number : ℕ) (back : List Row) (fault : CurveFault) → IsCause fault number (reverse back) None → with_row number back None ≡ Err fault
refuses_none number back (BadRow k) c = ap (λ (n : ℕ). Err (BadRow n)) (sym c.0)
refuses_none number back (OutOfRange k) c = absurd c.1
refuses_none number back (Order k) c = absurd c.1
refuses_none number back (Gap k) c = absurd c.1
refuses_none number back (TooMany k) c = absurd c.1
refuses_none number back TooFew c = absurd c
refuses_none number back NoMemory c = absurd c

refuses : (number : ℕ) (back : List Row) (said : Option Row) (fault : CurveFault) → AreGood (reverse back) → IsCause fault number (reverse back) said → with_row number back said ≡ Err fault
refuses number back None fault good c = refuses_none number back fault c
refuses number back (Some row) fault good c = refuses_row number back row fault good c

first_said : (line : ℕ × List ℕ) (lines : List (ℕ × List ℕ)) (row : Row) (rows : List Row) → SayRows (line ∷ lines) (row ∷ rows) → (row_of line.1 ≡ Some row) × SayRows lines rows
first_said line lines row rows said = (cc, cc)

-- good rows of the lines before are read
reads_front : (before others : List (ℕ × List ℕ)) (rows back : List Row) → SayRows before rows → AreGood (reverse back ++ rows) → reading (before ++ others) back ≡ reading others (reverse rows ++ back)
reads_front [] others [] back said good = refl
reads_front [] others (row ∷ rows) back said good = absurd (cc)
reads_front (line ∷ before) others [] back said good = absurd (cc)
reads_front (line ∷ before) others (row ∷ rows) back said good =
    let says = first_said line before row rows said in
    let same : reverse back ++ row ∷ rows ≡ (reverse back ++ row ∷ []) ++ rows = sym (append_assoc (reverse back) (row ∷ []) rows) in
    let good' : AreGood ((reverse back ++ row ∷ []) ++ rows) = subst (λ (rs : List Row). AreGood rs) same good in
    let taken : with_row line.0 back (row_of line.1) ≡ Ok (row ∷ back) =
    ap (λ (said : Option Row). with_row line.0 back said) says.0 ∙ accepts line.0 back row (good_front (reverse back ++ row ∷ []) rows good') in
    let next : AreGood (reverse (row ∷ back) ++ rows) = subst (λ (rs : List Row). AreGood (rs ++ rows)) (sym (reverse_cons row back)) good' in
    ap (λ (r : Result (List Row) CurveFault). go_on r (λ now. reading (before ++ others) now)) taken
    ∙ reads_front before others rows (row ∷ back) says.1 next
    ∙ ap (λ (back' : List Row). reading others back') (sym (append_assoc (reverse rows) (row ∷ []) back) ∙ ap (λ (rs : List Row). rs ++ back) (sym (reverse_cons row rows)))

reads_all : (bytes : List ℕ) (rows : List Row) → SayRows (data_lines bytes) rows → AreGood rows → reading (data_lines bytes) [] ≡ Ok (reverse rows)
reads_all bytes rows said good =
    ap (λ (ls : List (ℕ × List ℕ)). reading ls []) (sym (append-nil (data_lines bytes))) ∙ reads_front (data_lines bytes) [] rows [] said good
    ∙ ap (λ (back : List Row). Ok back) (append-nil (reverse rows))

fault_at : (bytes : List ℕ) (k : ℕ) (Cause : List Row → Option Row → Type 0) (fault : CurveFault) → ((rows : List Row) (said : Option Row) → Cause rows said → IsCause fault k rows said)
    → FailsAt bytes k Cause → verdict (reading (data_lines bytes) []) ≡ Err fault
fault_at bytes k Cause fault is f =
    let cause : IsCause fault k (reverse (reverse f.rows)) (row_of f.line) =
    subst (λ (rs : List Row). IsCause fault k rs (row_of f.line)) (sym (reverse-reverse f.rows)) (is f.rows (row_of f.line) f.cause) in
    let stops : with_row k (reverse f.rows) (row_of f.line) ≡ Err fault = refuses k (reverse f.rows) (row_of f.line) fault (good_back f.rows f.good) cause in
    let ends : reading (data_lines bytes) [] ≡ Err fault =
    ap (λ (ls : List (ℕ × List ℕ)). reading ls []) f.parted
    ∙ reads_front f.before ((k, f.line) ∷ f.others) f.rows [] f.said f.good
    ∙ ap (λ (back : List Row). reading ((k, f.line) ∷ f.others) back) (append-nil (reverse f.rows))
    ∙ ap (λ (r : Result (List Row) CurveFault). go_on r (λ now. reading f.others now)) stops in
    ap verdict ends

few_test : (n : ℕ) → n < 2 → nat_lt n 2 ≡ true
few_test n h = grind (arith, nat_tests)

enough_test : (n : ℕ) → 2 ≤ n → nat_lt n 2 ≡ false
enough_test n h = grind (arith, nat_tests)

-- a fault is what reading comes to
fault_read : (bytes : List ℕ) (fault : CurveFault) → HasFault bytes fault → verdict (reading (data_lines bytes) []) ≡ Err fault
fault_read bytes (BadRow k) h = fault_at bytes k SaysNone (BadRow k) (λ rows said c. (refl, c)) h
fault_read bytes (OutOfRange k) h = fault_at bytes k PassesRange (OutOfRange k) (λ rows said c. (refl, c)) h
fault_read bytes (Order k) h = fault_at bytes k BreaksOrder (Order k) (λ rows said c. (refl, c)) h
fault_read bytes (Gap k) h = fault_at bytes k LeavesGap (Gap k) (λ rows said c. (refl, c)) h
fault_read bytes (TooMany k) h = fault_at bytes k IsTooMany (TooMany k) (λ rows said c. (refl, c)) h
fault_read bytes TooFew h =
    ap verdict (reads_all bytes h.rows h.said h.good)
    ∙ ap (λ (b : Bool). cond b (Err TooFew) (Ok (reverse h.rows))) (few_test (length (reverse h.rows)) (omega (arith, length-reverse h.rows, h.too_few)))
fault_read bytes NoMemory h = absurd h

rows_read : (bytes : List ℕ) (rows : List Row) → SayRows (data_lines bytes) rows → AreGood rows → 2 ≤ length rows → verdict (reading (data_lines bytes) []) ≡ Ok (reverse rows)
rows_read bytes rows said good some =
    ap verdict (reads_all bytes rows said good)
    ∙ ap (λ (b : Bool). cond b (Err TooFew) (Ok (reverse rows))) (enough_test (length (reverse rows)) (omega (arith, length-reverse rows, some)))

curve_good : (curve : Curve) → IsCurve curve → AreGood curve
curve_good curve c = record { in_range = c.in_range; order = inl c.order; near = c.near; few = c.few }

risen_good : (curve : Curve) → IsCurve curve → AreGood (reverse curve)
risen_good curve c = record {
  in_range = All-reverse IsRowInRange curve c.in_range;
  order = inr (EachNext-reverse IsOlder curve c.order);
  near = near_reverse curve c.near;
  few = omega (arith, length-reverse curve, c.few);
}

-- a curve file is read as its rows in one of the two orders
file_read : (bytes : List ℕ) (curve : Curve) → IsCurveFile bytes curve
    → (verdict (reading (data_lines bytes) []) ≡ Ok (reverse curve)) ⊎ (verdict (reading (data_lines bytes) []) ≡ Ok (reverse (reverse curve)))
file_read bytes curve file =
    elim file.rows [
      | inl said ↦ inl (rows_read bytes curve said (curve_good curve file.is_curve) file.is_curve.some)
      | inr said ↦ inr (rows_read bytes (reverse curve) said (risen_good curve file.is_curve) (omega (arith, length-reverse curve, file.is_curve.some)))
    ]

same_fault : (r : Result (List Row) CurveFault) (f g : CurveFault) → r ≡ Err f → r ≡ Err g → f ≡ g
same_fault r f g p q = cc

same_rows : (r : Result (List Row) CurveFault) (a b : List Row) → r ≡ Ok (reverse a) → r ≡ Ok (reverse b) → a ≡ b
same_rows r a b p q = let e : reverse a ≡ reverse b = cc in sym (reverse-reverse a) ∙ ap (λ (rs : List Row). reverse rs) e ∙ reverse-reverse b

no_fault : (r : Result (List Row) CurveFault) (rows : List Row) (f : CurveFault) → r ≡ Ok rows → r ≡ Err f → ⊥
no_fault r rows f p q = absurd (cc)

both_ways : (rows : List Row) → 2 ≤ length rows → EachNext IsOlder rows → EachNext IsYounger rows → ⊥
both_ways [] some falls rises = absurd (omega arith)
both_ways (row ∷ []) some falls rises = absurd (omega arith)
both_ways (row ∷ next ∷ rows) some falls rises = never_both next.year row.year falls.0 rises.0

not_turned : (a b : Curve) → IsCurve a → IsCurve b → a ≡ reverse b → ⊥
not_turned a b ca cb e = both_ways a ca.some ca.order (subst (λ (rs : List Row). EachNext IsYounger rs) (sym e) (EachNext-reverse IsOlder b cb.order))

turned : (a b : Curve) → reverse a ≡ reverse b → a ≡ b
turned a b e = sym (reverse-reverse a) ∙ ap (λ (rs : List Row). reverse rs) e ∙ reverse-reverse b

one_curve : (bytes : List ℕ) (a b : Curve) → IsCurveFile bytes a → IsCurveFile bytes b → a ≡ b
one_curve bytes a b fa fb =
    let r = verdict (reading (data_lines bytes) []) in
    elim (file_read bytes a fa) [
      | inl p ↦ elim (file_read bytes b fb) [
        | inl q ↦ same_rows r a b p q
        | inr q ↦ absurd (not_turned a b fa.is_curve fb.is_curve (same_rows r a (reverse b) p q))
      ]
      | inr p ↦ elim (file_read bytes b fb) [
        | inl q ↦ absurd (not_turned b a fb.is_curve fa.is_curve (sym (same_rows r (reverse a) b p q)))
        | inr q ↦ turned a b (same_rows r (reverse a) (reverse b) p q)
      ]
    ]

not_both : (bytes : List ℕ) (curve : Curve) (fault : CurveFault) → IsCurveFile bytes curve → ¬ HasFault bytes fault
not_both bytes curve fault file h =
    let r = verdict (reading (data_lines bytes) []) in
    elim (file_read bytes curve file) [
      | inl p ↦ no_fault r (reverse curve) fault p (fault_read bytes fault h)
      | inr p ↦ no_fault r (reverse (reverse curve)) fault p (fault_read bytes fault h)
    ]

pub each_is_decided : EachIsDecided
each_is_decided bytes = record {
  one = some_answer bytes (read_from bytes (data_lines bytes) [] [] refl refl none_good);
  not_both = not_both bytes;
  one_curve = one_curve bytes;
  one_fault = λ f g hf hg. same_fault (verdict (reading (data_lines bytes) [])) f g (fault_read bytes f hf) (fault_read bytes g hg);
}
