-- A curve file read line by line: the good rows so far, and the first fault.
use Rattle.std.proofs.Common.{◌≡◌, ℕ, zero, suc, ◌+◌, ◌<◌, ◌≤◌, inl, Bool, true, false, cond, not, List, [], ◌∷◌, ◌++◌, length, Option, Some, None, Result, Ok, Err, refl, sym, ap, subst, ◌∙◌, arith, append_assoc, get_or}
use Rattle.std.specs.Prelude.{reverse, map, nat_le}
use Rattle.std.specs.Str.Lines.{lines}
use Rattle.std.proofs.lemmas.List.{reverse-reverse, map-append, append-nil}
use Rattle.std.proofs.lemmas.List.Elements.{All-append}
use Rattle.cg_meaning.specs.Curve.{Row}
use Rattle.cg_curve.specs.Lines.{is_skipped, lines_from, data_lines}
use Rattle.cg_curve.specs.Rows.{row_of, SayRows, IsRowInRange, EachNext, IsNear}
use Rattle.cg_curve.specs.File.{AreInOrder, AreGood, FailsAt, SaysNone, PassesRange, BreaksOrder, LeavesGap, IsTooMany, HasFault}
use Rattle.cg_curve.specs.Reading.{in_range, in_order, is_near, with_row, with_line, GivesRows}
use Rattle.cg_curve.specs.declared.fault.CurveFault.{CurveFault}
use Rattle.cg_curve.specs.declared.fault.CurveFault.TheVariants.{BadRow, OutOfRange, Order, Gap, TooMany, TooFew, NoMemory}
use Rattle.cg_curve.proofs.RowLemmas.{Tests, range_test, order_test, near_test, full_test, reverse_cons}

-- what a fault at a line means after some rows
abbrev pub IsCause : CurveFault → ℕ → List Row → Option Row → Type 0
IsCause (BadRow k) number rows said = (k ≡ number) × SaysNone rows said
IsCause (OutOfRange k) number rows said = (k ≡ number) × PassesRange rows said
IsCause (Order k) number rows said = (k ≡ number) × BreaksOrder rows said
IsCause (Gap k) number rows said = (k ≡ number) × LeavesGap rows said
IsCause (TooMany k) number rows said = (k ≡ number) × IsTooMany rows said
IsCause TooFew number rows said = ⊥
IsCause NoMemory number rows said = ⊥

-- the line says a row with which the rows stay good
pub record Takes (back now : List Row) (said : Option Row) : Type 0 where
  pub row : Row
  pub says : said ≡ Some row
  pub grows : reverse now ≡ reverse back ++ row ∷ []
  pub good : AreGood (reverse back ++ row ∷ [])

-- what the next row of a line does to good rows, the newest first
abbrev pub Outcome : ℕ → List Row → Option Row → Result (List Row) CurveFault → Type 0
Outcome number back said (Ok now) = Takes back now said
Outcome number back said (Err fault) = IsCause fault number (reverse back) said

one_in_range : (row : Row) → IsRowInRange row → (k : ℕ) (d : Row) → k < length (row ∷ []) → IsRowInRange (get_or (row ∷ []) k d)
one_in_range row h zero d lt = h
one_in_range row h (suc k) d lt = absurd (omega arith)

at_most : (a b : ℕ) → ¬ (b < a) → a ≤ b
at_most a b h = omega (arith, h)

-- the first of the tests that fails decides
by_tests : (number : ℕ) (back : List Row) (row : Row) (r o g f : Bool) → AreGood (reverse back) → Tests r (IsRowInRange row)
    → Tests o (AreInOrder (reverse back ++ row ∷ [])) → Tests g (EachNext IsNear (reverse back ++ row ∷ [])) → Tests f (20000 < length (reverse back ++ row ∷ []))
    → Outcome number back (Some row) (cond (not r) (Err (OutOfRange number)) (cond (not o) (Err (Order number)) (cond (not g) (Err (Gap number)) (cond f (Err (TooMany number)) (Ok (row ∷ back))))))
by_tests number back row false o g f good tr to tg tf = (refl, tr)
by_tests number back row true false g f good tr to tg tf = (refl, (tr, to))
by_tests number back row true true false f good tr to tg tf = (refl, (tr, to, tg))
by_tests number back row true true true true good tr to tg tf = (refl, (tr, to, tg, tf))
by_tests number back row true true true false good tr to tg tf = record {
  row = row;
  says = refl;
  grows = reverse_cons row back;
  good = record {
    in_range = All-append IsRowInRange (reverse back) (row ∷ []) good.in_range (one_in_range row tr);
    order = to;
    near = tg;
    few = at_most (length (reverse back ++ row ∷ [])) 20000 tf;
  };
}

-- what comes of the row of a line after good rows
pub outcome : (number : ℕ) (back : List Row) (said : Option Row) → AreGood (reverse back) → Outcome number back said (with_row number back said)
outcome number back None good = (refl, refl)
outcome number back (Some row) good =
    by_tests number back row (in_range row) (in_order back row.year) (is_near back row.year) (nat_le 20000 (length back)) good
    (range_test row) (order_test back row good.order) (near_test back row good.near) (full_test back row)

-- Good rows come from the lines before, and the rest of the bytes begins with the line of this number.
pub record SoFar (bytes rest : List ℕ) (number : ℕ) (rows : List Row) : Type 0 where
  pub before : List (ℕ × List ℕ)
  pub parted : data_lines bytes ≡ before ++ lines_from number rest
  pub said : SayRows before rows
  pub good : AreGood rows

pub none_good : AreGood []
none_good = record { in_range = λ k d lt. absurd (omega arith); order = inl tt; near = tt; few = omega arith }

pub at_start : (bytes : List ℕ) → SoFar bytes bytes 1 []
at_start bytes = record { before = []; parted = refl; said = refl; good = none_good }

line_skipped : (number : ℕ) (rest line behind : List ℕ) → lines rest ≡ line ∷ lines behind → is_skipped line ≡ true → lines_from number rest ≡ lines_from (number + 1) behind
unfolding lines_from
line_skipped number rest line behind e skip = rw (e, skip) refl

line_kept : (number : ℕ) (rest line behind : List ℕ) → lines rest ≡ line ∷ lines behind → is_skipped line ≡ false → lines_from number rest ≡ (number, line) ∷ lines_from (number + 1) behind
unfolding lines_from
line_kept number rest line behind e skip = rw (e, skip) refl

-- ---- one line more

pub say_more : (before : List (ℕ × List ℕ)) (rows : List Row) (number : ℕ) (line : List ℕ) (row : Row) → SayRows before rows → row_of line ≡ Some row
    → SayRows (before ++ (number, line) ∷ []) (rows ++ row ∷ [])
say_more before rows number line row said says =
    map-append (λ line. row_of line.1) before ((number, line) ∷ [])
    ∙ ap (λ front. front ++ row_of line ∷ []) said ∙ ap (λ last. map (λ row. Some row) rows ++ last ∷ []) says
    ∙ sym (map-append (λ row. Some row) rows (row ∷ []))

taken : (bytes rest behind : List ℕ) (number : ℕ) (line : List ℕ) (rows now : List Row) → SoFar bytes rest number rows
    → lines_from number rest ≡ (number, line) ∷ lines_from (number + 1) behind → Takes (reverse rows) (reverse now) (row_of line) → SoFar bytes behind (number + 1) now
taken bytes rest behind number line rows now so_far kept takes =
    let same : now ≡ rows ++ takes.row ∷ [] =
    sym (reverse-reverse now) ∙ takes.grows ∙ ap (λ front. front ++ takes.row ∷ []) (reverse-reverse rows) in
    let good : AreGood now = subst (λ (rs : List Row). AreGood rs) (sym takes.grows ∙ reverse-reverse now) takes.good in
    record {
      before = so_far.before ++ (number, line) ∷ [];
      parted = so_far.parted ∙ ap (λ lines. so_far.before ++ lines) kept ∙ sym (append_assoc so_far.before ((number, line) ∷ []) (lines_from (number + 1) behind));
      said = subst (λ (rs : List Row). SayRows (so_far.before ++ (number, line) ∷ []) rs) (sym same) (say_more so_far.before rows number line takes.row so_far.said takes.says);
      good = good;
    }

pub good_back : (rows : List Row) → AreGood rows → AreGood (reverse (reverse rows))
good_back rows good = subst (λ (rs : List Row). AreGood rs) (sym (reverse-reverse rows)) good

same_list : (r : Result (List Row) CurveFault) (a b : List Row) → r ≡ Ok a → r ≡ Ok b → a ≡ b
same_list r a b h k = cc

step_by : (bytes rest behind : List ℕ) (number : ℕ) (line : List ℕ) (rows now : List Row) (skip : Bool) → is_skipped line ≡ skip → SoFar bytes rest number rows → lines rest ≡ line ∷ lines behind
    → cond skip (Ok (reverse rows)) (with_row number (reverse rows) (row_of line)) ≡ Ok (reverse now) → SoFar bytes behind (number + 1) now
step_by bytes rest behind number line rows now true e so_far split h =
    let same : rows ≡ now = sym (reverse-reverse rows) ∙ ap (λ (rs : List Row). reverse rs) (same_list (Ok (reverse rows)) (reverse rows) (reverse now) refl h) ∙ reverse-reverse now in
    subst (λ (rs : List Row). SoFar bytes behind (number + 1) rs) same (record {
      before = so_far.before;
      parted = so_far.parted ∙ ap (λ lines. so_far.before ++ lines) (line_skipped number rest line behind split e);
      said = so_far.said;
      good = so_far.good;
    })
step_by bytes rest behind number line rows now false e so_far split h =
    taken bytes rest behind number line rows now so_far (line_kept number rest line behind split e)
    (subst (λ (r : Result (List Row) CurveFault). Outcome number (reverse rows) (row_of line) r) h (outcome number (reverse rows) (row_of line) (good_back rows so_far.good)))

-- a line that is taken leaves good rows
pub line_taken : (bytes rest behind : List ℕ) (number : ℕ) (line : List ℕ) (rows now : List Row) → SoFar bytes rest number rows → lines rest ≡ line ∷ lines behind
    → with_line number (reverse rows) line ≡ Ok (reverse now) → SoFar bytes behind (number + 1) now
line_taken bytes rest behind number line rows now so_far split h = step_by bytes rest behind number line rows now (is_skipped line) refl so_far split h

-- ---- the first fault

fails : (bytes : List ℕ) (before others : List (ℕ × List ℕ)) (number : ℕ) (line : List ℕ) (rows : List Row) (Cause : List Row → Option Row → Type 0)
    → data_lines bytes ≡ before ++ (number, line) ∷ others → SayRows before rows → AreGood rows → (k : ℕ) → k ≡ number → Cause rows (row_of line) → FailsAt bytes k Cause
fails bytes before others number line rows Cause parted said good k same cause =
    subst (λ (n : ℕ). FailsAt bytes n Cause) (sym same)
    (record { before = before; line = line; others = others; rows = rows; parted = parted; said = said; good = good; cause = cause })

-- the first fault, at a line behind good rows
pub fault_in : (bytes : List ℕ) (before others : List (ℕ × List ℕ)) (number : ℕ) (line : List ℕ) (rows : List Row) (fault : CurveFault)
    → data_lines bytes ≡ before ++ (number, line) ∷ others → SayRows before rows → AreGood rows → IsCause fault number rows (row_of line) → HasFault bytes fault
fault_in bytes before others number line rows (BadRow k) parted said good c = fails bytes before others number line rows SaysNone parted said good k c.0 c.1
fault_in bytes before others number line rows (OutOfRange k) parted said good c = fails bytes before others number line rows PassesRange parted said good k c.0 c.1
fault_in bytes before others number line rows (Order k) parted said good c = fails bytes before others number line rows BreaksOrder parted said good k c.0 c.1
fault_in bytes before others number line rows (Gap k) parted said good c = fails bytes before others number line rows LeavesGap parted said good k c.0 c.1
fault_in bytes before others number line rows (TooMany k) parted said good c = fails bytes before others number line rows IsTooMany parted said good k c.0 c.1
fault_in bytes before others number line rows TooFew parted said good c = absurd c
fault_in bytes before others number line rows NoMemory parted said good c = absurd c

err_given : (wanted : Result (List Row) CurveFault) (now : List Row) (fault : CurveFault) → GivesRows wanted now (Err fault) → (fault ≡ NoMemory → ⊥) → wanted ≡ Err fault
err_given wanted now (BadRow k) h other = h
err_given wanted now (OutOfRange k) h other = h
err_given wanted now (Order k) h other = h
err_given wanted now (Gap k) h other = h
err_given wanted now (TooMany k) h other = h
err_given wanted now TooFew h other = h
err_given wanted now NoMemory h other = absurd (other refl)

refuse_by : (bytes rest behind : List ℕ) (number : ℕ) (line : List ℕ) (rows : List Row) (fault : CurveFault) (skip : Bool) → is_skipped line ≡ skip → SoFar bytes rest number rows → lines rest ≡ line ∷ lines behind
    → cond skip (Ok (reverse rows)) (with_row number (reverse rows) (row_of line)) ≡ Err fault → HasFault bytes fault
refuse_by bytes rest behind number line rows fault true e so_far split h = absurd (cc)
refuse_by bytes rest behind number line rows fault false e so_far split h =
    let cause : IsCause fault number (reverse (reverse rows)) (row_of line) =
    subst (λ (r : Result (List Row) CurveFault). Outcome number (reverse rows) (row_of line) r) h (outcome number (reverse rows) (row_of line) (good_back rows so_far.good)) in
    fault_in bytes so_far.before (lines_from (number + 1) behind) number line rows fault
    (so_far.parted ∙ ap (λ lines. so_far.before ++ lines) (line_kept number rest line behind split e)) so_far.said so_far.good
    (subst (λ (rs : List Row). IsCause fault number rs (row_of line)) (reverse-reverse rows) cause)

-- a line that is refused has the first fault
pub line_refused : (bytes rest behind : List ℕ) (number : ℕ) (line : List ℕ) (rows now : List Row) (fault : CurveFault) → SoFar bytes rest number rows → lines rest ≡ line ∷ lines behind
    → GivesRows (with_line number (reverse rows) line) now (Err fault) → (fault ≡ NoMemory → ⊥) → HasFault bytes fault
line_refused bytes rest behind number line rows now fault so_far split h other =
    refuse_by bytes rest behind number line rows fault (is_skipped line) refl so_far split (err_given (with_line number (reverse rows) line) now fault h other)

-- ---- the end

no_more : (number : ℕ) (rest : List ℕ) → length rest ≡ 0 → lines_from number rest ≡ []
unfolding lines_from
no_more number [] h = refl
no_more number (c ∷ cs) h = absurd (omega arith)

-- at the end of the bytes all their rows are good
pub at_end : (bytes rest : List ℕ) (number : ℕ) (rows : List Row) → SoFar bytes rest number rows → length rest ≡ 0 → SayRows (data_lines bytes) rows × AreGood rows
at_end bytes rest number rows so_far none =
    let all : data_lines bytes ≡ so_far.before =
    so_far.parted ∙ ap (λ lines. so_far.before ++ lines) (no_more number rest none) ∙ append-nil so_far.before in
    (subst (λ (ls : List (ℕ × List ℕ)). SayRows ls rows) (sym all) so_far.said, so_far.good)
