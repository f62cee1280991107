-- The years that a curve covers are those at which it has a value.
use Rattle.std.proofs.Common.{◌≡◌, ℕ, zero, suc, ◌<◌, Bool, true, false, ◌↔◌, List, [], ◌∷◌, length, Option, Some, None, refl, sym, ap, subst, ◌∙◌, arith, ℤ, ◌<ℤ◌, ◌≤ℤ◌, get_or, is_some, IsSome, Any, option_map}
use Rattle.std.specs.Prelude.{int_lt}
use Rattle.std.proofs.lemmas.Int.{ints}
use Rattle.cg_meaning.specs.Curve.{Row, Point, point_at, point_at_row, point_between}
use Rattle.cg_curve.specs.Rows.{EachNext, IsOlder, Covers}
use Rattle.cg_curve.specs.Point.{point_of}
use Rattle.cg_curve.specs.declared.curve.At.{At}
use Rattle.cg_curve.proofs.RowLemmas.{lt_yes, lt_no}
use Rattle.cg_curve.proofs.PlaceLemmas.{hit, skip, on_line, past_last, too_old, fall_to}

-- a year against a row: younger, its own, or older
data Side (row : Row) (year : ℤ) : Type 0 where
  before : row.year <ℤ year → Side row year
  own : row.year ≡ year → Side row year
  behind : year <ℤ row.year → Side row year

same : (a b : ℤ) → b ≤ℤ a → a ≤ℤ b → a ≡ b
same a b h k = omega (arith, ints)

side_by : (row : Row) (year : ℤ) (v w : Bool) → int_lt row.year year ≡ v → int_lt year row.year ≡ w → Side row year
side_by row year true w e f = before (lt_yes row.year year e)
side_by row year false true e f = behind (lt_yes year row.year f)
side_by row year false false e f = own (same row.year year (lt_no row.year year e) (lt_no year row.year f))

side : (row : Row) (year : ℤ) → Side row year
side row year = side_by row year (int_lt row.year year) (int_lt year row.year) refl refl

-- ---- some row

at_first : (P : Row → Type 0) (row : Row) (rows : List Row) → P row → Any P (row ∷ rows)
at_first P row rows h = (0, row, omega arith, refl, h)

further : (P : Row → Type 0) (row : Row) (rows : List Row) → Any P rows → Any P (row ∷ rows)
further P row rows a = (suc a.0, a.1, omega (arith, a.2), a.3, a.4)

not_first : (P : Row → Type 0) (row : Row) (rows : List Row) (k : ℕ) (x : Row) → k < length (row ∷ rows) → get_or (row ∷ rows) k x ≡ x → P x → (P row → ⊥) → Any P rows
not_first P row rows zero x lt e h never = absurd (never (subst (λ (r : Row). P r) (sym e) h))
not_first P row rows (suc k) x lt e h never = (k, x, omega arith, e, h)

behind_first : (P : Row → Type 0) (row : Row) (rows : List Row) → Any P (row ∷ rows) → (P row → ⊥) → Any P rows
behind_first P row rows a never = not_first P row rows a.0 a.1 a.2 a.3 a.4 never

none_of_none : (P : Row → Type 0) → Any P [] → ⊥
none_of_none P a = absurd (omega (arith, a.2))

clash : (a b : ℤ) → a <ℤ b → b ≤ℤ a → ⊥
clash a b h k = omega (arith, ints)

weaken : (a b : ℤ) → a <ℤ b → a ≤ℤ b
weaken a b h = omega (arith, ints)

equal : (a b : ℤ) → a ≡ b → b ≤ℤ a
equal a b h = omega (arith, ints)

-- the oldest row is at the year or older, if some row is
oldest : (row : Row) (rows : List Row) (year : ℤ) → EachNext IsOlder (row ∷ rows) → Any (λ r. year ≤ℤ r.year) (row ∷ rows) → year ≤ℤ row.year
oldest row rows year order a =
    let under : (get_or (row ∷ rows) a.0 a.1).year ≤ℤ row.year = fall_to row rows a.0 a.1 order a.2 in
    let own = ap (λ (r : Row). r.year) a.3 in
    omega (arith, ints, under, own, a.4)

rest_of : (row : Row) (rows : List Row) → EachNext IsOlder (row ∷ rows) → EachNext IsOlder rows
rest_of row [] order = tt
rest_of row (next ∷ rows) order = order.1

-- ---- both ways

abbrev HasValue : List Row → ℤ → Type 0
HasValue rows year = IsSome (point_at rows year)

found : (rows : List Row) (year : ℤ) (point : Point) → point_at rows year ≡ Some point → HasValue rows year
found rows year point e = ap (λ (o : Option Point). is_some o) e

lost : (rows : List Row) (year : ℤ) → point_at rows year ≡ None → HasValue rows year → ⊥
lost rows year e h = absurd (cc (ap (λ (o : Option Point). is_some o) e))

covers_behind : (row next : Row) (rows : List Row) (year : ℤ) → year <ℤ row.year → year ≤ℤ next.year → Covers (row ∷ next ∷ rows) year → Covers (next ∷ rows) year
covers_behind row next rows year above high c =
    (at_first (λ r. year ≤ℤ r.year) next rows high, behind_first (λ r. r.year ≤ℤ year) row (next ∷ rows) c.1 (clash year row.year above))

valued_behind : (row : Row) (rows : List Row) (year : ℤ) → EachNext IsOlder (row ∷ rows) → Covers (row ∷ rows) year → year <ℤ row.year
    → (Covers rows year → HasValue rows year) → HasValue (row ∷ rows) year
valued_behind row [] year order c above rest = absurd (none_of_none (λ r. r.year ≤ℤ year) (behind_first (λ r. r.year ≤ℤ year) row [] c.1 (clash year row.year above)))
valued_behind row (next ∷ rows) year order c above rest =
    let go : year ≤ℤ next.year → HasValue (row ∷ next ∷ rows) year =
    λ h. subst (λ (o : Option Point). IsSome o) (sym (skip row next rows year order.0 h)) (rest (covers_behind row next rows year above h c)) in
    elim (side next year) [
      | before h ↦ found (row ∷ next ∷ rows) year (point_between row next year) (on_line row next rows year h above)
      | own h ↦ go (equal next.year year h)
      | behind h ↦ go (weaken year next.year h)
    ]

valued : (rows : List Row) (year : ℤ) → EachNext IsOlder rows → Covers rows year → HasValue rows year
valued [] year order c = absurd (none_of_none (λ r. year ≤ℤ r.year) c.0)
valued (row ∷ rows) year order c =
    elim (side row year) [
      | before h ↦ absurd (clash row.year year h (oldest row rows year order c.0))
      | own h ↦ found (row ∷ rows) year (point_at_row row) (hit row rows year h)
      | behind h ↦ valued_behind row rows year order c h (valued rows year (rest_of row rows order))
    ]

within_behind : (row : Row) (rows : List Row) (year : ℤ) → EachNext IsOlder (row ∷ rows) → HasValue (row ∷ rows) year → year <ℤ row.year
    → (HasValue rows year → Covers rows year) → Covers (row ∷ rows) year
within_behind row [] year order v above rest = absurd (lost (row ∷ []) year (past_last row year above) v)
within_behind row (next ∷ rows) year order v above rest =
    let go : year ≤ℤ next.year → Covers (row ∷ next ∷ rows) year =
    λ h. (
      at_first (λ r. year ≤ℤ r.year) row (next ∷ rows) (weaken year row.year above),
      further (λ r. r.year ≤ℤ year) row (next ∷ rows) (rest (subst (λ (o : Option Point). IsSome o) (skip row next rows year order.0 h) v)).1,
    ) in
    elim (side next year) [
      | before h ↦ (
        at_first (λ r. year ≤ℤ r.year) row (next ∷ rows) (weaken year row.year above),
        further (λ r. r.year ≤ℤ year) row (next ∷ rows) (at_first (λ r. r.year ≤ℤ year) next rows (weaken next.year year h)),
      )
      | own h ↦ go (equal next.year year h)
      | behind h ↦ go (weaken year next.year h)
    ]

within : (rows : List Row) (year : ℤ) → EachNext IsOlder rows → HasValue rows year → Covers rows year
within [] year order v = absurd (cc v)
within (row ∷ rows) year order v =
    elim (side row year) [
      | before h ↦ absurd (lost (row ∷ rows) year (too_old row rows year order h) v)
      | own h ↦ (at_first (λ r. year ≤ℤ r.year) row rows (equal row.year year h), at_first (λ r. r.year ≤ℤ year) row rows (equal year row.year (sym h)))
      | behind h ↦ within_behind row rows year order v h (within rows year (rest_of row rows order))
    ]

some_mapped : (result : Option At) → is_some (option_map point_of result) ≡ is_some result
some_mapped None = refl
some_mapped (Some at) = refl

-- an answer is there exactly where the curve covers the year
pub covered : (result : Option At) (rows : List Row) (year : ℤ) → EachNext IsOlder rows → option_map point_of result ≡ point_at rows year → IsSome result ↔ Covers rows year
covered result rows year order e = (
  λ some. within rows year order (ap (λ (o : Option Point). is_some o) (sym e) ∙ some_mapped result ∙ some),
  λ c. sym (some_mapped result) ∙ ap (λ (o : Option Point). is_some o) e ∙ valued rows year order c,
)
