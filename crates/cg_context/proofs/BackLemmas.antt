-- A row of what precedes an item, as it grows by one term of each sum at a time, the youngest first.
use Rattle.std.proofs.Common.{◌≡◌, ℕ, zero, suc, ◌+◌, ◌-◌, ◌*◌, ◌++◌, ◌^◌, ◌<◌, ◌≤◌, List, [], ◌∷◌, length, take, drop, map, max, min, get_or, inl, inr, arith, refl, ap, ap₂, ◌∙◌, sym, subst, add-one, zero-add, append_assoc}
use Rattle.std.specs.List.{All, range_with_len}
use Rattle.std.proofs.lemmas.Bool.{cases_eq, cases_lt}
use Rattle.std.proofs.lemmas.List.{get_or-append_right, get_or-take, get_or-drop, length-append}
use Rattle.std.proofs.lemmas.List.FromFn.{get_or-map-range_with_len, length-map-range_with_len, map-range_with_len_more}
use Rattle.std.proofs.lemmas.List.Elements.{All-append, All-from_get_or, All-take, All-drop}
use lib.ListN.{get_or-append}
use Rattle.cg_enc.specs.Enclosure.{Enclosure, exact_zero, IsExponent, IsZero}
use Rattle.cg_enc.specs.Rounding.{plus, times}
use Rattle.cg_enc.proofs.Products.{times-zero_left, times-zero_right}
use Rattle.cg_table.specs.Table.{Table, IsTable, entry, table_loss, table_reach}
use Rattle.cg_table.proofs.ReachLemmas.{IsExponent-more}
use Rattle.cg_table.proofs.TableLemmas.{AreWithin}
use Rattle.cg_table.proofs.WithinLemmas.{IsWithin, entry-within}
use Rattle.cg_context.specs.Columns.{by_columns}
use Rattle.cg_context.specs.Formulas.{sum_on, back_entry}
use Rattle.cg_context.proofs.CallLemmas.{back-within}
use Rattle.cg_context.proofs.DownSums.{on-within}
use Rattle.cg_context.proofs.TermLemmas.{AreDead, entries-within, product-within, plus-nothing, times-nothing, sum_on-past, sum_on-more, sum_on-zero}

-- how many entries the columns before one have
pub triangle : ℕ → ℕ
triangle zero = 0
triangle (suc n) = triangle n + suc n

-- those of one more
pub triangle-next : (n : ℕ) → triangle (suc n) ≡ triangle n + suc n
unfolding triangle
triangle-next n = refl

-- and of several more
pub triangle-rises : (m n : ℕ) → triangle m ≤ triangle (m + n)
triangle-rises m zero = let none : m + 0 ≡ m = omega arith in rw none (omega arith)
triangle-rises m (suc n) = let next : m + suc n ≡ suc (m + n) = omega arith in rw next (omega (arith, triangle-rises m n, triangle-next (m + n)))

-- it is the length of the list
pub length-columns : (f : ℕ → ℕ → Enclosure) (n : ℕ) → length (by_columns f n) ≡ triangle n
unfolding triangle
length-columns f zero = refl
length-columns f (suc n) =
    length-append (by_columns f n) (map (λ c. f c n) (range_with_len 0 (suc n)))
    ∙ ap₂ (λ (x y : ℕ). x + y) (length-columns f n) (length-map-range_with_len (λ c. f c n) 0 (suc n))

-- the entry of a column at a cell
pub columns-at : (f : ℕ → ℕ → Enclosure) (n c d : ℕ) → c ≤ d → d < n → get_or (by_columns f n) (triangle d + c) exact_zero ≡ f c d
columns-at f zero c d le less = absurd (omega arith)
columns-at f (suc n) c d le less =
    let last : List Enclosure = map (λ c. f c n) (range_with_len 0 (suc n)) in
    elim (cases_eq d n) [
      | inl e ↦
          rw e (get_or-append_right (by_columns f n) last (triangle n) (triangle n + c) exact_zero (length-columns f n) (omega arith)
          ∙ get_or-map-range_with_len (λ c. f c n) 0 (suc n) (triangle n + c - triangle n) c exact_zero (omega arith) (omega arith))
      | inr ne ↦
          let rest : triangle (suc d) ≤ triangle (suc d + (n - suc d)) = triangle-rises (suc d) (n - suc d) in
          let all : suc d + (n - suc d) ≡ n = omega arith in
          get_or-append (by_columns f n) last exact_zero (triangle d + c) (omega (arith, length-columns f n, triangle-next d, rest, ap triangle all))
          ∙ columns-at f n c d le (omega arith)
    ]

-- one more entry of a column
pub column-more : (front items new : List Enclosure) (f : ℕ → Enclosure) (n : ℕ) (x : Enclosure) → new ≡ items ++ x ∷ [] → items ≡ front ++ map f (range_with_len 0 n) → x ≡ f n →
    new ≡ front ++ map f (range_with_len 0 (n + 1))
column-more front items new f n x is h e = is ∙ rw (h, e, map-range_with_len_more f 0 n n (omega arith)) (append_assoc front (map f (range_with_len 0 n)) (f n ∷ []))

-- one more column
pub columns-more : (f : ℕ → ℕ → Enclosure) (d : ℕ) (items new : List Enclosure) → new ≡ items ++ map (λ c. f c d) (range_with_len 0 (d + 1)) → items ≡ by_columns f d → new ≡ by_columns f (d + 1)
columns-more f d items new is h = is ∙ rw (h, add-one) refl

-- where the column of the next cell down stands
pub column-place : (cells i d begin : ℕ) → suc (d + i) ≡ cells → begin ≡ triangle (cells - i) → begin ≡ triangle d + suc d
column-place cells i d begin at is =
    let next : cells - i ≡ suc d = omega arith in
    is ∙ ap triangle next ∙ triangle-next d

-- it ends within the columns
pub column-inside : (t : Table) (cs : List Enclosure) (d : ℕ) → cs ≡ by_columns (entry t) t.cells → d < t.cells → triangle d + suc d ≤ length cs
column-inside t cs d is less =
    let all : suc d + (t.cells - suc d) ≡ t.cells = omega arith in
    omega (arith, ap length is, length-columns (entry t) t.cells, triangle-rises (suc d) (t.cells - suc d), ap triangle all, triangle-next d)

-- the entries of part of a column that is lent as a slice
pub lent-column : (t : Table) (cs : List Enclosure) (a d k from w : ℕ) → cs ≡ by_columns (entry t) t.cells → from ≡ triangle d + a → d < t.cells → a + k ≤ d → k < w →
    get_or (take w (drop from cs)) k exact_zero ≡ entry t (a + k) d
lent-column t cs a d k from w is at less le short =
    let here : from + k ≡ triangle d + (a + k) = omega (arith, at) in
    get_or-take w (drop from cs) k exact_zero short ∙ get_or-drop from cs k exact_zero ∙ ap (λ (n : ℕ). get_or cs n exact_zero) here
    ∙ ap (λ (xs : List Enclosure). get_or xs (triangle d + (a + k)) exact_zero) is ∙ columns-at (entry t) t.cells (a + k) d le less

-- what holds of each entry holds of the columns
All-columns : (P : Enclosure → Type 0) (f : ℕ → ℕ → Enclosure) (n : ℕ) → ((c d : ℕ) → P (f c d)) → All P (by_columns f n)
All-columns P f zero h = λ k d less. absurd (omega arith)
All-columns P f (suc n) h =
    let last : List Enclosure = map (λ c. f c n) (range_with_len 0 (suc n)) in
    All-append P (by_columns f n) last (All-columns P f n h)
    (All-from_get_or P last exact_zero
    (λ i less. subst P (sym (get_or-map-range_with_len (λ c. f c n) 0 (suc n) i i exact_zero (omega (arith, less, length-map-range_with_len (λ c. f c n) 0 (suc n))) (zero-add i))) (h i n)))

-- the exponents of those that are lent
pub lent-column-near : (t : Table) (cs : List Enclosure) (from w : ℕ) → cs ≡ by_columns (entry t) t.cells → IsTable t → table_reach t < 2 ^ 20 → All (λ e. IsExponent (2 ^ 52) e.exp) (take w (drop from cs))
lent-column-near t cs from w is h reach =
    All-take (λ e. IsExponent (2 ^ 52) e.exp) w (drop from cs) (All-drop (λ e. IsExponent (2 ^ 52) e.exp) from cs
    (subst (All (λ e. IsExponent (2 ^ 52) e.exp)) (sym is)
    (All-columns (λ e. IsExponent (2 ^ 52) e.exp) (entry t) t.cells (λ c d. IsExponent-more (entry t c d).exp (table_reach t * 2 ^ 31) (2 ^ 52) (omega arith) (entry-within t c d h).near))))

-- the product for d and c = a + k
abbrev pub term : Table → Table → ℕ → ℕ → ℕ → Enclosure
term v t a k d = times (entry v a d) (entry t (a + k) d)

-- From `base` on, the sums of row a over the i youngest cells. What stands before is as it was.
pub record AreBack (v t : Table) (a base i : ℕ) (old sums : List Enclosure) : Type 0 where
  pub width : length sums ≡ length old
  pub before : (j : ℕ) → j < base → get_or sums j exact_zero ≡ get_or old j exact_zero
  pub each : (k : ℕ) → k < v.cells - a → get_or sums (base + k) exact_zero ≡ sum_on v.cells (max (a + k) (v.cells - i)) (term v t a k)

-- no column has been added
pub back-none : (v t : Table) (a base : ℕ) (old : List Enclosure) → ((k : ℕ) → k < v.cells - a → get_or old (base + k) exact_zero ≡ exact_zero) → AreBack v t a base 0 old old
back-none v t a base old zeros = record {
  width = refl;
  before = λ j less. refl;
  each = λ k less. zeros k less ∙ sym (sum_on-past v.cells (max (a + k) (v.cells - 0)) (term v t a k) (omega arith));
}

-- what is added for d
pub record AddsColumn (v t : Table) (a base d wide : ℕ) (old new : List Enclosure) : Type 0 where
  pub width : length new ≡ length old
  pub before : (j : ℕ) → j < base → get_or new j exact_zero ≡ get_or old j exact_zero
  pub added : (k : ℕ) → k < wide → get_or new (base + k) exact_zero ≡ plus (get_or old (base + k) exact_zero) (term v t a k d)
  pub behind : (k : ℕ) → wide ≤ k → get_or new (base + k) exact_zero ≡ get_or old (base + k) exact_zero

-- a sum over terms of two tables
pub sum-within : (v t : Table) (a k c : ℕ) → IsTable v → IsTable t →
    IsWithin (sum_on v.cells c (term v t a k)) (table_loss v + table_loss t + 3 + 3 * v.cells) (table_reach v * 2 ^ 31 + table_reach t * 2 ^ 31 + 63 + v.cells)
sum-within v t a k c h h' =
    on-within v.cells c (term v t a k) (table_loss v + table_loss t + 3) (table_reach v * 2 ^ 31 + table_reach t * 2 ^ 31 + 63) (λ d low less. product-within v t a d (a + k) d h h')

-- the sum of a cell takes its term at d
taken : (v t : Table) (a k d : ℕ) (old : Enclosure) → d < v.cells → old ≡ sum_on v.cells (suc d) (term v t a k) → plus old (term v t a k d) ≡ sum_on v.cells d (term v t a k)
taken v t a k d old less is = sum_on-more v.cells d (term v t a k) old (term v t a k d) less is refl

-- it has its term already where that is zero
passed : (v t : Table) (a k d : ℕ) (old : Enclosure) → IsTable v → IsTable t → d < v.cells → term v t a k d ≡ exact_zero → old ≡ sum_on v.cells (suc d) (term v t a k) → old ≡ sum_on v.cells d (term v t a k)
passed v t a k d old h h' less nothing is =
    is ∙ sym (plus-nothing (sum_on v.cells (suc d) (term v t a k)) (term v t a k d) (sum-within v t a k (suc d) h h').valid nothing)
    ∙ taken v t a k d (sum_on v.cells (suc d) (term v t a k)) less refl

-- one more column, of which the entries that aren't dead are added
pub back-more : (v t : Table) (a base i d live wide : ℕ) (first old new : List Enclosure) → IsTable v → IsTable t → v.cells ≡ t.cells → AreDead t live → suc (d + i) ≡ v.cells → a ≤ d → wide ≡ min live (d + 1) - a → a < live →
    AreBack v t a base i first old → AddsColumn v t a base d wide old new → AreBack v t a base (i + 1) first new
back-more v t a base i d live wide first old new h h' size dead at le width inside f r = record {
  width = r.width ∙ f.width;
  before = λ j low. r.before j low ∙ f.before j low;
  each = λ k less. elim (cases_lt d (a + k)) [
    | inl past ↦
        let same : max (a + k) (v.cells - i) ≡ max (a + k) (v.cells - (i + 1)) = omega arith in
        r.behind k (omega arith) ∙ f.each k less ∙ ap (λ (n : ℕ). sum_on v.cells n (term v t a k)) same
    | inr here ↦
        let was : max (a + k) (v.cells - i) ≡ suc d = omega arith in
        let now : d ≡ max (a + k) (v.cells - (i + 1)) = omega arith in
        let old_is : get_or old (base + k) exact_zero ≡ sum_on v.cells (suc d) (term v t a k) = f.each k less ∙ ap (λ (n : ℕ). sum_on v.cells n (term v t a k)) was in
        step k here (omega arith) old_is ∙ ap (λ (n : ℕ). sum_on v.cells n (term v t a k)) now
  ];
}
  where
    step : (k : ℕ) → a + k ≤ d → d < v.cells → get_or old (base + k) exact_zero ≡ sum_on v.cells (suc d) (term v t a k) → get_or new (base + k) exact_zero ≡ sum_on v.cells d (term v t a k)
    step k here less is =
        elim (cases_lt k wide) [
          | inl short ↦ r.added k short ∙ taken v t a k d (get_or old (base + k) exact_zero) less is
          | inr long ↦
              let nothing : term v t a k d ≡ exact_zero =
              times-zero_right (entry v a d) (entry t (a + k) d) (ap (λ (e : Enclosure). e.hi) (dead (a + k) d (omega arith) here (omega arith))) in
              r.behind k long ∙ passed v t a k d (get_or old (base + k) exact_zero) h h' less nothing is
        ]

-- where the factor is zero, the sums have their next term already
pub back-passed : (v t : Table) (a base i d : ℕ) (first sums : List Enclosure) → IsTable v → IsTable t → suc (d + i) ≡ v.cells → IsZero (entry v a d) →
    AreBack v t a base i first sums → AreBack v t a base (i + 1) first sums
back-passed v t a base i d first sums h h' at nothing f = record {
  width = f.width;
  before = f.before;
  each = λ k less. elim (cases_lt d (a + k)) [
    | inl past ↦
        let same : max (a + k) (v.cells - i) ≡ max (a + k) (v.cells - (i + 1)) = omega arith in
        f.each k less ∙ ap (λ (n : ℕ). sum_on v.cells n (term v t a k)) same
    | inr here ↦
        let was : max (a + k) (v.cells - i) ≡ suc d = omega arith in
        let now : d ≡ max (a + k) (v.cells - (i + 1)) = omega arith in
        passed v t a k d (get_or sums (base + k) exact_zero) h h' (omega arith) (times-zero_left (entry v a d) (entry t (a + k) d) nothing)
        (f.each k less ∙ ap (λ (n : ℕ). sum_on v.cells n (term v t a k)) was)
        ∙ ap (λ (n : ℕ). sum_on v.cells n (term v t a k)) now
  ];
}

-- all columns from a on give the entries
pub back-all : (v t : Table) (a base i k : ℕ) (first sums : List Enclosure) → v.cells - a ≤ i → k < v.cells - a → AreBack v t a base i first sums →
    get_or sums (base + k) exact_zero ≡ back_entry v.cells (entry v) (entry t) a (a + k)
back-all v t a base i k first sums all less f =
    let own : max (a + k) (v.cells - i) ≡ a + k = omega arith in
    f.each k less ∙ ap (λ (n : ℕ). sum_on v.cells n (term v t a k)) own

-- a sum may be added to
pub back-near : (v t : Table) (a base i k : ℕ) (first sums : List Enclosure) → IsTable v → IsTable t → table_reach v + table_reach t < 2 ^ 20 → k < v.cells - a → AreBack v t a base i first sums →
    IsExponent (2 ^ 55) (get_or sums (base + k) exact_zero).exp
back-near v t a base i k first sums h h' reach less f =
    let c : ℕ = max (a + k) (v.cells - i) in
    rw (f.each k less) (IsExponent-more (sum_on v.cells c (term v t a k)).exp (table_reach v * 2 ^ 31 + table_reach t * 2 ^ 31 + 63 + v.cells) (2 ^ 55) (omega (arith, h.few)) (sum-within v t a k c h h').near)

-- each entry of the result
pub back-fits : (v t : Table) → IsTable v → IsTable t →
    AreWithin v.cells (back_entry v.cells (entry v) (entry t)) (table_loss v + table_loss t + 3 + 3 * v.cells) (table_reach v * 2 ^ 31 + table_reach t * 2 ^ 31 + 63 + v.cells)
back-fits v t h h' a b le less =
    back-within (entry v) (entry t) (table_loss v) (table_reach v * 2 ^ 31) (table_loss t) (table_reach t * 2 ^ 31) v.cells a b (entries-within v h) (entries-within t h')

-- behind the live rows of either there are zeros
pub back-dead : (v t : Table) (own other live : ℕ) → v.cells ≡ t.cells → live ≡ min own other → AreDead v own → AreDead t other →
    (a b : ℕ) → live ≤ a → a ≤ b → b < v.cells → back_entry v.cells (entry v) (entry t) a b ≡ exact_zero
back-dead v t own other live size is dead dead' a b low le less =
    sum_on-zero v.cells b (λ d. times (entry v a d) (entry t b d)) (λ d high short. elim (cases_lt a own) [
      | inl inside ↦ times-zero_right (entry v a d) (entry t b d) (ap (λ (e : Enclosure). e.hi) (dead' b d (omega arith) high (omega arith)))
      | inr past ↦ times-nothing (entry v a d) (entry t b d) (dead a d past (omega arith) short)
    ])
