-- A row of sums of products of two tables, as it grows by one term of each sum at a time.
use Rattle.std.proofs.Common.{◌≡◌, ℕ, suc, ◌+◌, ◌-◌, ◌*◌, ◌++◌, ◌^◌, ◌<◌, ◌≤◌, [], ◌∷◌, zero, min, List, length, take, drop, replicate, get_or, ap, ap₂, sym, ◌∙◌, inl, inr, arith, refl}
use Rattle.std.specs.List.{All}
use Rattle.std.proofs.lemmas.Bool.{cases_eq, cases_lt}
use Rattle.std.proofs.lemmas.List.{ext_get_or, get_or-take, get_or-drop, get_or_append_left, get_or-append-add, length-append, append_assoc, replicate-append-replicate}
use Rattle.std.proofs.Math.Seq.{take-append_seam}
use Rattle.std.proofs.lemmas.List.Elements.{All-take, All-drop}
use Rattle.std.proofs.lemmas.List.FromFn.{get_or-map-range_with_len, length-map-range_with_len}
use Rattle.cg_enc.specs.Enclosure.{Enclosure, exact_zero, IsEnclosure, IsExponent, IsZero}
use Rattle.cg_enc.specs.Rounding.{plus, times}
use Rattle.cg_enc.proofs.Products.{times-zero_left, times-zero_right}
use Rattle.cg_enc.proofs.Sums.{plus-zero_left, plus-zero_right}
use Rattle.cg_table.specs.Formulas.{then_entry}
use Rattle.cg_table.specs.Live.{live_rows, padded}
use Rattle.cg_table.specs.Sums.{sum_of}
use Rattle.cg_table.specs.Table.{Table, IsTable, entry, row, start, table_loss, table_reach}
use Rattle.cg_table.proofs.LiveLemmas.{exactly_zero, dead-zero, entry-padded, kept-near}
use Rattle.cg_table.proofs.PlaceLemmas.{place_below, start_next, start_rises}
use Rattle.cg_table.proofs.ReachLemmas.{IsExponent-more}
use Rattle.cg_table.proofs.WithinLemmas.{IsWithin, entry-within, times-within, sum-within}

-- the product for b = a + i and c
abbrev pub term : Table → Table → ℕ → ℕ → ℕ → Enclosure
term p t a i c = times (entry p a c) (entry t c (a + i))

-- From `base` on, the sums of row a up to c, without it. What stands before is as it was.
pub record AreJoined (p t : Table) (a c base : ℕ) (old sums : List Enclosure) : Type 0 where
  pub width : length sums ≡ length old
  pub before : (i : ℕ) → i < base → get_or sums i exact_zero ≡ get_or old i exact_zero
  pub each : (i : ℕ) → i < p.cells - a → get_or sums (base + i) exact_zero ≡ sum_of (term p t a i) a (min (i + 1) (c - a))

pub joined-none : (p t : Table) (a base : ℕ) (old : List Enclosure) → ((i : ℕ) → i < p.cells - a → get_or old (base + i) exact_zero ≡ exact_zero) → AreJoined p t a a base old old
joined-none p t a base old zeros = record {
  width = refl;
  before = λ i less. refl;
  each = λ i less. let none : min (i + 1) (a - a) ≡ 0 = omega arith in rw none (zeros i less);
}

-- what is added for c
pub record AddsRow (p t : Table) (a c base : ℕ) (old new : List Enclosure) : Type 0 where
  pub width : length new ≡ length old
  pub before : (i : ℕ) → i < base + (c - a) → get_or new i exact_zero ≡ get_or old i exact_zero
  pub added : (k : ℕ) → k < p.cells - c → get_or new (base + (c - a) + k) exact_zero ≡ plus (get_or old (base + (c - a) + k) exact_zero) (times (entry p a c) (entry t c (c + k)))

pub joined-more : (p t : Table) (a c base : ℕ) (first old new : List Enclosure) → a ≤ c → c < p.cells → AreJoined p t a c base first old → AddsRow p t a c base old new → AreJoined p t a (c + 1) base first new
joined-more p t a c base first old new le less f r = record {
  width = r.width ∙ f.width;
  before = λ i below. r.before i (omega arith) ∙ f.before i below;
  each = λ i within. elim (cases_lt i (c - a)) [
    | inl below ↦
        let same : min (i + 1) (c + 1 - a) ≡ min (i + 1) (c - a) = omega arith in
        rw same (r.before (base + i) (omega arith) ∙ f.each i within)
    | inr above ↦
        let k : ℕ = i - (c - a) in
        let at : base + (c - a) + k ≡ base + i = omega arith in
        let b : c + k ≡ a + i = omega arith in
        let here : a + (c - a) ≡ c = omega arith in
        let was : min (i + 1) (c - a) ≡ c - a = omega arith in
        let is : min (i + 1) (c + 1 - a) ≡ suc (c - a) = omega arith in
        let old_is : get_or old (base + i) exact_zero ≡ sum_of (term p t a i) a (c - a) = f.each i within ∙ ap (sum_of (term p t a i) a) was in
        let moved : get_or new (base + i) exact_zero ≡ plus (get_or old (base + i) exact_zero) (times (entry p a c) (entry t c (a + i))) = rw (at, b) at (r.added k (omega arith)) in
        let last : plus (sum_of (term p t a i) a (c - a)) (term p t a i (a + (c - a))) ≡ sum_of (term p t a i) a (suc (c - a)) = refl in
        rw is (moved ∙ ap₂ plus old_is (ap (term p t a i) (sym here)) ∙ last)
  ];
}

-- nothing is added to an enclosure
plus-nothing : (s e : Enclosure) → IsEnclosure s → e ≡ exact_zero → plus s e ≡ s
plus-nothing s e v is =
    elim (cases_eq s.hi 0) [
      | inl z ↦ plus-zero_left s e z ∙ is ∙ sym (exactly_zero s v z)
      | inr n ↦ plus-zero_right s e (omega arith) (ap (λ (x : Enclosure). x.hi) is)
    ]

-- what a sum of so many products is within
sum-of_terms-within : (p t : Table) (a i n : ℕ) → IsTable p → IsTable t → IsWithin (sum_of (term p t a i) a n) (table_loss p + table_loss t + 3 + 3 * n) (table_reach p * 2 ^ 31 + table_reach t * 2 ^ 31 + 63 + n)
sum-of_terms-within p t a i n vp vt =
    sum-within (term p t a i) (table_loss p + table_loss t + 3) (table_reach p * 2 ^ 31 + table_reach t * 2 ^ 31 + 63) a n
    (λ k short. times-within (entry p a (a + k)) (entry t (a + k) (a + i)) (table_loss p) (table_reach p * 2 ^ 31) (table_loss t) (table_reach t * 2 ^ 31) (entry-within p a (a + k) vp) (entry-within t (a + k) (a + i) vt))

-- where the factor is zero, the sums have their next term already
pub joined-passed : (p t : Table) (a c base : ℕ) (first sums : List Enclosure) → a ≤ c → c < p.cells → IsTable p → IsTable t → IsZero (entry p a c) → AreJoined p t a c base first sums → AreJoined p t a (c + 1) base first sums
joined-passed p t a c base first sums le less vp vt none f = record {
  width = f.width;
  before = f.before;
  each = λ i within. elim (cases_lt i (c - a)) [
    | inl below ↦ let same : min (i + 1) (c + 1 - a) ≡ min (i + 1) (c - a) = omega arith in rw same (f.each i within)
    | inr above ↦
        let here : a + (c - a) ≡ c = omega arith in
        let was : min (i + 1) (c - a) ≡ c - a = omega arith in
        let is : min (i + 1) (c + 1 - a) ≡ suc (c - a) = omega arith in
        let nothing : term p t a i (a + (c - a)) ≡ exact_zero = rw here (times-zero_left (entry p a c) (entry t c (a + i)) none) in
        rw is (f.each i within ∙ ap (sum_of (term p t a i) a) was ∙ sym (plus-nothing (sum_of (term p t a i) a (c - a)) (term p t a i (a + (c - a))) (sum-of_terms-within p t a i (c - a) vp vt).valid nothing))
  ];
}

-- all sums are done where the rows from c on have zeros alone
pub joined-all : (p t : Table) (a c base i : ℕ) (old sums : List Enclosure) → IsTable p → IsTable t → p.cells ≡ t.cells → live_rows t ≤ c → a ≤ c → i < p.cells - a → AreJoined p t a c base old sums →
    get_or sums (base + i) exact_zero ≡ then_entry (entry p) (entry t) a (a + i)
joined-all p t a c base i old sums vp vt same dead le within f =
    let all : min (i + 1) (c - a) + (i + 1 - min (i + 1) (c - a)) ≡ a + i - a + 1 = omega arith in
    f.each i within ∙ sym (rest (i + 1 - min (i + 1) (c - a)) (omega arith)) ∙ ap (sum_of (term p t a i) a) all
  where
    rest : (k : ℕ) → min (i + 1) (c - a) + k ≤ i + 1 → sum_of (term p t a i) a (min (i + 1) (c - a) + k) ≡ sum_of (term p t a i) a (min (i + 1) (c - a))
    rest zero few = ap (sum_of (term p t a i) a) (omega arith)
    rest (suc k) few =
        let n : ℕ = min (i + 1) (c - a) + k in
        let next : min (i + 1) (c - a) + suc k ≡ suc n = omega arith in
        let zero_entry : entry t (a + n) (a + i) ≡ exact_zero = dead-zero t (a + n) (a + i) vt (omega (arith, dead, few)) (omega (arith, few)) (omega (arith, within, same)) in
        let nothing : term p t a i (a + n) ≡ exact_zero = times-zero_right (entry p a (a + n)) (entry t (a + n) (a + i)) (ap (λ (e : Enclosure). e.hi) zero_entry) in
        rw next (plus-nothing (sum_of (term p t a i) a n) (term p t a i (a + n)) (sum-of_terms-within p t a i n vp vt).valid nothing ∙ rest k (omega arith))

-- a sum may be added to
pub joined-near : (p t : Table) (a c base i : ℕ) (old sums : List Enclosure) → IsTable p → IsTable t → table_reach p + table_reach t < 2 ^ 20 → i < p.cells - a → AreJoined p t a c base old sums →
    IsExponent (2 ^ 55) (get_or sums (base + i) exact_zero).exp
joined-near p t a c base i old sums vp vt reach within f =
    rw (f.each i within) (IsExponent-more (sum_of (term p t a i) a (min (i + 1) (c - a))).exp (table_reach p * 2 ^ 31 + table_reach t * 2 ^ 31 + 63 + min (i + 1) (c - a)) (2 ^ 55) (omega (arith, vp.few))
    (sum-of_terms-within p t a i (min (i + 1) (c - a)) vp vt).near)

-- the entries of a row that is lent as a slice, and their exponents
pub lent : (t : Table) (cells : ℕ) (items : List Enclosure) (c k begin w : ℕ) → padded cells items ≡ t → begin ≡ start cells c → k < w → get_or (take w (drop begin items)) k exact_zero ≡ entry t c (c + k)
lent t cells items c k begin w view at less =
    let place : begin + k ≡ start cells c + (c + k - c) = omega arith in
    get_or-take w (drop begin items) k exact_zero less ∙ get_or-drop begin items k exact_zero ∙ ap (λ (j : ℕ). get_or items j exact_zero) place
    ∙ sym (entry-padded cells items c (c + k)) ∙ ap (λ (u : Table). entry u c (c + k)) view

pub lent-near : (t : Table) (cells : ℕ) (items : List Enclosure) (begin w r : ℕ) → padded cells items ≡ t → table_reach t + r < 2 ^ 20 → All (λ e. IsExponent (2 ^ 52) e.exp) (take w (drop begin items))
lent-near t cells items begin w r view reach = All-take (λ e. IsExponent (2 ^ 52) e.exp) w (drop begin items) (All-drop (λ e. IsExponent (2 ^ 52) e.exp) begin items (kept-near t cells (2 ^ 52) items view (omega arith)))

-- the entry that is the factor, and the row that it multiplies, are among those that are kept
pub factor-inside : (p : Table) (cells a c own n : ℕ) → cells ≡ p.cells → a < live_rows p → a ≤ c → c < p.cells → own ≡ start cells a → n ≡ start p.cells (live_rows p) → own + (c - a) < n
factor-inside p cells a c own n same row le less at long = omega (arith, long, rw same at at, place_below p.cells a c (live_rows p) le less row)

pub row-inside : (t : Table) (cells c begin n : ℕ) → cells ≡ t.cells → c < live_rows t → begin ≡ start t.cells (min c (live_rows t)) → n ≡ start t.cells (live_rows t) → begin + (cells - c) ≤ n
row-inside t cells c begin n same less at long =
    let here : min c (live_rows t) ≡ c = omega arith in
    omega (arith, long, rw here at at, start_next t.cells c, start_rises t.cells (c + 1) (live_rows t) (omega arith))

-- where the next row begins
pub row-next : (t : Table) (cells c begin : ℕ) → cells ≡ t.cells → c < live_rows t → begin ≡ start t.cells (min c (live_rows t)) → begin + (cells - c) ≡ start t.cells (min (c + 1) (live_rows t))
row-next t cells c begin same less at =
    let here : min c (live_rows t) ≡ c = omega arith in
    let there : min (c + 1) (live_rows t) ≡ c + 1 = omega arith in
    rw there (omega (arith, rw here at at, start_next t.cells c))

-- the row behind what stood before
pub joined-row : (p t : Table) (a : ℕ) (front zeros new : List Enclosure) → length zeros ≡ p.cells - a → length new ≡ length (front ++ zeros) →
    ((i : ℕ) → i < length front → get_or new i exact_zero ≡ get_or (front ++ zeros) i exact_zero) →
    ((i : ℕ) → i < p.cells - a → get_or new (length front + i) exact_zero ≡ then_entry (entry p) (entry t) a (a + i)) →
    new ≡ front ++ row p.cells (then_entry (entry p) (entry t)) a
joined-row p t a front zeros new wide whole before each =
    let f = then_entry (entry p) (entry t) in
    let r : List Enclosure = row p.cells f a in
    let row_long : length r ≡ p.cells - a = length-map-range_with_len (f a) a (p.cells - a) in
    ext_get_or exact_zero new (front ++ r) (omega (arith, whole, length-append front zeros, length-append front r, wide, row_long))
    (λ i less. elim (cases_lt i (length front)) [
      | inl low ↦ before i low ∙ get_or_append_left front zeros exact_zero i low ∙ sym (get_or_append_left front r exact_zero i low)
      | inr high ↦
          let k : ℕ = i - length front in
          let at : length front + k ≡ i = omega arith in
          let within : k < p.cells - a = omega (arith, whole, length-append front zeros, wide) in
          ap (λ (x : ℕ). get_or new x exact_zero) (sym at) ∙ each k within ∙ sym (get_or-map-range_with_len (f a) a (p.cells - a) k (a + k) exact_zero within refl) ∙ sym (get_or-append-add front r k exact_zero)
          ∙ ap (λ (x : ℕ). get_or (front ++ r) x exact_zero) at
    ])

-- twice the ticks, where at most n more come and then n - 1
pub ticks_left : (s s' s0 n m : ℕ) → n ≡ m + 1 → s' ≤ s + n → 2 * s + n * (n + 1) ≤ s0 → 2 * s' + m * (m + 1) ≤ s0
ticks_left s s' s0 n m e more h =
    let whole : n * (n + 1) ≡ m * (m + 1) + 2 * (m + 1) = rw e (omega arith) in
    omega (arith, whole, more, h, e)

-- one zero more
pub zeros_more : (front items new : List Enclosure) (x : Enclosure) (n : ℕ) → items ≡ front ++ replicate n exact_zero → x ≡ exact_zero → new ≡ items ++ x ∷ [] → new ≡ front ++ replicate (n + 1) exact_zero
zeros_more front items new x n h e is = is ∙ rw (h, e) (append_assoc front (replicate n exact_zero) (exact_zero ∷ []) ∙ ap (λ (ys : List Enclosure). front ++ ys) (replicate-append-replicate n 1 exact_zero))

-- a slice that is written back over all of a list
pub written : (new items : List Enclosure) (n : ℕ) → length new ≡ length items → n ≡ length items → take n (new ++ drop (length new) items) ≡ new
written new items n long e = rw (e ∙ sym long) (take-append_seam new (drop (length new) items))
