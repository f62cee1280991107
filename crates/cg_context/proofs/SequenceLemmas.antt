-- A row of a Sequence's item's context, as it grows by one term of each sum at a time.
use Rattle.std.proofs.Common.{◌≡◌, ℕ, suc, ◌+◌, ◌-◌, ◌*◌, ◌^◌, ◌<◌, ◌≤◌, List, length, take, drop, get_or, ap, subst, sym, ◌∙◌, inl, inr, arith, refl}
use Rattle.std.specs.List.{All}
use Rattle.std.proofs.lemmas.Bool.{cases_lt}
use Rattle.std.proofs.lemmas.List.{get_or-take, get_or-drop}
use Rattle.std.proofs.lemmas.List.Elements.{All-take, All-drop}
use Rattle.cg_enc.specs.Enclosure.{Enclosure, exact_zero, IsExponent}
use Rattle.cg_enc.specs.Rounding.{plus, times}
use Rattle.cg_enc.proofs.Products.{times-zero_right}
use Rattle.cg_table.specs.Live.{padded}
use Rattle.cg_table.specs.Sums.{sum_of}
use Rattle.cg_table.specs.Table.{Table, IsTable, entry, place, start, table_loss, table_reach}
use Rattle.cg_table.proofs.LiveLemmas.{kept-near}
use Rattle.cg_table.proofs.PlaceLemmas.{start_rises}
use Rattle.cg_table.proofs.WithinLemmas.{IsWithin, sum-within}
use Rattle.cg_context.specs.Formulas.{into_sequence_entry}
use Rattle.cg_context.proofs.TermLemmas.{product-within, within-near, plus-nothing, times-nothing, sum_of-more, sum_of-zeros}

-- the product for a and d = c + i
abbrev pub sequence-term : Table → Table → ℕ → ℕ → ℕ → Enclosure
sequence-term p v c i a = times (entry p a c) (entry v a (c + i))

-- From `base` on, the sums of row c up to a, without it. What stands before is as it was.
pub record AreSummed (p v : Table) (c base a : ℕ) (old sums : List Enclosure) : Type 0 where
  pub width : length sums ≡ length old
  pub before : (i : ℕ) → i < base → get_or sums i exact_zero ≡ get_or old i exact_zero
  pub each : (i : ℕ) → i < p.cells - c → get_or sums (base + i) exact_zero ≡ sum_of (sequence-term p v c i) 0 a

-- what is added for a
pub record AddsTerms (p v : Table) (c base a : ℕ) (old new : List Enclosure) : Type 0 where
  pub width : length new ≡ length old
  pub before : (i : ℕ) → i < base → get_or new i exact_zero ≡ get_or old i exact_zero
  pub added : (k : ℕ) → k < p.cells - c → get_or new (base + k) exact_zero ≡ plus (get_or old (base + k) exact_zero) (times (entry p a c) (entry v a (c + k)))

pub summed-more : (p v : Table) (c base a : ℕ) (first old new : List Enclosure) → AreSummed p v c base a first old → AddsTerms p v c base a old new → AreSummed p v c base (a + 1) first new
summed-more p v c base a first old new f r = record {
  width = r.width ∙ f.width;
  before = λ i below. r.before i below ∙ f.before i below;
  each = λ i within. r.added i within ∙ sum_of-more (sequence-term p v c i) a (get_or old (base + i) exact_zero) (sequence-term p v c i a) (f.each i within) refl;
}

-- a sum of such products lies within bounds
summed-within : (p v : Table) (c i a : ℕ) → IsTable p → IsTable v →
    IsWithin (sum_of (sequence-term p v c i) 0 a) (table_loss p + table_loss v + 3 + 3 * a) (table_reach p * 2 ^ 31 + table_reach v * 2 ^ 31 + 63 + a)
summed-within p v c i a h h' =
    sum-within (sequence-term p v c i) (table_loss p + table_loss v + 3) (table_reach p * 2 ^ 31 + table_reach v * 2 ^ 31 + 63) 0 a
    (λ k less. product-within p v (0 + k) c (0 + k) (c + i) h h')

-- where the factor is zero, the sums have their next term already
pub summed-passed : (p v : Table) (c base a : ℕ) (first sums : List Enclosure) → IsTable p → IsTable v → entry p a c ≡ exact_zero → AreSummed p v c base a first sums → AreSummed p v c base (a + 1) first sums
summed-passed p v c base a first sums h h' zero f = record {
  width = f.width;
  before = f.before;
  each = λ i within.
      f.each i within
      ∙ sym (plus-nothing (sum_of (sequence-term p v c i) 0 a) (sequence-term p v c i a) (summed-within p v c i a h h').valid (times-nothing (entry p a c) (entry v a (c + i)) zero))
      ∙ sum_of-more (sequence-term p v c i) a (sum_of (sequence-term p v c i) 0 a) (sequence-term p v c i a) refl refl;
}

-- a sum may be added to
pub summed-near : (p v : Table) (c base a i : ℕ) (old sums : List Enclosure) → IsTable p → IsTable v → table_reach p + table_reach v < 2 ^ 20 → a ≤ p.cells → i < p.cells - c →
    AreSummed p v c base a old sums → IsExponent (2 ^ 55) (get_or sums (base + i) exact_zero).exp
summed-near p v c base a i old sums h h' reach few within f =
    within-near (get_or sums (base + i) exact_zero) (sum_of (sequence-term p v c i) 0 a) (table_loss p + table_loss v + 3 + 3 * a) (table_reach p * 2 ^ 31 + table_reach v * 2 ^ 31 + 63 + a) (2 ^ 55)
    (summed-within p v c i a h h') (omega (arith, reach, few, h.few)) (f.each i within)

-- rows that are dead in either add nothing, so these are the sums over all that count
pub summed-all : (p v : Table) (c base a i live live' : ℕ) (old sums : List Enclosure) → IsTable p → IsTable v → p.cells ≡ v.cells → i < p.cells - c →
    ((b d : ℕ) → live ≤ b → b ≤ d → d < p.cells → entry p b d ≡ exact_zero) → ((b d : ℕ) → live' ≤ b → b ≤ d → d < v.cells → entry v b d ≡ exact_zero) →
    a ≤ c + 1 → ((b : ℕ) → a ≤ b → b ≤ c → b < live → live' ≤ b) → AreSummed p v c base a old sums → get_or sums (base + i) exact_zero ≡ into_sequence_entry (entry p) (entry v) c (c + i)
summed-all p v c base a i live live' old sums h h' same within dead dead' le past f =
    let rest : a + (c + 1 - a) ≡ c + 1 = omega arith in
    f.each i within
    ∙ sym (sum_of-zeros (sequence-term p v c i) a (c + 1 - a) (λ j few. (summed-within p v c i j h h').valid)
    (λ b low high. elim (cases_lt b live) [
      | inl less ↦ times-zero_right (entry p b c) (entry v b (c + i)) (ap (λ (e : Enclosure). e.hi) (dead' b (c + i) (past b low (omega arith) less) (omega arith) (omega arith)))
      | inr more ↦ times-nothing (entry p b c) (entry v b (c + i)) (dead b c more (omega arith) (omega arith))
    ]))
    ∙ ap (sum_of (sequence-term p v c i) 0) rest

-- part of a row that is lent as a slice: its entries
pub part-entry : (t : Table) (items : List Enclosure) (a c k begin w : ℕ) → ((a b : ℕ) → get_or items (place t.cells a b) exact_zero ≡ entry t a b) → begin ≡ place t.cells a c → a ≤ c → k < w →
    get_or (take w (drop begin items)) k exact_zero ≡ entry t a (c + k)
part-entry t items a c k begin w each at le less =
    let here : begin + k ≡ place t.cells a (c + k) = omega (arith, at, le) in
    get_or-take w (drop begin items) k exact_zero less ∙ get_or-drop begin items k exact_zero ∙ ap (λ (j : ℕ). get_or items j exact_zero) here ∙ each a (c + k)

-- their exponents
pub part-near : (t : Table) (items : List Enclosure) (begin w r : ℕ) → padded t.cells items ≡ t → table_reach t + r < 2 ^ 20 → All (λ e. IsExponent (2 ^ 52) e.exp) (take w (drop begin items))
part-near t items begin w r view reach =
    All-take (λ e. IsExponent (2 ^ 52) e.exp) w (drop begin items) (All-drop (λ e. IsExponent (2 ^ 52) e.exp) begin items (kept-near t t.cells (2 ^ 52) items view (omega (arith, reach))))

-- where it ends
pub part_fits : (cells a c begin live len : ℕ) → len ≡ start cells live → a < live → a ≤ c → c < cells → begin ≡ place cells a c → begin + (cells - c) ≤ len
part_fits cells a c begin live len long row le less at =
    let next : a + 1 ≡ suc a = omega arith in
    omega (arith, at, long, ap (start cells) next, start_rises cells (a + 1) live (omega arith))

-- six times the ticks of one more row
pub sequence-ticks : (s s' s0 c cells : ℕ) → c < cells → s' ≤ s + (c + 1) * (cells - c) → 6 * s ≤ s0 + c * (c + 1) * (3 * (cells - c) + c + 2) →
    6 * s' ≤ s0 + (c + 1) * (c + 1 + 1) * (3 * (cells - (c + 1)) + (c + 1) + 2)
sequence-ticks s s' s0 c cells less more h =
    let e : cells - c ≡ cells - (c + 1) + 1 = omega arith in
    one_more (cells - (c + 1)) (rw e at more) (rw e at h)
  where
    one_more : (m : ℕ) → s' ≤ s + (c + 1) * (m + 1) → 6 * s ≤ s0 + c * (c + 1) * (3 * (m + 1) + c + 2) → 6 * s' ≤ s0 + (c + 1) * (c + 1 + 1) * (3 * m + (c + 1) + 2)
    one_more m more h = omega (arith, more, h)

-- at most those of all rows
pub sequence-ticks_most : (s s0 c cells : ℕ) → c ≤ cells → 6 * s ≤ s0 + c * (c + 1) * (3 * (cells - c) + c + 2) → 6 * s ≤ s0 + cells * (cells + 1) * (cells + 2)
sequence-ticks_most s s0 c cells le h =
    let all : c + (cells - c) ≡ cells = omega arith in
    omega (arith, h, subst (λ (n : ℕ). c * (c + 1) * (3 * (cells - c) + c + 2) ≤ n * (n + 1) * (n + 2)) all (grows (cells - c)))
  where
    grows : (m : ℕ) → c * (c + 1) * (3 * m + c + 2) ≤ (c + m) * (c + m + 1) * (c + m + 2)
    grows m = omega arith
