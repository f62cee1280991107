-- Where the entries of a triangular table stand in its list.
use Rattle.std.proofs.Common.{◌≡◌, ℕ, zero, suc, ◌+◌, ◌-◌, ◌*◌, ◌/◌, ◌<◌, ◌≤◌, List, [], ◌++◌, ◌∷◌, length, get_or, map, lit<, arith, refl, ◌∙◌, ap, inl, inr, subst, add-suc, add-one, add-zero, append_assoc, ◌^◌}
use Rattle.std.specs.List.{range_with_len}
use Rattle.std.proofs.lemmas.List.{length-append, get_or-append_right}
use Rattle.std.proofs.lemmas.List.FromFn.{map-range_with_len_more, length-map-range_with_len, get_or-map-range_with_len}
use Rattle.std.proofs.lemmas.Bool.{cases_lt}
use Rattle.std.proofs.Math.Nat.{mul-div_cancel, mul-le-mul}
use lib.ListN.{get_or-append}
use Rattle.cg_enc.specs.Enclosure.{Enclosure, exact_zero}
use Rattle.cg_table.specs.Table.{start, place, entry, row, rows, table}

-- twice the start of row a, where m rows follow
pub start_twice : (cells a m : ℕ) → a + m ≡ cells → 2 * start cells a ≡ a * (a + 2 * m + 1)
start_twice cells zero m e = omega arith
start_twice cells (suc a) m e =
    let size : cells - a ≡ m + 1 = omega arith in
    omega (arith, start_twice cells a (m + 1) (omega arith), size)

pub start_more : (cells a k : ℕ) → start cells a ≤ start cells (a + k)
start_more cells a zero = rw add-zero (omega arith)
start_more cells a (suc k) = rw add-suc (omega (arith, start_more cells a k))

pub start_rises : (cells a b : ℕ) → a ≤ b → start cells a ≤ start cells b
start_rises cells a b h = subst (λ (x : ℕ). start cells a ≤ start cells x) (omega arith) (start_more cells a (b - a))

pub place_below : (cells a b n : ℕ) → a ≤ b → b < cells → a < n → place cells a b < start cells n
place_below cells a b n le within row = omega (arith, start_rises cells (suc a) n row)

pub length-rows : (cells : ℕ) (f : ℕ → ℕ → Enclosure) (n : ℕ) → length (rows cells f n) ≡ start cells n
length-rows cells f zero = refl
length-rows cells f (suc n) = length-append (rows cells f n) (map (f n) (range_with_len n (cells - n))) ∙ omega (arith, length-rows cells f n, length-map-range_with_len (f n) n (cells - n))

pub get-rows : (cells : ℕ) (f : ℕ → ℕ → Enclosure) (n a b : ℕ) → a ≤ b → b < cells → a < n → get_or (rows cells f n) (place cells a b) exact_zero ≡ f a b
get-rows cells f zero a b le within row = absurd (omega arith)
get-rows cells f (suc n) a b le within row =
    elim (cases_lt a n) [
      | inl before ↦ get_or-append (rows cells f n) (map (f n) (range_with_len n (cells - n))) exact_zero (place cells a b) (omega (arith, length-rows cells f n, place_below cells a b n le within before)) ∙
          get-rows cells f n a b le within before
      | inr here ↦
          let same : a ≡ n = omega arith in
          rw same (get_or-append_right (rows cells f n) (map (f n) (range_with_len n (cells - n))) (start cells n) (place cells n b) exact_zero (length-rows cells f n) (omega arith) ∙
          get_or-map-range_with_len (f n) n (cells - n) (place cells n b - start cells n) b exact_zero (omega (arith, same)) (omega (arith, same)))
    ]

-- an entry of a table is what its formula gives
pub entry-table : (cells : ℕ) (f : ℕ → ℕ → Enclosure) (a b : ℕ) → a ≤ b → b < cells → entry (table cells f) a b ≡ f a b
entry-table cells f a b le within = get-rows cells f cells a b le within (omega arith)

-- what the code computes
pub start_code : (cells a : ℕ) → a ≤ cells → a * (2 * cells + 1 - a) ≡ start cells a * 2
start_code cells a le =
    let m : a + (cells - a) ≡ cells = omega arith in
    let e : 2 * cells + 1 - a ≡ a + 2 * (cells - a) + 1 = omega arith in
    rw e (omega (arith, start_twice cells a (cells - a) m))

pub half_start : (cells a : ℕ) → a ≤ cells → a * (2 * cells + 1 - a) / 2 ≡ start cells a
half_start cells a le = rw (start_code cells a le) (mul-div_cancel (start cells a) (lit< tt))

-- the number of entries, as a product
pub start_whole : (cells n : ℕ) → 2 * n ≡ cells * (cells + 1) → n ≡ start cells cells
start_whole cells n e = omega (arith, e, start_twice cells cells 0 (omega arith))

pub few_cells : (cells n : ℕ) → 2 * n ≡ cells * (cells + 1) → n < 2 ^ 64 → cells < 2 ^ 33
few_cells cells n e less =
    elim (cases_lt cells (2 ^ 33)) [
      | inl few ↦ few
      | inr many ↦ let much : 2 ^ 33 * 2 ^ 33 ≤ cells * cells = mul-le-mul many many in absurd (omega (arith, e, much))
    ]

-- a row that is complete, and the next one empty
pub rows_next : (cells : ℕ) (f : ℕ → ℕ → Enclosure) (a : ℕ) → rows cells f (a + 1) ≡ rows cells f a ++ row cells f a
rows_next cells f a = rw add-one refl

-- one more entry of row a
pub row_more : (front items : List Enclosure) (f : ℕ → Enclosure) (x : Enclosure) (a b : ℕ) → a ≤ b → x ≡ f b → items ≡ front ++ map f (range_with_len a (b - a)) →
    items ++ x ∷ [] ≡ front ++ map f (range_with_len a (b + 1 - a))
row_more front items f x a b le e h =
    let next : b + 1 - a ≡ b - a + 1 = omega arith in
    rw (h, e, next, map-range_with_len_more f a (b - a) b (omega arith)) (append_assoc front (map f (range_with_len a (b - a))) (f b ∷ []))

-- the count that a table wants
pub count_rows : (cells : ℕ) (f : ℕ → ℕ → Enclosure) (items : List Enclosure) (a : ℕ) → a ≡ cells → items ≡ rows cells f a → 2 * length items ≡ cells * (cells + 1)
count_rows cells f items a e h = omega (arith, ap length h, length-rows cells f a, ap (start cells) e, start_twice cells cells 0 (omega arith))

pub start_next : (cells a : ℕ) → start cells (a + 1) ≡ start cells a + (cells - a)
start_next cells a = rw add-one refl

pub rows_done : (cells : ℕ) (f : ℕ → ℕ → Enclosure) (items new : List Enclosure) (a : ℕ) → new ≡ items ++ row cells f a → items ≡ rows cells f a → new ≡ rows cells f (a + 1)
rows_done cells f items new a e h = e ∙ rw (h, rows_next cells f a) refl

-- six times the ticks of one more such row
pub ticks_row : (s s' s0 cells a : ℕ) → a < cells → 2 * s' ≤ 2 * s + (cells - a) * (cells - a + 1) → 6 * s + (cells - a) * (cells - a + 1) * (cells - a + 2) ≤ s0 →
    6 * s' + (cells - (a + 1)) * (cells - (a + 1) + 1) * (cells - (a + 1) + 2) ≤ s0
ticks_row s s' s0 cells a less e h =
    let m : cells - a ≡ cells - (a + 1) + 1 = omega arith in
    ticks_triangle s s' s0 (cells - (a + 1)) (rw m at e) (rw m at h)
  where
    ticks_triangle : (s s' s0 m : ℕ) → 2 * s' ≤ 2 * s + (m + 1) * (m + 1 + 1) → 6 * s + (m + 1) * (m + 1 + 1) * (m + 1 + 2) ≤ s0 → 6 * s' + m * (m + 1) * (m + 2) ≤ s0
    ticks_triangle s s' s0 m e h = omega (arith, e, h)
