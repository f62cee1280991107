-- Lower ends with their cells, sorted.
use Rattle.std.proofs.Common.{◌≡◌, ℕ, zero, suc, ◌+◌, ◌-◌, ◌<◌, ◌≤◌, Bool, true, false, cond, ltb, eqb, ◌⊎◌, inl, inr, List, [], ◌∷◌, ◌++◌, length, get_or, map, refl, sym, ap, ◌∙◌, arith, zero-add, subst}
use Rattle.std.specs.List.{All, range_with_len, IsDistinct}
use Rattle.std.specs.List.Sorted.{IsPermutation, IsSortedBy}
use Rattle.std.specs.declared.cmp.Reverse.{Reverse}
use Rattle.std.specs.declared.cmp.Ordering.{Ordering}
use Rattle.std.specs.Ordering.{is_lt, nat_cmp, ordering_then}
use Rattle.std.proofs.lemmas.Bool.{cases_lt, cases_order, lt-ltb, le-ltb, eq-eqb, ne_eqb, eqb-true, eqb-false, cases_Bool, both_ways}
use Rattle.std.proofs.lemmas.List.{length-map, get_or-map}
use Rattle.std.proofs.lemmas.List.Elements.{All-map}
use Rattle.std.proofs.lemmas.List.FromFn.{map-range_with_len_more, length-range_with_len, get_or-range_with_len}
use Rattle.std.proofs.lemmas.List.Sorted.{IsPermutation-map, All-permutation}
use Rattle.std.proofs.lemmas.Map.Keys.{IsDistinct-from_apart, IsDistinct-IsPermutation, apart_from_distinct}
use Rattle.cg_ranges.specs.Cover.{lower_at, cells_of, comes_before}
use Rattle.cg_ranges.specs.Order.{lower_of, cell_of, IsInOrder}
use Rattle.cg_ranges.proofs.OrderLemmas.{IsLinear-comes_before, comes_before-from}

-- the end of a cell
abbrev pub end_at : List (ℕ × ℕ) → ℕ → Reverse ℕ × ℕ
end_at pairs cell = (record { 0 = lower_at pairs cell }, cell)

pub ends_more : (pairs : List (ℕ × ℕ)) (ends : List (Reverse ℕ × ℕ)) (n lower : ℕ) → ends ≡ map (end_at pairs) (range_with_len 0 n) →
    lower ≡ lower_at pairs n → ends ++ (record { 0 = lower }, n) ∷ [] ≡ map (end_at pairs) (range_with_len 0 (n + 1))
ends_more pairs ends n lower is e = rw (is, e) (sym (map-range_with_len_more (end_at pairs) 0 n n (zero-add n)))

-- the order by which ends are sorted
abbrev pub end_cmp : Reverse ℕ × ℕ → Reverse ℕ × ℕ → Ordering
end_cmp x y = ordering_then (nat_cmp y.0.0 x.0.0) (nat_cmp x.1 y.1)

less_by : (a b c d : ℕ) (p q r s : Bool) → ltb a b ≡ p → eqb a b ≡ q → ltb c d ≡ r → eqb c d ≡ s →
    is_lt (ordering_then (nat_cmp a b) (nat_cmp c d)) ≡ cond p true (cond q r false)
less_by a b c d true q r s e f g h = rw e refl
less_by a b c d false false r s e f g h = rw (e, f) refl
less_by a b c d false true true s e f g h = rw (e, f, g) refl
less_by a b c d false true false true e f g h = rw (e, f, g, h) refl
less_by a b c d false true false false e f g h = rw (e, f, g, h) refl

-- a pair that isn't less
not_less : (a b c d : ℕ) → is_lt (ordering_then (nat_cmp a b) (nat_cmp c d)) ≡ false → (b < a) ⊎ ((a ≡ b) × (d ≤ c))
not_less a b c d e =
    elim (cases_order a b) [
      | inr (inr more) ↦ inl more
      | inr (inl less) ↦ absurd (both_ways _ e (less_by a b c d true (eqb a b) (ltb c d) (eqb c d) (lt-ltb a b less) refl refl refl))
      | inl same ↦ elim (cases_lt c d) [
        | inr le ↦ inr (same, le)
        | inl less ↦
            absurd (both_ways _ e (less_by a b c d false true true (eqb c d) (le-ltb a b (omega arith)) (eq-eqb a b same) (lt-ltb c d less) refl))
      ]
    ]

cells_of-ends : (pairs : List (ℕ × ℕ)) (cells : List ℕ) → map cell_of (map (end_at pairs) cells) ≡ cells
cells_of-ends pairs [] = refl
cells_of-ends pairs (c ∷ cells) = ap (λ (rest : List ℕ). c ∷ rest) (cells_of-ends pairs cells)

ends-permuted : (pairs : List (ℕ × ℕ)) (ends : List (Reverse ℕ × ℕ)) → IsPermutation (map (end_at pairs) (cells_of pairs)) ends →
    IsPermutation (cells_of pairs) (map cell_of ends)
ends-permuted pairs ends permuted =
    subst (λ (cells : List ℕ). IsPermutation cells (map cell_of ends)) (cells_of-ends pairs (cells_of pairs))
    (IsPermutation-map cell_of (map (end_at pairs) (cells_of pairs)) ends permuted)

pub ends-lower : (pairs : List (ℕ × ℕ)) (ends : List (Reverse ℕ × ℕ)) → IsPermutation (map (end_at pairs) (cells_of pairs)) ends →
    All (λ end. lower_of end ≡ lower_at pairs (cell_of end)) ends
ends-lower pairs ends permuted =
    All-permutation (λ end. lower_of end ≡ lower_at pairs (cell_of end)) (map (end_at pairs) (cells_of pairs)) ends permuted
    (All-map (λ (end : Reverse ℕ × ℕ). lower_of end ≡ lower_at pairs (cell_of end)) (end_at pairs) (cells_of pairs) (λ k d less. refl))

range-distinct : (n : ℕ) → IsDistinct eqb (range_with_len 0 n)
range-distinct n =
    IsDistinct-from_apart eqb (range_with_len 0 n) (λ i j d less within.
    let below : j < n = omega (arith, length-range_with_len 0 n) in
    ne_eqb (get_or (range_with_len 0 n) i d) (get_or (range_with_len 0 n) j d) (λ same.
    omega (arith, get_or-range_with_len 0 n i d (omega arith), get_or-range_with_len 0 n j d below)))

eqb-flip : (a b : ℕ) → eqb a b ≡ eqb b a
eqb-flip a b = elim (cases_Bool (eqb a b)) [
  | inl e ↦ e ∙ sym (eq-eqb b a (sym (eqb-true a b e)))
  | inr e ↦ e ∙ sym (ne_eqb b a (λ same. eqb-false a b e (sym same)))
]

-- the cells of sorted ends are different
ends-apart : (pairs : List (ℕ × ℕ)) (cells : List ℕ) → IsPermutation (cells_of pairs) cells → (i j d : ℕ) → i < j → j < length cells →
    get_or cells i d ≡ get_or cells j d → ⊥
ends-apart pairs cells permuted i j d less within =
    eqb-false (get_or cells i d) (get_or cells j d)
    (apart_from_distinct eqb cells i j d (IsDistinct-IsPermutation eqb eqb-flip (cells_of pairs) cells permuted (range-distinct (length pairs))) less within)

-- neighbours in order put all in order
all_before : (pairs : List (ℕ × ℕ)) (cells : List ℕ) → ((k d : ℕ) → k + 1 < length cells → comes_before pairs (get_or cells k d) (get_or cells (k + 1) d) ≡ true) →
    (i n d : ℕ) → i + n + 1 < length cells → comes_before pairs (get_or cells i d) (get_or cells (i + n + 1) d) ≡ true
all_before pairs cells next i zero d less =
    let here : i + 1 ≡ i + zero + 1 = omega arith in
    subst (λ (j : ℕ). comes_before pairs (get_or cells i d) (get_or cells j d) ≡ true) here (next i d (omega arith))
all_before pairs cells next i (suc n) d less =
    let here : i + n + 1 + 1 ≡ i + suc n + 1 = omega arith in
    subst (λ (j : ℕ). comes_before pairs (get_or cells i d) (get_or cells j d) ≡ true) here
    ((IsLinear-comes_before pairs).chain (get_or cells i d) (get_or cells (i + n + 1) d) (get_or cells (i + n + 1 + 1) d)
    (all_before pairs cells next i n d (omega arith)) (next (i + n + 1) d (omega arith)))

different : (a b : ℕ) → a ≤ b → (a ≡ b → ⊥) → a < b
different a b le apart = elim (cases_lt a b) [
  | inl less ↦ less
  | inr more ↦ absurd (apart (omega arith))
]

neighbours : (pairs : List (ℕ × ℕ)) (ends : List (Reverse ℕ × ℕ)) → IsPermutation (map (end_at pairs) (cells_of pairs)) ends →
    IsSortedBy (λ x y. is_lt (end_cmp x y)) ends → (k d : ℕ) → k + 1 < length (map cell_of ends) →
    comes_before pairs (get_or (map cell_of ends) k d) (get_or (map cell_of ends) (k + 1) d) ≡ true
neighbours pairs ends permuted sorted k d less =
    let e : Reverse ℕ × ℕ = (record { 0 = 0 }, d) in
    let within : k + 1 < length ends = omega (arith, length-map ends cell_of) in
    let x = get_or ends k e in
    let y = get_or ends (k + 1) e in
    let a = get_or-map cell_of ends k e d (omega arith) in
    let b = get_or-map cell_of ends (k + 1) e d within in
    let lower = ends-lower pairs ends permuted in
    let apart : cell_of x ≡ cell_of y → ⊥ = λ same. ends-apart pairs (map cell_of ends) (ends-permuted pairs ends permuted) k (k + 1) d (omega arith) less (a ∙ same ∙ sym b) in
    rw (a, b) (comes_before-from pairs (cell_of x) (cell_of y)
    (elim (not_less (lower_of x) (lower_of y) (cell_of y) (cell_of x) (sorted k e (omega arith) within)) [
      | inl more ↦ inl (omega (arith, lower k e (omega arith), lower (k + 1) e within))
      | inr tie ↦ inr (omega (arith, tie.0, lower k e (omega arith), lower (k + 1) e within), different (cell_of x) (cell_of y) tie.1 apart)
    ]))

pub ends-in_order : (pairs : List (ℕ × ℕ)) (ends : List (Reverse ℕ × ℕ)) → IsPermutation (map (end_at pairs) (cells_of pairs)) ends →
    IsSortedBy (λ x y. is_lt (end_cmp x y)) ends → IsInOrder pairs (map cell_of ends)
ends-in_order pairs ends permuted sorted = record {
  all = ends-permuted pairs ends permuted;
  order = λ i j d less within.
      let n : ℕ = j - i - 1 in
      let at : i + n + 1 ≡ j = omega arith in
      subst (λ (k : ℕ). comes_before pairs (get_or (map cell_of ends) i d) (get_or (map cell_of ends) k d) ≡ true) at
      (all_before pairs (map cell_of ends) (neighbours pairs ends permuted sorted) i n d (omega arith));
}
