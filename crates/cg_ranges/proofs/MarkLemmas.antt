-- The cells in their order, up to the one that reaches the target.
use Rattle.std.proofs.Common.{◌≡◌, ℕ, zero, suc, ◌+◌, ◌<◌, ◌≤◌, Bool, true, false, cond, ltb, inl, inr, List, [], ◌∷◌, length, get_or, set, map, take, drop, replicate, refl, sym, ap, ◌∙◌, arith, zero-add}
use Rattle.std.specs.List.{All, filter, range_with_len, sum_by}
use Rattle.std.proofs.lemmas.Bool.{cases_lt, cases_eq, both_ways, cond-true, cond-false, lt-ltb, le-ltb, false_from_ne_true}
use Rattle.std.proofs.lemmas.List.{get_or-take, get_or-drop, get_or-set_same, get_or-set_other, length-set, length-take-le, length-drop, take-take, get_or_default, length-replicate}
use Rattle.std.proofs.lemmas.List.Elements.{All-head, All-tail, All-weaker}
use Rattle.std.proofs.lemmas.List.FromFn.{length-map-range_with_len, get_or-map-range_with_len, length-range_with_len, get_or-range_with_len, fill_by_all}
use Rattle.std.proofs.lemmas.List.Sorted.{Contains-permutation, All-permutation, sum_by-IsPermutation}
use Rattle.std.proofs.lemmas.List.Sums.{sum_by-take-drop, sum_by-take-le, sum_by_more}
use Rattle.cg_ranges.specs.Cover.{lower_at, cells_of, lower_sum, comes_before, cells_before, is_taken, cover}
use Rattle.cg_ranges.specs.Order.{IsInOrder}
use Rattle.cg_ranges.specs.Runs.{marked}
use Rattle.cg_ranges.proofs.OrderLemmas.{comes_before-one_way, comes_before-itself}
use Rattle.cg_ranges.proofs.RunLemmas.{range-within}
use Rattle.cg_ranges.proofs.SumLemmas.{sum_by-filter, sum_by-agree}

pub within-in_order : (pairs : List (ℕ × ℕ)) (cells : List ℕ) → IsInOrder pairs cells → All (λ c. c < length pairs) cells
within-in_order pairs cells is = All-permutation (λ c. c < length pairs) (cells_of pairs) cells is.all (range-within (length pairs))

none_of : (xs : List ℕ) → sum_by (λ _. 0) xs ≡ 0
none_of [] = refl
none_of (x ∷ xs) = none_of xs

zeros : (f : ℕ → ℕ) (xs : List ℕ) → All (λ x. f x ≡ 0) xs → sum_by f xs ≡ 0
zeros f xs none = sum_by-agree f (λ _. 0) xs none ∙ none_of xs

-- Where the first k pass and the others don't, what passes sums to the first k.
first_pass : (f : ℕ → ℕ) (p : ℕ → Bool) (cells : List ℕ) (k : ℕ) → k ≤ length cells →
    ((i : ℕ) → i < k → p (get_or cells i 0) ≡ true) → ((i : ℕ) → k ≤ i → i < length cells → p (get_or cells i 0) ≡ false) →
    sum_by (λ c. cond (p c) (f c) 0) cells ≡ sum_by f (take k cells)
first_pass f p cells k le passing failing =
    let g : ℕ → ℕ = λ c. cond (p c) (f c) 0 in
    let front : All (λ c. g c ≡ f c) (take k cells) = λ i d less.
    let below : i < k = omega (arith, length-take-le k cells le) in
    let here = get_or-take k cells i d below ∙ get_or_default cells i d 0 (omega arith) in
    rw here (cond-true (p (get_or cells i 0)) (f (get_or cells i 0)) 0 (passing i below)) in
    let back : All (λ c. g c ≡ 0) (drop k cells) = λ i d less.
    let within : k + i < length cells = omega (arith, length-drop k cells) in
    let here = get_or-drop k cells i d ∙ get_or_default cells (k + i) d 0 within in
    rw here (cond-false (p (get_or cells (k + i) 0)) (f (get_or cells (k + i) 0)) 0 (failing (k + i) (omega arith) within)) in
    omega (arith, sum_by-take-drop g cells k, sum_by-agree g f (take k cells) front, zeros g (drop k cells) back)

-- what comes before the cell at a place of the order is what stands before that place
sum-before : (pairs : List (ℕ × ℕ)) (cells : List ℕ) (k : ℕ) → IsInOrder pairs cells → k < length cells →
    lower_sum pairs (cells_before pairs (get_or cells k 0)) ≡ lower_sum pairs (take k cells)
sum-before pairs cells k is less =
    let x = get_or cells k 0 in
    sum_by-filter (lower_at pairs) (λ c. comes_before pairs c x) (cells_of pairs)
    ∙ sym (sum_by-IsPermutation (λ c. cond (comes_before pairs c x) (lower_at pairs c) 0) (cells_of pairs) cells is.all)
    ∙ first_pass (lower_at pairs) (λ c. comes_before pairs c x) cells k (omega arith) (λ i below. is.order i k 0 below less)
    (λ i le within. false_from_ne_true (comes_before pairs (get_or cells i 0) x) (λ before.
    elim (cases_lt k i) [
      | inl behind ↦ comes_before-one_way pairs (get_or cells i 0) x before (is.order k i 0 behind within)
      | inr last ↦ let same : i ≡ k = omega arith in comes_before-itself pairs x (rw same at before)
    ]))

-- the first places are taken, so long as those before them don't reach the target
taken-at : (pairs : List (ℕ × ℕ)) (target : ℕ) (cells : List ℕ) (k : ℕ) → IsInOrder pairs cells → k < length cells →
    is_taken pairs target (get_or cells k 0) ≡ ltb (lower_sum pairs (take k cells)) target
taken-at pairs target cells k is less = ap (λ (sum : ℕ). ltb sum target) (sum-before pairs cells k is less)

-- the marks and the sum of the first k cells
pub record IsMarked (pairs : List (ℕ × ℕ)) (target : ℕ) (cells : List ℕ) (k sum : ℕ) (marks : List Bool) : Type 0 where
  pub within : k ≤ length cells
  pub sums : sum ≡ lower_sum pairs (take k cells)
  pub short : (i : ℕ) → i < k → lower_sum pairs (take i cells) < target
  pub long : length marks ≡ length pairs
  pub here : (i : ℕ) → i < k → get_or marks (get_or cells i 0) false ≡ true
  pub only : (c : ℕ) → get_or marks c false ≡ true → (i : ℕ) × (i < k) × (get_or cells i 0 ≡ c)

unmarked : (n c : ℕ) → get_or (replicate n false) c false ≡ false
unmarked zero c = refl
unmarked (suc n) zero = refl
unmarked (suc n) (suc c) = unmarked n c

pub none-marked : (pairs : List (ℕ × ℕ)) (target : ℕ) (cells : List ℕ) → IsMarked pairs target cells 0 0 (replicate (length pairs) false)
none-marked pairs target cells = record {
  within = omega arith;
  sums = refl;
  short = λ i less. absurd (omega arith);
  long = length-replicate (length pairs) false;
  here = λ i less. absurd (omega arith);
  only = λ c h. absurd (both_ways _ (unmarked (length pairs) c) h);
}

pub more-marked : (pairs : List (ℕ × ℕ)) (target : ℕ) (cells : List ℕ) (k sum : ℕ) (marks : List Bool) (cell lower : ℕ) →
    IsInOrder pairs cells → IsMarked pairs target cells k sum marks → k < length cells → sum < target → cell ≡ get_or cells k 0 →
    lower ≡ lower_at pairs cell → IsMarked pairs target cells (k + 1) (sum + lower) (set marks cell true)
more-marked pairs target cells k sum marks cell lower is m less small at low =
    let below : cell < length marks = omega (arith, m.long, at, within-in_order pairs cells is k 0 less) in
    record {
      within = omega arith;
      sums = omega (arith, m.sums, low, ap (lower_at pairs) at, sum_by_more (lower_at pairs) cells k 0 less);
      short = λ i h. elim (cases_lt i k) [
        | inl before ↦ m.short i before
        | inr last ↦ let same : i ≡ k = omega arith in rw same (omega (arith, m.sums))
      ];
      long = length-set marks cell true ∙ m.long;
      here = λ i h. elim (cases_eq (get_or cells i 0) cell) [
        | inl same ↦ rw same (get_or-set_same marks cell true false below)
        | inr other ↦ get_or-set_other marks cell (get_or cells i 0) true false other
            ∙ m.here i (elim (cases_lt i k) [
              | inl before ↦ before
              | inr last ↦ let same : i ≡ k = omega arith in absurd (other (ap (λ (j : ℕ). get_or cells j 0) same ∙ sym at))
            ])
      ];
      only = λ c h. elim (cases_eq c cell) [
        | inl same ↦ (k, omega arith, sym at ∙ sym same)
        | inr other ↦ let old = m.only c (sym (get_or-set_other marks cell c true false other) ∙ h) in (old.0, omega (arith, old.1), old.2)
      ];
    }

-- where the loop ends, the first k cells are those that are taken
pub record IsDone (pairs : List (ℕ × ℕ)) (target : ℕ) (cells : List ℕ) (k sum : ℕ) (marks : List Bool) : Type 0 where
  pub order : IsInOrder pairs cells
  pub marked : IsMarked pairs target cells k sum marks
  pub reached : (k < length cells) → target ≤ sum

taken-front : (pairs : List (ℕ × ℕ)) (target : ℕ) (cells : List ℕ) (k sum : ℕ) (marks : List Bool) → IsDone pairs target cells k sum marks →
    (i : ℕ) → i < k → is_taken pairs target (get_or cells i 0) ≡ true
taken-front pairs target cells k sum marks done i less =
    taken-at pairs target cells i done.order (omega (arith, done.marked.within))
    ∙ lt-ltb (lower_sum pairs (take i cells)) target (done.marked.short i less)

untaken-back : (pairs : List (ℕ × ℕ)) (target : ℕ) (cells : List ℕ) (k sum : ℕ) (marks : List Bool) → IsDone pairs target cells k sum marks →
    (i : ℕ) → k ≤ i → i < length cells → is_taken pairs target (get_or cells i 0) ≡ false
untaken-back pairs target cells k sum marks done i le within =
    let front : lower_sum pairs (take k cells) ≤ lower_sum pairs (take i cells) =
    omega (arith, sum_by-take-le (lower_at pairs) (take i cells) k, ap (lower_sum pairs) (take-take k i cells le)) in
    taken-at pairs target cells i done.order within
    ∙ le-ltb (lower_sum pairs (take i cells)) target (omega (arith, front, done.marked.sums, done.reached (omega arith)))

pub done-sum : (pairs : List (ℕ × ℕ)) (target : ℕ) (cells : List ℕ) (k sum : ℕ) (marks : List Bool) → IsDone pairs target cells k sum marks →
    sum ≡ lower_sum pairs (cover pairs target)
done-sum pairs target cells k sum marks done =
    done.marked.sums
    ∙ sym (first_pass (lower_at pairs) (is_taken pairs target) cells k done.marked.within (taken-front pairs target cells k sum marks done) (untaken-back pairs target cells k sum marks done))
    ∙ sum_by-IsPermutation (λ c. cond (is_taken pairs target c) (lower_at pairs c) 0) (cells_of pairs) cells done.order.all
    ∙ sym (sum_by-filter (lower_at pairs) (is_taken pairs target) (cells_of pairs))

mark-at : (pairs : List (ℕ × ℕ)) (target : ℕ) (cells : List ℕ) (k sum : ℕ) (marks : List Bool) → IsDone pairs target cells k sum marks →
    (c i : ℕ) → i < length cells → get_or cells i 0 ≡ c → get_or marks c false ≡ is_taken pairs target c
mark-at pairs target cells k sum marks done c i within same =
    elim (cases_lt i k) [
      | inl less ↦ rw (sym same) (done.marked.here i less ∙ sym (taken-front pairs target cells k sum marks done i less))
      | inr le ↦
          let out : is_taken pairs target c ≡ false = rw (sym same) (untaken-back pairs target cells k sum marks done i le within) in
          false_from_ne_true (get_or marks c false) (λ h.
          let old = done.marked.only c h in
          both_ways _ out (rw (sym old.2) (taken-front pairs target cells k sum marks done old.0 old.1)))
          ∙ sym out
    ]

pub done-marks : (pairs : List (ℕ × ℕ)) (target : ℕ) (cells : List ℕ) (k sum : ℕ) (marks : List Bool) → IsDone pairs target cells k sum marks →
    marks ≡ map (is_taken pairs target) (cells_of pairs)
done-marks pairs target cells k sum marks done =
    fill_by_all (is_taken pairs target) marks (length pairs) false done.marked.long (λ c less.
    let n = length pairs in
    let at : (i : ℕ) × (i < length cells) × (get_or cells i c ≡ c) =
    Contains-permutation (cells_of pairs) cells c done.order.all (c, omega (arith, length-range_with_len 0 n), get_or-range_with_len 0 n c c less ∙ omega arith) in
    mark-at pairs target cells k sum marks done c at.0 at.1 (get_or_default cells at.0 0 c at.1 ∙ at.2))

filter-same : (p q : ℕ → Bool) (cells : List ℕ) → All (λ c. p c ≡ q c) cells → filter p cells ≡ filter q cells
filter-same p q [] same = refl
filter-same p q (c ∷ cells) same =
    ap (λ (kept : List ℕ). cond (p c) (c ∷ kept) kept) (filter-same p q cells (All-tail (λ d. p d ≡ q d) c cells same))
    ∙ ap (λ (b : Bool). cond b (c ∷ filter q cells) (filter q cells)) (All-head (λ d. p d ≡ q d) c cells same)

-- the cells with a mark are the cover
pub marked-cover : (pairs : List (ℕ × ℕ)) (target : ℕ) → marked (map (is_taken pairs target) (cells_of pairs)) ≡ cover pairs target
marked-cover pairs target =
    let n = length pairs in
    let marks = map (is_taken pairs target) (cells_of pairs) in
    let p : ℕ → Bool = λ c. get_or marks c false in
    ap (λ (k : ℕ). filter p (range_with_len 0 k)) (length-map-range_with_len (is_taken pairs target) 0 n)
    ∙ filter-same p (is_taken pairs target) (cells_of pairs)
    (All-weaker (λ c. c < n) (λ c. p c ≡ is_taken pairs target c)
    (λ c less. get_or-map-range_with_len (is_taken pairs target) 0 n c c false less (zero-add c)) (cells_of pairs) (range-within n))
