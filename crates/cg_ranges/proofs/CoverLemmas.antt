-- A cover reaches its target, no fewer cells do, and the posterior has that part at its cells.
use Rattle.std.proofs.Common.{◌≡◌, ℕ, zero, suc, ◌+◌, ◌-◌, ◌*◌, ◌<◌, ◌≤◌, Bool, true, false, not, cond, eqb, eq-eqb, ◌⊎◌, inl, inr, List, [], ◌∷◌, length, get_or, refl, sym, ap, arith}
use Rattle.std.specs.Prelude.{◌≢◌}
use Rattle.std.specs.List.{All, AllPairs, sum_by}
use Rattle.std.proofs.Math.Nat.{mul-le-mul_right}
use Rattle.std.proofs.lemmas.Bool.{cases_lt, cond-true, cond-false, ltb-true, ltb-false, not-true, not-false, not_from_false, true_from_ne_false}
use Rattle.std.proofs.lemmas.List.Elements.{All-head, All-tail, All-weaker}
use Rattle.std.proofs.lemmas.List.FromFn.{length-range_with_len, get_or-range_with_len}
use Rattle.std.proofs.lemmas.List.Kept.{AllPairs-filter}
use Rattle.std.proofs.lemmas.List.Sums.{sum_by-cons}
use Rattle.cg_meaning.specs.Sums.{sum_below}
use Rattle.cg_meaning.specs.Tree.{Tree}
use Rattle.cg_meaning.specs.Scene.{Scene}
use Rattle.cg_meaning.specs.Posterior.{total, total_at, AreHeld}
use Rattle.cg_meaning.proofs.Sums.{sum_below-same, sum_below-mono, sum_below-zero, sum_below-add, sum_below-scale}
use Rattle.cg_meaning.proofs.Marginals.{sum_below-pick}
use Rattle.cg_marginal.specs.Pairs.{ArePairs}
use Rattle.cg_ranges.specs.Cover.{lower_at, cells_of, lower_sum, comes_before, cells_before, is_taken, cover}
use Rattle.cg_ranges.specs.Laws.{Covers, IsCover, RangesCover}
use Rattle.cg_ranges.proofs.OrderLemmas.{IsFirst, first_of, IsLinear-comes_before, IsLinear-flip, comes_before-one_way, comes_before-itself, comes_before-lower, comes_before-no_lower}
use Rattle.cg_ranges.proofs.RunLemmas.{filter-within}
use Rattle.cg_ranges.proofs.SumLemmas.{sum_by-passing, length-passing, sum_by-places, sum_by-different}

sum_below-ones : (n : ℕ) → sum_below n (λ c. 1) ≡ n
sum_below-ones zero = refl
sum_below-ones (suc n) = omega (arith, sum_below-ones n)

-- the lower ends of all cells reach each target
all_lower : (pairs : List (ℕ × ℕ)) → ArePairs pairs → length pairs ≤ 512 → 998464 ≤ sum_below (length pairs) (lower_at pairs)
all_lower pairs are few =
    let n = length pairs in
    let upper = sum_by-places (λ pair. pair.1) pairs (0, 0) in
    let near = sum_below-mono n (λ c. (get_or pairs c (0, 0)).1) (λ c. lower_at pairs c + 3 * 1) (λ c less. omega (arith, (are.each c (0, 0) less).close)) in
    let wide = sum_below-add n (lower_at pairs) (λ c. 3 * 1) in
    let threes = sum_below-scale n 3 (λ c. 1) in
    let count = sum_below-ones n in
    omega (arith, upper, near, wide, threes, count, are.reach)

-- where a cell passes a test that follows from another, it counts
counts : (p q : Bool) (x : ℕ) → (p ≡ true → q ≡ true) → cond p x 0 ≤ cond q x 0
counts true q x then = rw (then refl) (omega arith)
counts false q x then = omega arith

-- a cover reaches its target
enough_by : (pairs : List (ℕ × ℕ)) (target : ℕ) → ArePairs pairs → length pairs ≤ 512 → target ≤ 998464 →
    IsFirst (comes_before pairs) (λ c. not (is_taken pairs target c)) (length pairs) ⊎ ((c : ℕ) → c < length pairs → not (is_taken pairs target c) ≡ false) →
    target ≤ sum_below (length pairs) (λ c. cond (is_taken pairs target c) (lower_at pairs c) 0)
enough_by pairs target are few small (inr none) =
    let all = sum_below-same (length pairs) (lower_at pairs) (λ c. cond (is_taken pairs target c) (lower_at pairs c) 0)
    (λ c less. sym (cond-true (is_taken pairs target c) (lower_at pairs c) 0 (not-false (is_taken pairs target c) (none c less)))) in
    omega (arith, all, all_lower pairs are few)
enough_by pairs target are few small (inl f) =
    let n = length pairs in
    let left : is_taken pairs target f.cell ≡ false = not-true (is_taken pairs target f.cell) f.passes in
    let reached : target ≤ lower_sum pairs (cells_before pairs f.cell) = ltb-false (lower_sum pairs (cells_before pairs f.cell)) target left in
    let taken : (c : ℕ) → c < n → comes_before pairs c f.cell ≡ true → is_taken pairs target c ≡ true =
    λ c less before. true_from_ne_false (is_taken pairs target c) (λ out.
    elim (f.first c less (not_from_false (is_taken pairs target c) out)) [
      | inl same ↦ comes_before-itself pairs f.cell (rw same at before)
      | inr behind ↦ comes_before-one_way pairs c f.cell before behind
    ]) in
    let more = sum_below-mono n (λ c. cond (comes_before pairs c f.cell) (lower_at pairs c) 0) (λ c. cond (is_taken pairs target c) (lower_at pairs c) 0)
    (λ c less. counts (comes_before pairs c f.cell) (is_taken pairs target c) (lower_at pairs c) (taken c less)) in
    omega (arith, reached, more, sum_by-passing (lower_at pairs) (λ c. comes_before pairs c f.cell) n)

pub enough : (pairs : List (ℕ × ℕ)) (target : ℕ) → ArePairs pairs → length pairs ≤ 512 → target ≤ 998464 → target ≤ lower_sum pairs (cover pairs target)
enough pairs target are few small =
    let n = length pairs in
    omega (
      arith,
      sum_by-passing (lower_at pairs) (is_taken pairs target) n,
      enough_by pairs target are few small (first_of (comes_before pairs) (λ c. not (is_taken pairs target c)) n (IsLinear-comes_before pairs)),
    )

-- what is above t
above : (f : ℕ → ℕ) (t : ℕ) → ℕ → ℕ
above f t c = f c - t

sum_by-above : (f : ℕ → ℕ) (t : ℕ) (cells : List ℕ) → sum_by f cells ≤ length cells * t + sum_by (above f t) cells
unfolding above
sum_by-above f t [] = omega arith
sum_by-above f t (c ∷ cells) = omega (arith, sum_by-above f t cells, sum_by-cons f c cells, sum_by-cons (λ d. f d - t) c cells)

part : (b : Bool) (x t : ℕ) → (b ≡ true → t ≤ x) → cond b x 0 ≡ t * cond b 1 0 + cond b (x - t) 0
part true x t high = omega (arith, high refl)
part false x t high = omega arith

whole : (b : Bool) (x t : ℕ) → (b ≡ false → x ≤ t) → x - t ≤ cond b (x - t) 0
whole true x t low = omega arith
whole false x t low = omega (arith, low refl)

-- No different cells sum to more than as many of the greatest: those that pass are at least t, and the others at most.
exchange : (f : ℕ → ℕ) (p : ℕ → Bool) (t n : ℕ) (cells : List ℕ) → ((c : ℕ) → p c ≡ true → t ≤ f c) → ((c : ℕ) → p c ≡ false → f c ≤ t) →
    All (λ c. c < n) cells → AllPairs (λ a b. a ≢ b) cells → length cells ≤ sum_below n (λ c. cond (p c) 1 0) →
    sum_by f cells ≤ sum_below n (λ c. cond (p c) (f c) 0)
unfolding above
exchange f p t n cells high low within apart few =
    let parts = sum_below-same n (λ c. cond (p c) (f c) 0) (λ c. t * cond (p c) 1 0 + cond (p c) (f c - t) 0) (λ c less. part (p c) (f c) t (high c)) in
    let added = sum_below-add n (λ c. t * cond (p c) 1 0) (λ c. cond (p c) (f c - t) 0) in
    let scaled = sum_below-scale n t (λ c. cond (p c) 1 0) in
    let rest = sum_below-mono n (λ c. f c - t) (λ c. cond (p c) (f c - t) 0) (λ c less. whole (p c) (f c) t (low c)) in
    omega (arith, sum_by-above f t cells, sum_by-different (λ c. f c - t) n cells within apart, parts, added, scaled, rest, mul-le-mul_right t few)

-- the cells of a cover are those before its last one, and the last one
one_more : (b e q : Bool) → (b ≡ true → (e ≡ true) ⊎ (q ≡ true)) → cond b 1 0 ≤ cond q 1 0 + cond e 1 0
one_more true e q or = elim (or refl) [
  | inl same ↦ rw same (omega arith)
  | inr before ↦ rw before (omega arith)
]
one_more false e q or = omega arith

least_by : (pairs : List (ℕ × ℕ)) (target : ℕ) (cells : List ℕ) → IsCover pairs target cells →
    IsFirst (λ a b. comes_before pairs b a) (is_taken pairs target) (length pairs) ⊎ ((c : ℕ) → c < length pairs → is_taken pairs target c ≡ false) →
    sum_below (length pairs) (λ c. cond (is_taken pairs target c) 1 0) ≤ length cells
least_by pairs target cells is (inr none) =
    omega (arith, sum_below-zero (length pairs) (λ c. cond (is_taken pairs target c) 1 0) (λ c less. cond-false (is_taken pairs target c) 1 0 (none c less)))
least_by pairs target cells is (inl f) =
    let n = length pairs in
    let before : ℕ → Bool = λ c. comes_before pairs c f.cell in
    let short : lower_sum pairs (cells_before pairs f.cell) < target = ltb-true (lower_sum pairs (cells_before pairs f.cell)) target f.passes in
    let more = sum_below-mono n (λ c. cond (is_taken pairs target c) 1 0) (λ c. cond (before c) 1 0 + cond (eqb f.cell c) 1 0)
    (λ c less. one_more (is_taken pairs target c) (eqb f.cell c) (before c) (λ taken.
    elim (f.first c less taken) [
      | inl same ↦ inl (eq-eqb f.cell c (sym same))
      | inr earlier ↦ inr earlier
    ])) in
    let added = sum_below-add n (λ c. cond (before c) 1 0) (λ c. cond (eqb f.cell c) 1 0) in
    let last = sum_below-pick n f.cell (λ c. 1) f.below in
    elim (cases_lt (length cells) (sum_below n (λ c. cond (is_taken pairs target c) 1 0))) [
      | inr le ↦ le
      | inl fewer ↦
          let few : length cells ≤ sum_below n (λ c. cond (before c) 1 0) = omega arith in
          let at_most = exchange (lower_at pairs) before (lower_at pairs f.cell) n cells
          (λ c h. comes_before-lower pairs c f.cell h) (λ c h. comes_before-no_lower pairs c f.cell h) is.within is.distinct few in
          absurd (omega (arith, at_most, short, is.enough, sum_by-passing (lower_at pairs) before n))
    ]

least : (pairs : List (ℕ × ℕ)) (target : ℕ) (cells : List ℕ) → IsCover pairs target cells → length (cover pairs target) ≤ length cells
least pairs target cells is =
    let n = length pairs in
    omega (
      arith,
      length-passing (is_taken pairs target) n,
      least_by pairs target cells is (first_of (λ a b. comes_before pairs b a) (is_taken pairs target) n (IsLinear-flip (comes_before pairs) (IsLinear-comes_before pairs))),
    )

-- sums of bounded terms
bounded : (f g : ℕ → ℕ) (t m : ℕ) (cells : List ℕ) → All (λ c. f c * t ≤ m * g c) cells → sum_by f cells * t ≤ m * sum_by g cells
bounded f g t m [] each = omega arith
bounded f g t m (c ∷ cells) each =
    omega (
      arith,
      All-head (λ d. f d * t ≤ m * g d) c cells each,
      bounded f g t m cells (All-tail (λ d. f d * t ≤ m * g d) c cells each),
      ap (λ (x : ℕ). x * t) (sum_by-cons f c cells),
      ap (λ (x : ℕ). m * x) (sum_by-cons g c cells),
    )

posterior : (pairs : List (ℕ × ℕ)) (target : ℕ) → target ≤ lower_sum pairs (cover pairs target) →
    (tree : Tree) (scene : Scene) (event : ℕ) → AreHeld tree scene event pairs → Covers tree scene event target (cover pairs target)
posterior pairs target reached tree scene event held w admitted =
    let t = total tree scene w in
    let each = All-weaker (λ c. c < length pairs) (λ c. lower_at pairs c * t ≤ 1000000 * total_at tree scene w event c)
    (λ c less. (held.hold c (omega (arith, held.each))).lower w admitted) (cover pairs target) (filter-within (is_taken pairs target) (length pairs)) in
    omega (
      arith,
      mul-le-mul_right t reached,
      bounded (lower_at pairs) (λ c. total_at tree scene w event c) t 1000000 (cover pairs target) each,
    )

cells-apart : (pairs : List (ℕ × ℕ)) → AllPairs (λ a b. a ≢ b) (cells_of pairs)
cells-apart pairs i j d less within same =
    let n = length pairs in
    let below : j < n = omega (arith, length-range_with_len 0 n) in
    omega (arith, get_or-range_with_len 0 n i d (omega arith), get_or-range_with_len 0 n j d below)

pub ranges-cover : RangesCover
ranges-cover pairs target are few small =
    let reached = enough pairs target are few small in
    record {
      covers = record {
        within = filter-within (is_taken pairs target) (length pairs);
        distinct = AllPairs-filter (λ a b. a ≢ b) (is_taken pairs target) (cells_of pairs) (cells-apart pairs);
        enough = reached;
      };
      least = least pairs target;
      posterior = posterior pairs target reached;
    }
