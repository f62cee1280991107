-- The order of cells, and the first cell that passes a test.
use Rattle.std.proofs.Common.{◌≡◌, ℕ, zero, suc, ◌<◌, ◌≤◌, Bool, true, false, ◌&&◌, ◌||◌, ◌⊎◌, inl, inr, ltb, eqb, List, sym, arith}
use Rattle.std.proofs.lemmas.Bool.{cases_Bool, cases_lt, cases_order, and_parts, and_from, or_cases, or_left, or_right, ltb-true, lt-ltb, eqb-true, eq-eqb, both_ways}
use Rattle.cg_ranges.specs.Cover.{lower_at, comes_before}

-- the order, by the lower ends x and y of the cells a and b
Before : ℕ → ℕ → ℕ → ℕ → Type 0
Before x y a b = (y < x) ⊎ ((x ≡ y) × (a < b))

of_test : (x y a b : ℕ) → (ltb y x || (eqb x y && ltb a b)) ≡ true → Before x y a b
unfolding Before
of_test x y a b e =
    elim (or_cases (ltb y x) (eqb x y && ltb a b) e) [
      | inl more ↦ inl (ltb-true y x more)
      | inr tie ↦ let both = and_parts (eqb x y) (ltb a b) tie in inr (eqb-true x y both.0, ltb-true a b both.1)
    ]

to_test : (x y a b : ℕ) → Before x y a b → (ltb y x || (eqb x y && ltb a b)) ≡ true
unfolding Before
to_test x y a b (inl more) = or_left (ltb y x) (eqb x y && ltb a b) (lt-ltb y x more)
to_test x y a b (inr tie) =
    or_right (ltb y x) (eqb x y && ltb a b) (and_from (eqb x y) (ltb a b) (eq-eqb x y tie.0) (lt-ltb a b tie.1))

chain : (x y z a b c : ℕ) → Before x y a b → Before y z b c → Before x z a c
unfolding Before
chain x y z a b c (inl h) (inl k) = inl (omega arith)
chain x y z a b c (inl h) (inr k) = inl (omega (arith, k.0))
chain x y z a b c (inr h) (inl k) = inl (omega (arith, h.0))
chain x y z a b c (inr h) (inr k) = inr (omega (arith, h.0, k.0), omega (arith, h.1, k.1))

one_way : (x y a b : ℕ) → Before x y a b → Before y x b a → ⊥
unfolding Before
one_way x y a b (inl h) (inl k) = omega arith
one_way x y a b (inl h) (inr k) = omega (arith, k.0)
one_way x y a b (inr h) (inl k) = omega (arith, h.0)
one_way x y a b (inr h) (inr k) = omega (arith, h.1, k.1)

either_way : (x y a b : ℕ) → (a ≡ b → ⊥) → Before x y a b ⊎ Before y x b a
unfolding Before
either_way x y a b apart =
    elim (cases_order x y) [
      | inr (inl less) ↦ inr (inl less)
      | inr (inr more) ↦ inl (inl more)
      | inl same ↦ elim (cases_lt a b) [
        | inl less ↦ inl (inr (same, less))
        | inr more ↦ inr (inr (sym same, omega arith))
      ]
    ]

greater : (x y a b : ℕ) → Before x y a b → y ≤ x
unfolding Before
greater x y a b (inl h) = omega arith
greater x y a b (inr h) = omega (arith, h.0)

-- an order of cells in which of two different ones one comes before the other
pub record IsLinear (R : ℕ → ℕ → Bool) : Type 0 where
  pub chain : (a b c : ℕ) → R a b ≡ true → R b c ≡ true → R a c ≡ true
  pub other : (a b : ℕ) → R a b ≡ false → (a ≡ b → ⊥) → R b a ≡ true

other_way : (x y a b : ℕ) → (ltb y x || (eqb x y && ltb a b)) ≡ false → (a ≡ b → ⊥) → (ltb x y || (eqb y x && ltb b a)) ≡ true
other_way x y a b fail apart =
    elim (either_way x y a b apart) [
      | inl h ↦ absurd (both_ways _ fail (to_test x y a b h))
      | inr h ↦ to_test y x b a h
    ]

pub IsLinear-comes_before : (pairs : List (ℕ × ℕ)) → IsLinear (comes_before pairs)
IsLinear-comes_before pairs = record {
  chain = λ a b c h k. to_test (lower_at pairs a) (lower_at pairs c) a c
      (chain (lower_at pairs a) (lower_at pairs b) (lower_at pairs c) a b c (of_test _ _ a b h) (of_test _ _ b c k));
  other = λ a b fail apart. other_way (lower_at pairs a) (lower_at pairs b) a b fail apart;
}

-- the same order, from its end
pub IsLinear-flip : (R : ℕ → ℕ → Bool) → IsLinear R → IsLinear (λ a b. R b a)
IsLinear-flip R order = record {
  chain = λ a b c h k. order.chain c b a k h;
  other = λ a b fail apart. order.other b a fail (λ e. apart (sym e));
}

pub comes_before-one_way : (pairs : List (ℕ × ℕ)) (a b : ℕ) → comes_before pairs a b ≡ true → comes_before pairs b a ≡ true → ⊥
comes_before-one_way pairs a b h k = one_way (lower_at pairs a) (lower_at pairs b) a b (of_test _ _ a b h) (of_test _ _ b a k)

pub comes_before-itself : (pairs : List (ℕ × ℕ)) (a : ℕ) → comes_before pairs a a ≡ true → ⊥
comes_before-itself pairs a h = comes_before-one_way pairs a a h h

pub comes_before-lower : (pairs : List (ℕ × ℕ)) (a b : ℕ) → comes_before pairs a b ≡ true → lower_at pairs b ≤ lower_at pairs a
comes_before-lower pairs a b h = greater (lower_at pairs a) (lower_at pairs b) a b (of_test _ _ a b h)

no_greater : (x y a b : ℕ) → (ltb y x || (eqb x y && ltb a b)) ≡ false → x ≤ y
no_greater x y a b fail =
    elim (cases_lt y x) [
      | inr le ↦ le
      | inl more ↦ absurd (both_ways _ fail (or_left (ltb y x) (eqb x y && ltb a b) (lt-ltb y x more)))
    ]

pub comes_before-no_lower : (pairs : List (ℕ × ℕ)) (a b : ℕ) → comes_before pairs a b ≡ false → lower_at pairs a ≤ lower_at pairs b
comes_before-no_lower pairs a b fail = no_greater (lower_at pairs a) (lower_at pairs b) a b fail

pub comes_before-from : (pairs : List (ℕ × ℕ)) (a b : ℕ) →
    (lower_at pairs b < lower_at pairs a) ⊎ ((lower_at pairs a ≡ lower_at pairs b) × (a < b)) → comes_before pairs a b ≡ true
unfolding Before
comes_before-from pairs a b h = to_test (lower_at pairs a) (lower_at pairs b) a b h

-- the first of the cells below n that pass
pub record IsFirst (R : ℕ → ℕ → Bool) (p : ℕ → Bool) (n : ℕ) : Type 0 where
  pub cell : ℕ
  pub below : cell < n
  pub passes : p cell ≡ true
  pub first : (c : ℕ) → c < n → p c ≡ true → (c ≡ cell) ⊎ (R cell c ≡ true)

only : (R : ℕ → ℕ → Bool) (p : ℕ → Bool) (n : ℕ) → ((c : ℕ) → c < n → p c ≡ false) → p n ≡ true → IsFirst R p (suc n)
only R p n none pass = record {
  cell = n;
  below = omega arith;
  passes = pass;
  first = λ c less h. elim (cases_lt c n) [
    | inl below ↦ absurd (both_ways _ (none c below) h)
    | inr last ↦ inl (omega arith)
  ];
}

kept : (R : ℕ → ℕ → Bool) (p : ℕ → Bool) (n : ℕ) → (f : IsFirst R p n) → (p n ≡ true → R f.cell n ≡ true) → IsFirst R p (suc n)
kept R p n f later = record {
  cell = f.cell;
  below = omega (arith, f.below);
  passes = f.passes;
  first = λ c less h. elim (cases_lt c n) [
    | inl below ↦ f.first c below h
    | inr last ↦ let same : c ≡ n = omega arith in inr (rw same (later (rw (sym same) h)))
  ];
}

newer : (R : ℕ → ℕ → Bool) (p : ℕ → Bool) (n : ℕ) → IsLinear R → (f : IsFirst R p n) → p n ≡ true → R n f.cell ≡ true → IsFirst R p (suc n)
newer R p n order f pass earlier = record {
  cell = n;
  below = omega arith;
  passes = pass;
  first = λ c less h. elim (cases_lt c n) [
    | inl below ↦ elim (f.first c below h) [
      | inl same ↦ inr (rw same earlier)
      | inr behind ↦ inr (order.chain n f.cell c earlier behind)
    ]
    | inr last ↦ inl (omega arith)
  ];
}

-- there is one, or none passes
pub first_of : (R : ℕ → ℕ → Bool) (p : ℕ → Bool) (n : ℕ) → IsLinear R → IsFirst R p n ⊎ ((c : ℕ) → c < n → p c ≡ false)
first_of R p zero order = inr (λ c less. absurd (omega arith))
first_of R p (suc n) order =
    elim (first_of R p n order) [
      | inr none ↦ elim (cases_Bool (p n)) [
        | inl pass ↦ inl (only R p n none pass)
        | inr fail ↦ inr (λ c less. elim (cases_lt c n) [
          | inl below ↦ none c below
          | inr last ↦ let same : c ≡ n = omega arith in rw same fail
        ])
      ]
      | inl f ↦ elim (cases_Bool (p n)) [
        | inr fail ↦ inl (kept R p n f (λ pass. absurd (both_ways _ fail pass)))
        | inl pass ↦ elim (cases_Bool (R f.cell n)) [
          | inl later ↦ inl (kept R p n f (λ _. later))
          | inr sooner ↦ inl (newer R p n order f pass (order.other f.cell n sooner (λ same. absurd (omega (arith, f.below)))))
        ]
      ]
    ]
