-- Each call of a context gives the coefficients of what it leads to.
use Rattle.std.proofs.Common.{◌≡◌, ℕ, zero, suc, ◌+◌, ◌-◌, ◌*◌, ◌<◌, ◌≤◌, cond, inl, inr, refl, sym, ap, ap₂, ◌∙◌, arith, Bool, true, false, ◌^◌, Some, leb, eqb, ne_eqb, eq-eqb, one-mul, zero-mul}
use Rattle.std.specs.Prelude.{if◌then◌else◌}
use Rattle.std.proofs.lemmas.Bool.{cases_lt, cond-false, cond-true}
use Rattle.std.proofs.Math.Nat.{mul_comm, mul_assoc, add-mul}
use Rattle.cg_meaning.specs.Sums.{sum_below}
use Rattle.cg_meaning.specs.Pairs.{span_weight}
use Rattle.cg_meaning.proofs.Sums.{sum_below-same, sum_below-add}
use Rattle.cg_meaning.proofs.Marginals.{sum_below-pick}
use Rattle.cg_meaning.proofs.Pin.{times-cond}
use Rattle.cg_part.specs.Tables.{ExactTable, sum_from, cumulated, row_table, then_table, beside, after_group, before_group, spanned, table_total}
use Rattle.cg_part.proofs.Ranges.{by_order, sum_from-same, sum_from-one, sum_from-last, sum_from-nest, sum_from-scale_right}
use Rattle.cg_path.specs.Contexts.{ExactContext, sum_on, pair, dot, root, into_phase, into_after, into_before, back, into_sequence, at_member, into_span, at_leaf, at_end}
use Rattle.cg_path.specs.Laws.{CallsGiveCoefficients}
use Rattle.cg_path.proofs.Triangles.{by_rows, first_row, column-last, sum_below-scale_right, sum_on-all, sum_on-scale, eqb_comm, turned, turned_row, turned_sum, beside_row}

-- a coefficient that is 0 but in the oldest row
not_oldest : (a x t : ℕ) → 0 < a → (if eqb a 0 then x else 0) * t ≡ 0
not_oldest a x t h = ap (λ y. y * t) (cond-false (eqb a 0) x 0 (ne_eqb a 0 (λ same. absurd (omega arith)))) ∙ zero-mul t

-- at the root
pub root-law : (n : ℕ) (t : ExactTable) → table_total n t ≡ pair n root t
root-law n t =
    sum_below-same n (λ b. t 0 b) (λ b. root 0 b * t 0 b) (λ b h. sym (one-mul (t 0 b)))
    ∙ sym (first_row n (λ a b. root a b * t a b) (λ a b h. not_oldest a 1 (t a b) h))

-- at an event
pub leaf-law : (n : ℕ) (x : ExactContext) (row : ℕ → ℕ) → pair n x (row_table row) ≡ dot n (at_leaf x) row
leaf-law n x row =
    sum_below-same n (λ b. sum_from 0 b (λ a. x a b * row b)) (λ b. sum_from 0 b (λ a. x a b) * row b)
    (λ b h. sum_from-scale_right 0 b (row b) (λ a. x a b))

-- a column that counts or does not
end_column : (y b : ℕ) (f g : ℕ → ℕ) →
    sum_from 0 b (λ a. f a * cond (eqb b y) (g a) 0) ≡ cond (eqb y b) (sum_from 0 b (λ a. f a * g a)) 0
end_column y b f g = rw (eqb_comm b y) (go (eqb y b))
  where
    go : (t : Bool) → sum_from 0 b (λ a. f a * cond t (g a) 0) ≡ cond t (sum_from 0 b (λ a. f a * g a)) 0
    go true = refl
    go false = sum_from-same 0 b (λ a. f a * 0) (λ a. 0 * 0) (λ a h k. omega arith) ∙ sum_from-scale_right 0 b 0 (λ a. 0) ∙ omega arith

-- at the Boundary that closes a span
pub end-law : (n : ℕ) (x : ExactContext) (k : ExactTable) (y : ℕ) → y < n → pair n x (λ a b. cond (eqb b y) (k a b) 0) ≡ at_end x k y
end-law n x k y h =
    sum_below-same n (λ b. sum_from 0 b (λ a. x a b * cond (eqb b y) (k a b) 0)) (λ b. cond (eqb y b) (at_end x k b) 0)
    (λ b l. end_column y b (λ a. x a b) (λ a. k a b))
    ∙ sum_below-pick n y (λ b. at_end x k b) h

-- back over an item
pub back-law : (n : ℕ) (v : ExactContext) (p t : ExactTable) → pair n v (then_table p t) ≡ pair n (back n v t) p
back-law n v p t =
    by_rows n (λ a b. v a b * then_table p t a b)
    ∙ sum_below-same n (λ a. sum_on n a (λ b. v a b * then_table p t a b)) (λ a. sum_on n a (λ c. back n v t a c * p a c))
    (λ a h. turned n a (λ b. v a b) (λ c. p a c) t)
    ∙ sym (by_rows n (λ a c. back n v t a c * p a c))

-- into a span
pub span-law : (n : ℕ) (x : ExactContext) (m : ExactTable) (opened : ℕ) → pair n x (spanned n m opened) ≡ pair n (into_span n x opened) m
span-law n x m opened =
    by_rows n (λ a b. x a b * spanned n m opened a b)
    ∙ sum_below-same n (λ a. sum_on n a (λ b. x a b * spanned n m opened a b)) (λ a. sum_on n a (λ c. into_span n x opened a c * m a c))
    (λ a h. turned_row n a (λ b. x a b) (λ c. m a c) (λ b. span_weight n (Some (a, b)) ^ opened))
    ∙ sym (by_rows n (λ a c. into_span n x opened a c * m a c))

-- into an item
pub sequence-law : (n : ℕ) (v : ExactContext) (p t : ExactTable) → pair n v (then_table p t) ≡ pair n (into_sequence p v) t
sequence-law n v p t =
    sum_below-same n (λ b. sum_from 0 b (λ a. v a b * then_table p t a b)) (λ b. sum_from 0 b (λ c. into_sequence p v c b * t c b))
    (λ b h. sym (sum_from-nest 0 b (λ a. v a b) (λ a c. p a c) (λ c. t c b))
    ∙ sum_from-same 0 b (λ c. sum_from 0 c (λ a. v a b * p a c) * t c b) (λ c. into_sequence p v c b * t c b)
    (λ c i j. ap (λ y. y * t c b) (sum_from-same 0 c (λ a. v a b * p a c) (λ a. p a c * v a b) (λ a k l. mul_comm (v a b) (p a c)))))

-- one factor of each term
at_column : (v p : ℕ → ℕ → ℕ) (r a b : ℕ) → v a b * sum_from a b (λ c. p a c * r) ≡ cumulated p a b * v a b * r
at_column v p r a b =
    ap (λ y. v a b * y) (sum_from-scale_right a b r (λ c. p a c))
    ∙ sym (mul_assoc (v a b) (cumulated p a b) r)
    ∙ ap (λ y. y * r) (mul_comm (v a b) (cumulated p a b))

-- at an event that is an item
pub member-law : (n : ℕ) (v : ExactContext) (p : ExactTable) (row : ℕ → ℕ) → pair n v (then_table p (row_table row)) ≡ dot n (at_member p v) row
member-law n v p row =
    sum_below-same n (λ b. sum_from 0 b (λ a. v a b * then_table p (row_table row) a b)) (λ b. at_member p v b * row b)
    (λ b h. sum_from-same 0 b (λ a. v a b * then_table p (row_table row) a b) (λ a. cumulated p a b * v a b * row b)
    (λ a i j. at_column v p (row b) a b)
    ∙ sum_from-scale_right 0 b (row b) (λ a. cumulated p a b * v a b))

-- side by side at one cell
beside_same : (q t : ExactTable) (a : ℕ) → beside q t a a + q a a * t a a ≡ cumulated q a a * t a a + q a a * cumulated t a a
beside_same q t a =
    ap (λ y. y + q a a * t a a)
    (cond-true (eqb a a) (q a a * cumulated t a a) (cumulated q a (a - 1) * t a a + q a a * cumulated t a a) (eq-eqb a a refl))
    ∙ ap (λ y. q a a * cumulated t a a + y * t a a) (sym (sum_from-one a (λ c. q a c)))
    ∙ omega arith

-- at a later one
beside_later : (q t : ExactTable) (a c : ℕ) → a ≤ c →
    beside q t a (suc c) + q a (suc c) * t a (suc c) ≡ cumulated q a (suc c) * t a (suc c) + q a (suc c) * cumulated t a (suc c)
beside_later q t a c h =
    let b = suc c in
    let here : beside q t a b ≡ cumulated q a c * t a b + q a b * cumulated t a b =
    cond-false (eqb a b) (q a b * cumulated t a b) (cumulated q a (b - 1) * t a b + q a b * cumulated t a b)
    (ne_eqb a b (λ same. absurd (omega arith)))
    ∙ ap (λ i. cumulated q a i * t a b + q a b * cumulated t a b) (omega arith) in
    let sums : cumulated q a b ≡ cumulated q a c + q a b = sum_from-last a c (λ d. q a d) (omega arith) in
    let products : cumulated q a b * t a b ≡ cumulated q a c * t a b + q a b * t a b =
    ap (λ y. y * t a b) sums ∙ add-mul (cumulated q a c) (q a b) (t a b) in
    ap (λ y. y + q a b * t a b) here ∙ omega (arith, products)

-- at each
beside_at : (q t : ExactTable) (a b : ℕ) → a ≤ b → beside q t a b + q a b * t a b ≡ cumulated q a b * t a b + q a b * cumulated t a b
beside_at q t a zero h = let e : a ≡ 0 = omega arith in rw e (beside_same q t 0)
beside_at q t a (suc c) h =
    elim (cases_lt a (suc c)) as (λ w. beside q t a (suc c) + q a (suc c) * t a (suc c)
    ≡ cumulated q a (suc c) * t a (suc c) + q a (suc c) * cumulated t a (suc c)) [
      | inl l ↦ beside_later q t a c (omega arith)
      | inr l ↦ let e : a ≡ suc c = omega arith in rw e (beside_same q t (suc c))
    ]

-- into a member of a Phase
pub phase-law : (n : ℕ) (x : ExactContext) (q t : ExactTable) → pair n x (beside q t) ≡ pair n (into_phase n x q) t
phase-law n x q t =
    by_rows n (λ a b. x a b * beside q t a b)
    ∙ sum_below-same n (λ a. sum_on n a (λ b. x a b * beside q t a b)) (λ a. sum_on n a (λ d. into_phase n x q a d * t a d))
    (λ a h. beside_row n a (λ b. x a b) (λ b. q a b) (λ b. t a b) (λ b. beside q t a b) (λ b l. beside_at q t a b l))
    ∙ sym (by_rows n (λ a d. into_phase n x q a d * t a d))

-- a column under an After group
after_column : (x : ExactContext) (t : ExactTable) (b : ℕ) →
    sum_from 0 b (λ a. x a b * after_group t a b) ≡ sum_below b (λ a. x a b) * t 0 b + x b b * sum_from 0 b (λ c. t 0 c)
after_column x t b =
    column-last b (λ a. x a b * after_group t a b)
    ∙ ap₂ (λ y z. y + x b b * z)
    (sum_below-same b (λ a. x a b * after_group t a b) (λ a. x a b * t 0 b)
    (λ a h. ap (λ y. x a b * y) (cond-false (eqb a b) (sum_from 0 a (λ c. t 0 c)) (t 0 b) (ne_eqb a b (λ same. absurd (omega arith)))))
    ∙ sum_below-scale_right b (t 0 b) (λ a. x a b))
    (cond-true (eqb b b) (sum_from 0 b (λ c. t 0 c)) (t 0 b) (eq-eqb b b refl))

-- into an After group
pub after-law : (n : ℕ) (x : ExactContext) (t : ExactTable) → pair n x (after_group t) ≡ pair n (into_after n x) t
after-law n x t =
    let early : ℕ → ℕ = λ b. sum_below b (λ a. x a b) in
    let own : ℕ → ℕ = λ c. sum_on n c (λ d. x d d) in
    sum_below-same n (λ b. sum_from 0 b (λ a. x a b * after_group t a b)) (λ b. early b * t 0 b + x b b * sum_from 0 b (λ c. t 0 c))
    (λ b h. after_column x t b)
    ∙ sum_below-add n (λ b. early b * t 0 b) (λ b. x b b * sum_from 0 b (λ c. t 0 c))
    ∙ ap (λ y. sum_below n (λ b. early b * t 0 b) + y)
    (sym (sum_on-all n (λ b. x b b * sum_from 0 b (λ c. t 0 c)))
    ∙ turned_sum n 0 (λ b. x b b) (λ c. t 0 c)
    ∙ sum_on-all n (λ c. own c * t 0 c))
    ∙ sym (sum_below-add n (λ b. early b * t 0 b) (λ c. own c * t 0 c))
    ∙ sum_below-same n (λ b. early b * t 0 b + own b * t 0 b) (λ b. into_after n x 0 b * t 0 b)
    (λ b h. sym (add-mul (early b) (own b) (t 0 b)))
    ∙ sym (first_row n (λ a b. into_after n x a b * t a b) (λ a b h. not_oldest a (sum_below b (λ d. x d b) + sum_on n b (λ d. x d d)) (t a b) h))

-- a row under a Before group
before_row : (n a s : ℕ) (f : ℕ → ℕ) → a < n → sum_on n a (λ b. f b * cond (eqb a b) s 0) ≡ f a * s
before_row n a s f h =
    sum_below-same n (λ b. cond (leb a b) (f b * cond (eqb a b) s 0) 0) (λ b. cond (eqb a b) (f b * s) 0)
    (λ b l. by_order a b (f b * cond (eqb a b) s 0) (cond (eqb a b) (f b * s) 0)
    (λ k. times-cond (eqb a b) (f b) s)
    (λ k. sym (cond-false (eqb a b) (f b * s) 0 (ne_eqb a b (λ same. absurd (omega arith))))))
    ∙ sum_below-pick n a (λ b. f b * s) h

-- up to the youngest cell
to_youngest : (n a : ℕ) (f : ℕ → ℕ) → 0 < n → sum_from a (n - 1) f ≡ sum_on n a f
to_youngest n a f h = let e : suc (n - 1) ≡ n = omega arith in ap (λ k. sum_below k (λ d. cond (leb a d) (f d) 0)) e

-- into a Before group
pub before-law : (n : ℕ) (x : ExactContext) (t : ExactTable) → pair n x (before_group n t) ≡ pair n (into_before x) t
before-law n x t =
    by_rows n (λ a b. x a b * before_group n t a b)
    ∙ sum_below-same n (λ a. sum_on n a (λ b. x a b * before_group n t a b)) (λ a. sum_on n a (λ b. x a a * t a b))
    (λ a h. before_row n a (sum_from a (n - 1) (λ c. t a c)) (λ b. x a b) h
    ∙ ap (λ y. x a a * y) (to_youngest n a (λ c. t a c) (omega arith))
    ∙ sym (sum_on-scale n a (x a a) (λ b. t a b)))
    ∙ sym (by_rows n (λ a b. into_before x a b * t a b))

-- All of them.
pub calls : CallsGiveCoefficients
calls n x = record {
  whole = root-law n;
  phase = phase-law n x;
  after = after-law n x;
  before = before-law n x;
  preceding = back-law n x;
  preceding_row = λ p row. back-law n x p (row_table row);
  sequence = sequence-law n x;
  member = member-law n x;
  span = span-law n x;
  leaf = leaf-law n x;
  end = end-law n x;
}
