-- Rows of zeros in a context: the rows of what precedes the items don't count there, so that an event's part keeps its bits.
use Rattle.std.proofs.Common.{◌≡◌, ℕ, zero, suc, ◌+◌, ◌-◌, ◌<◌, ◌≤◌, ◌⊎◌, inl, inr, Bool, true, false, List, ◌++◌, ext_get_or, arith, refl, sym, ap, ap₂, ◌∙◌}
use Rattle.std.specs.Prelude.{if◌then◌else◌}
use Rattle.std.proofs.lemmas.Bool.{cases_lt, lt-ltb}
use Rattle.std.proofs.lemmas.List.FromFn.{get_or-map-range_with_len, length-map-range_with_len}
use Rattle.cg_enc.specs.Enclosure.{Enclosure, exact_zero}
use Rattle.cg_enc.specs.Rounding.{plus, times}
use Rattle.cg_enc.proofs.Products.{times-zero_left, times-zero_right}
use Rattle.cg_enc.proofs.Sums.{plus-zero_left}
use Rattle.cg_table.specs.Sums.{sum_of}
use Rattle.cg_table.specs.Table.{Table, table, entry, row, rows, row_entry}
use Rattle.cg_table.specs.Live.{identity_rows_entry, identity_rows_of}
use Rattle.cg_table.specs.Formulas.{cumulated, identity_entry, identity_of, then_row_entry, then_row_of, then_entry, then_of}
use Rattle.cg_table.proofs.PlaceLemmas.{entry-table}
use Rattle.cg_context.specs.Formulas.{sum_down, sum_on, back_entry, back_of, back_row_entry, back_row_of, into_sequence_entry, into_sequence_of}
use Rattle.cg_part.specs.Elements.{Element, Event, Group, Span, Elements, none, more, has}
use Rattle.cg_recipe.specs.Recipe.{Pass, followed, table_of, preceding, preceding_all, part_in_item, part_at, part_in_order}

-- row a of a context has zeros alone
abbrev pub IsDead : ℕ → ℕ → Table → Type 0
IsDead n a x = (b : ℕ) → a ≤ b → b < n → entry x a b ≡ exact_zero

-- row a is the same in both
abbrev pub AgreeInRow : ℕ → ℕ → Table → Table → Type 0
AgreeInRow n a p q = (b : ℕ) → a ≤ b → b < n → entry p a b ≡ entry q a b

-- Two tables of what precedes, which are the same in each row that counts under a context.
pub record AgreeUnder (n : ℕ) (x p q : Table) : Type 0 where
  pub context : x.cells ≡ n
  pub left : p.cells ≡ n
  pub right : q.cells ≡ n
  pub rows : (a : ℕ) → IsDead n a x ⊎ AgreeInRow n a p q

-- equal terms, equal sums
sum-same : (f g : ℕ → Enclosure) (start n : ℕ) → ((i : ℕ) → start ≤ i → i < start + n → f i ≡ g i) → sum_of f start n ≡ sum_of g start n
sum-same f g start zero same = refl
sum-same f g start (suc n) same =
    ap₂ (λ x y. plus x y) (sum-same f g start n (λ i h l. same i h (omega arith))) (same (start + n) (omega arith) (omega arith))

-- a sum of zeros
down-zero : (f : ℕ → Enclosure) (c n : ℕ) → ((i : ℕ) → c ≤ i → i < c + n → f i ≡ exact_zero) → sum_down f c n ≡ exact_zero
down-zero f c zero each = refl
down-zero f c (suc n) each =
    ap₂ (λ x y. plus x y) (down-zero f (suc c) n (λ i h l. each i (omega arith) (omega arith))) (each c (omega arith) (omega arith))
    ∙ plus-zero_left exact_zero exact_zero refl

-- up to the youngest cell
on-zero : (cells c : ℕ) (f : ℕ → Enclosure) → ((i : ℕ) → c ≤ i → i < cells → f i ≡ exact_zero) → sum_on cells c f ≡ exact_zero
on-zero cells c f each = down-zero f c (cells - c) (λ i h l. each i h (omega arith))

-- an entry that a formula gives
at : (n : ℕ) (f : ℕ → ℕ → Enclosure) (cells a b : ℕ) → n ≡ cells → a ≤ b → b < cells → entry (table n f) a b ≡ f a b
at n f cells a b e h less = entry-table n f a b h (omega arith)

-- the same rows, the same table
row-same : (cells : ℕ) (f g : ℕ → ℕ → Enclosure) (a : ℕ) → ((b : ℕ) → a ≤ b → b < cells → f a b ≡ g a b) → row cells f a ≡ row cells g a
row-same cells f g a same =
    ext_get_or exact_zero (row cells f a) (row cells g a)
    (length-map-range_with_len (f a) a (cells - a) ∙ sym (length-map-range_with_len (g a) a (cells - a)))
    (λ i less.
    let inside : i < cells - a = omega (arith, length-map-range_with_len (f a) a (cells - a)) in
    get_or-map-range_with_len (f a) a (cells - a) i (a + i) exact_zero inside refl
    ∙ same (a + i) (omega arith) (omega arith)
    ∙ sym (get_or-map-range_with_len (g a) a (cells - a) i (a + i) exact_zero inside refl))

-- all rows before one
rows-same : (cells : ℕ) (f g : ℕ → ℕ → Enclosure) (n : ℕ) → ((a b : ℕ) → a ≤ b → b < cells → f a b ≡ g a b) → rows cells f n ≡ rows cells g n
rows-same cells f g zero same = refl
rows-same cells f g (suc n) same = ap₂ (λ (x y : List Enclosure). x ++ y) (rows-same cells f g n same) (row-same cells f g n (same n))

-- all rows
table-same : (cells : ℕ) (f g : ℕ → ℕ → Enclosure) → ((a b : ℕ) → a ≤ b → b < cells → f a b ≡ g a b) → table cells f ≡ table cells g
table-same cells f g same = ap (λ (es : List Enclosure). record { cells = cells; entries = es }) (rows-same cells f g cells same)

-- an event behind
row-alone : (n a : ℕ) (p q : Table) (w : List Enclosure) → p.cells ≡ n → q.cells ≡ n → AgreeInRow n a p q → AgreeInRow n a (then_row_of p w) (then_row_of q w)
row-alone n a p q w e e' same b h less =
    at p.cells (then_row_entry (entry p) (row_entry w)) n a b e h less
    ∙ ap (λ x. times x (row_entry w b)) (sum-same (entry p a) (entry q a) a (b - a + 1) (λ i j l. same i j (omega arith)))
    ∙ sym (at q.cells (then_row_entry (entry q) (row_entry w)) n a b e' h less)

-- a table behind
table-alone : (n a : ℕ) (p q t : Table) → p.cells ≡ n → q.cells ≡ n → AgreeInRow n a p q → AgreeInRow n a (then_of p t) (then_of q t)
table-alone n a p q t e e' same b h less =
    at p.cells (then_entry (entry p) (entry t)) n a b e h less
    ∙ sum-same (λ c. times (entry p a c) (entry t c b)) (λ c. times (entry q a c) (entry t c b)) a (b - a + 1)
    (λ i j l. ap (λ x. times x (entry t i b)) (same i j (omega arith)))
    ∙ sym (at q.cells (then_entry (entry q) (entry t)) n a b e' h less)

-- an event behind both
under-row : (n : ℕ) (x p q : Table) (w : List Enclosure) → AgreeUnder n x p q → AgreeUnder n x (then_row_of p w) (then_row_of q w)
under-row n x p q w h = record {
  context = h.context;
  left = h.left;
  right = h.right;
  rows = λ a. elim (h.rows a) [ inl dead ↦ inl dead | inr same ↦ inr (row-alone n a p q w h.left h.right same) ];
}

-- a table behind both
under-table : (n : ℕ) (x p q t : Table) → AgreeUnder n x p q → AgreeUnder n x (then_of p t) (then_of q t)
under-table n x p q t h = record {
  context = h.context;
  left = h.left;
  right = h.right;
  rows = λ a. elim (h.rows a) [ inl dead ↦ inl dead | inr same ↦ inr (table-alone n a p q t h.left h.right same) ];
}

-- an element behind both
under-followed : (pass : Pass) (n : ℕ) (x p q : Table) (e : Element) → AgreeUnder n x p q →
    AgreeUnder n x (followed pass p e (table_of pass e)) (followed pass q e (table_of pass e))
under-followed pass n x p q (Event number) h = under-row n x p q (pass.rows number) h
under-followed pass n x p q (Group kind es) h = under-table n x p q (table_of pass (Group kind es)) h
under-followed pass n x p q (Span es closing) h = under-table n x p q (table_of pass (Span es closing)) h

-- A context with at least the same dead rows.
record IsBelow (n : ℕ) (v x : Table) : Type 0 where
  pub size : v.cells ≡ n
  pub dead : (a : ℕ) → IsDead n a x → IsDead n a v

-- a context by itself
below-itself : (n : ℕ) (x : Table) → x.cells ≡ n → IsBelow n x x
below-itself n x e = record { size = e; dead = λ a h. h }

-- a product with zero
dead_term : (a b : Enclosure) → a ≡ exact_zero → times a b ≡ exact_zero
dead_term a b h = times-zero_left a b (ap (λ (x : Enclosure). x.hi) h)

-- back over a table
below-back : (n : ℕ) (v x t : Table) → IsBelow n v x → IsBelow n (back_of v t) x
below-back n v x t h = record {
  size = h.size;
  dead = λ a z c i less.
      at v.cells (back_entry v.cells (entry v) (entry t)) n a c h.size i less
      ∙ on-zero v.cells c (λ d. times (entry v a d) (entry t c d))
      (λ d j l. dead_term (entry v a d) (entry t c d) (h.dead a z d (omega arith) (omega (arith, h.size))));
}

-- back over an event
below-back_row : (n : ℕ) (v x : Table) (w : List Enclosure) → IsBelow n v x → IsBelow n (back_row_of v w) x
below-back_row n v x w h = record {
  size = h.size;
  dead = λ a z c i less.
      at v.cells (back_row_entry v.cells (entry v) (row_entry w)) n a c h.size i less
      ∙ on-zero v.cells c (λ d. times (entry v a d) (row_entry w d))
      (λ d j l. dead_term (entry v a d) (row_entry w d) (h.dead a z d (omega arith) (omega (arith, h.size))));
}

-- back over an element
below-preceding : (pass : Pass) (n : ℕ) (v x : Table) (e : Element) → IsBelow n v x → IsBelow n (preceding pass v e) x
below-preceding pass n v x (Event number) h = below-back_row n v x (pass.rows number) h
below-preceding pass n v x (Group kind es) h = below-back n v x (table_of pass (Group kind es)) h
below-preceding pass n v x (Span es closing) h = below-back n v x (table_of pass (Span es closing)) h

-- back over the last items
below-all : (pass : Pass) (n : ℕ) (x : Table) (es : Elements) → x.cells ≡ n → IsBelow n (preceding_all pass es x) x
below-all pass n x none e = below-itself n x e
below-all pass n x (more u es) e = below-preceding pass n (preceding_all pass es x) x u (below-all pass n x es e)

-- a term that the context leaves out, or one that is the same
cut-term : (p q v : Enclosure) → (v ≡ exact_zero) ⊎ (p ≡ q) → times p v ≡ times q v
cut-term p q v (inl z) = times-zero_right p v (ap (λ (x : Enclosure). x.hi) z) ∙ sym (times-zero_right q v (ap (λ (x : Enclosure). x.hi) z))
cut-term p q v (inr same) = ap (λ x. times x v) same

-- what begins at a row and reaches a cell at the latest
sums_at : (n a c : ℕ) (v p q : Table) → a ≤ c → c < n → IsDead n a v ⊎ AgreeInRow n a p q →
    (entry v a c ≡ exact_zero) ⊎ (cumulated (entry p) a c ≡ cumulated (entry q) a c)
sums_at n a c v p q h less (inl dead) = inl (dead c h less)
sums_at n a c v p q h less (inr same) = inr (sum-same (entry p a) (entry q a) a (c - a + 1) (λ i j l. same i j (omega arith)))

-- what begins at a row and reaches a cell
entries_at : (n a c d : ℕ) (v p q : Table) → a ≤ c → c ≤ d → d < n → IsDead n a v ⊎ AgreeInRow n a p q →
    (entry v a d ≡ exact_zero) ⊎ (entry p a c ≡ entry q a c)
entries_at n a c d v p q h i less (inl dead) = inl (dead d (omega arith) less)
entries_at n a c d v p q h i less (inr same) = inr (same c h (omega arith))

-- the rows of a context that is below another
below : (n a : ℕ) (v x p q : Table) → IsBelow n v x → AgreeUnder n x p q → IsDead n a v ⊎ AgreeInRow n a p q
below n a v x p q low h = elim (h.rows a) [ inl dead ↦ inl (low.dead a dead) | inr same ↦ inr same ]

-- an item with the event
item-cut : (pass : Pass) (event cell n : ℕ) (v x p q : Table) (e : Element) → cell < n → IsBelow n v x → AgreeUnder n x p q →
    part_in_item pass cell p v e (part_at pass event cell e (into_sequence_of p v)) ≡ part_in_item pass cell q v e (part_at pass event cell e (into_sequence_of q v))
item-cut pass event cell n v x p q e less low h = by_kind e
  where
    same : into_sequence_of p v ≡ into_sequence_of q v
    same =
        ap (λ k. table k (into_sequence_entry (entry p) (entry v))) h.left
        ∙ table-same n (into_sequence_entry (entry p) (entry v)) (into_sequence_entry (entry q) (entry v))
        (λ c d i inside.
        sum-same (λ a. times (entry p a c) (entry v a d)) (λ a. times (entry q a c) (entry v a d)) 0 (c + 1)
        (λ a j k. cut-term (entry p a c) (entry q a c) (entry v a d) (entries_at n a c d v p q (omega arith) i inside (below n a v x p q low h))))
        ∙ ap (λ k. table k (into_sequence_entry (entry q) (entry v))) (sym h.right)

    by_kind : (e : Element) →
        part_in_item pass cell p v e (part_at pass event cell e (into_sequence_of p v)) ≡ part_in_item pass cell q v e (part_at pass event cell e (into_sequence_of q v))
    by_kind (Event number) =
        ap (λ e. times e (row_entry (pass.rows number) cell))
        (sum-same (λ a. times (cumulated (entry p) a cell) (entry v a cell)) (λ a. times (cumulated (entry q) a cell) (entry v a cell)) 0 (cell + 1)
        (λ a i j. cut-term (cumulated (entry p) a cell) (cumulated (entry q) a cell) (entry v a cell) (sums_at n a cell v p q (omega arith) less (below n a v x p q low h))))
    by_kind (Group kind es) = ap (part_at pass event cell (Group kind es)) same
    by_kind (Span es closing) = ap (part_at pass event cell (Span es closing)) same

-- one of two
both : (b : Bool) {e f e' f' : Enclosure} → e ≡ e' → f ≡ f' → (if b then e else f) ≡ (if b then e' else f')
both true h k = h
both false h k = k

-- The rows that a context leaves out don't count.
pub cut : (pass : Pass) (event cell n : ℕ) (es : Elements) (x p q : Table) → cell < n → AgreeUnder n x p q →
    part_in_order pass event cell p es x ≡ part_in_order pass event cell q es x
cut pass event cell n none x p q less h = refl
cut pass event cell n (more e es) x p q less h =
    both (has event e) (item-cut pass event cell n (preceding_all pass es x) x p q e less (below-all pass n x es h.context) h)
    (cut pass event cell n es x _ _ less (under-followed pass n x p q e h))

-- a row of the identity, if it is there
live-row : (n a live : ℕ) (x : Table) → ((a b : ℕ) → live ≤ a → a ≤ b → b < n → entry x a b ≡ exact_zero) →
    IsDead n a x ⊎ AgreeInRow n a (identity_rows_of n live) (identity_of n)
live-row n a live x dead = elim (cases_lt a live) [
  | inl low ↦ inr (λ b h less.
      at n (identity_rows_entry live) n a b refl h less
      ∙ ap (λ (t : Bool). if t then identity_entry a b else exact_zero) (lt-ltb a live low)
      ∙ sym (at n identity_entry n a b refl h less))
  | inr high ↦ inl (λ b h less. dead a b high h less)
]

-- So items may be put onto the identity in the live rows of their context.
pub cut_identity : (pass : Pass) (event cell live : ℕ) (es : Elements) (x : Table) → cell < pass.cells → x.cells ≡ pass.cells →
    ((a b : ℕ) → live ≤ a → a ≤ b → b < pass.cells → entry x a b ≡ exact_zero) →
    part_in_order pass event cell (identity_rows_of pass.cells live) es x ≡ part_in_order pass event cell (identity_of pass.cells) es x
cut_identity pass event cell live es x less size dead =
    cut pass event cell pass.cells es x (identity_rows_of pass.cells live) (identity_of pass.cells) less
    (record { context = size; left = refl; right = refl; rows = λ a. live-row pass.cells a live x dead })
