-- Down the way to the event that is held: its entry by the contexts is the total.
use Rattle.std.proofs.Common.{◌≡◌, ℕ, ◌*◌, ◌<◌, ◌≤◌, Bool, true, false, cond, eqb, refl, sym, ap, ◌∙◌, arith}
use Rattle.std.proofs.Math.Nat.{mul_comm, mul_assoc}
use Rattle.cg_meaning.specs.Tree.{Sequence, Phase, After, Before}
use Rattle.cg_meaning.specs.Weights.{held_at}
use Rattle.cg_meaning.proofs.Sums.{sum_below-same}
use Rattle.cg_meaning.proofs.Marginals.{sum_below-pick}
use Rattle.cg_meaning.proofs.Pin.{times-cond}
use Rattle.cg_part.specs.Elements.{Element, Event, Group, Span, Elements, none, more, element_of, open_in}
use Rattle.cg_part.specs.Tables.{ExactTable, sum_from, identity, then_table, beside, spanned, span_item, rows_of, table_of, in_order, side_by_side}
use Rattle.cg_part.proofs.Ranges.{sum_from-same}
use Rattle.cg_part.proofs.Totals.{pinned}
use Rattle.cg_path.specs.Contexts.{ExactContext, pair, dot, root, into_phase, into_after, into_before, into_sequence, into_span, at_leaf, at_end}
use Rattle.cg_path.specs.Path.{weighed, preceding_all, entry_at, entry_in_order, entry_beside}
use Rattle.cg_path.specs.Laws.{EntriesAreHeldTotals, EntriesAreTotals}
use Rattle.cg_path.proofs.Triangles.{eqb_comm}
use Rattle.cg_path.proofs.Calls.{root-law, phase-law, after-law, before-law, back-law, sequence-law, span-law, leaf-law, end-law}
use Rattle.cg_path.proofs.Order.{apart}
use Rattle.cg_path.proofs.Times.{counted, times_in, times_among, by_having, once}
use Rattle.cg_path.proofs.Same.{held_other, table-same, ordered-same, beside-same}

-- equal entries, equal pairs
pub pair-same : (g : ℕ) (x s t : ExactTable) → ((a b : ℕ) → a ≤ b → b < g → s a b ≡ t a b) → pair g x s ≡ pair g x t
pair-same g x s t same =
    sum_below-same g (λ b. sum_from 0 b (λ a. x a b * s a b)) (λ b. sum_from 0 b (λ a. x a b * t a b))
    (λ b h. sum_from-same 0 b (λ a. x a b * s a b) (λ a. x a b * t a b) (λ a i j. ap (λ y. x a b * y) (same a b j h)))

-- into a span, with the row of the Boundary that closes it
pub item-law : (g : ℕ) (x : ExactContext) (m : ExactTable) (opened : ℕ) (row : ℕ → ℕ) →
    pair g x (span_item g m opened row) ≡ pair g (into_span g (weighed x row) opened) m
item-law g x m opened row =
    sum_below-same g (λ b. sum_from 0 b (λ a. x a b * span_item g m opened row a b))
    (λ b. sum_from 0 b (λ a. weighed x row a b * spanned g m opened a b))
    (λ b h. sum_from-same 0 b (λ a. x a b * span_item g m opened row a b) (λ a. weighed x row a b * spanned g m opened a b)
    (λ a i j. ap (λ y. x a b * y) (mul_comm (spanned g m opened a b) (row b)) ∙ sym (mul_assoc (x a b) (row b) (spanned g m opened a b))))
    ∙ span-law g (weighed x row) m opened

-- back over the last items of a Sequence
pub ordered-law : (g : ℕ) (rows : ℕ → ℕ → ℕ) (es : Elements) (before : ExactTable) (x : ExactContext) →
    pair g x (in_order g rows before es) ≡ pair g (preceding_all g rows es x) before
ordered-law g rows none before x = refl
ordered-law g rows (more e es) before x =
    ordered-law g rows es (then_table before (table_of g rows e)) x
    ∙ back-law g (preceding_all g rows es x) before (table_of g rows e)

-- by whether two numbers are the same
by_number : (event number : ℕ) (u y z : ℕ) → (counted (eqb event number) ≡ 1 → eqb event number ≡ true → u ≡ y) →
    (counted (eqb event number) ≡ 0 → u ≡ z) → u ≡ cond (eqb event number) y z
by_number event number u y z here other = go (eqb event number) here other
  where
    go : (t : Bool) → (counted t ≡ 1 → t ≡ true → u ≡ y) → (counted t ≡ 0 → u ≡ z) → u ≡ cond t y z
    go true here other = here refl refl
    go false here other = other refl

-- a weight that is held
held_weight : (rows : ℕ → ℕ → ℕ) (event cell number c : ℕ) → eqb event number ≡ true →
    held_at event cell rows number c ≡ cond (eqb c cell) (rows number c) 0
held_weight rows event cell number c here = rw (eqb_comm number event ∙ here) refl

-- the row of the event that is held
held_dot : (g : ℕ) (rows : ℕ → ℕ → ℕ) (event cell number : ℕ) (r : ℕ → ℕ) → cell < g → eqb event number ≡ true →
    dot g r (held_at event cell rows number) ≡ r cell * rows number cell
held_dot g rows event cell number r on_grid here =
    sum_below-same g (λ y. r y * held_at event cell rows number y) (λ y. cond (eqb cell y) (r y * rows number y) 0)
    (λ y l. ap (λ z. r y * z) (held_weight rows event cell number y here ∙ ap (λ t. cond t (rows number y) 0) (eqb_comm y cell))
    ∙ times-cond (eqb cell y) (r y) (rows number y))
    ∙ sum_below-pick g cell (λ y. r y * rows number y) on_grid

-- the span that is closed by the event that is held
held_item : (g : ℕ) (rows : ℕ → ℕ → ℕ) (event cell closing : ℕ) (x : ExactContext) (m : ExactTable) (opened : ℕ) → cell < g →
    eqb event closing ≡ true →
    pair g x (span_item g m opened (held_at event cell rows closing)) ≡ at_end x (span_item g m opened (rows closing)) cell
held_item g rows event cell closing x m opened on_grid here =
    let item = span_item g m opened (rows closing) in
    pair-same g x (span_item g m opened (held_at event cell rows closing)) (λ a b. cond (eqb b cell) (item a b) 0)
    (λ a b i j. ap (λ y. spanned g m opened a b * y) (held_weight rows event cell closing b here)
    ∙ times-cond (eqb b cell) (spanned g m opened a b) (rows closing b))
    ∙ end-law g x item cell on_grid

-- a test that is counted holds
by_one : (t : Bool) → counted t ≡ 1 → t ≡ true
by_one true one = refl
by_one false one = absurd (omega arith)

mutual
  -- An element with the event.
  pub down : (g : ℕ) (rows : ℕ → ℕ → ℕ) (event cell : ℕ) (e : Element) (x : ExactContext) → cell < g → times_in event e ≡ 1 →
      pair g x (table_of g (held_at event cell rows) e) ≡ entry_at g rows event cell e x
  down g rows event cell (Event number) x on_grid one =
      leaf-law g x (held_at event cell rows number) ∙ held_dot g rows event cell number (at_leaf x) on_grid (by_one (eqb event number) one)
  down g rows event cell (Group Sequence es) x on_grid one = ordered_down g rows event cell es identity x on_grid one
  down g rows event cell (Group Phase es) x on_grid one = beside_down g rows event cell es identity x on_grid one
  down g rows event cell (Group After es) x on_grid one =
      after-law g x (side_by_side g (held_at event cell rows) identity es)
      ∙ beside_down g rows event cell es identity (into_after g x) on_grid one
  down g rows event cell (Group Before es) x on_grid one =
      before-law g x (side_by_side g (held_at event cell rows) identity es)
      ∙ beside_down g rows event cell es identity (into_before x) on_grid one
  down g rows event cell (Span es closing) x on_grid one =
      let held = held_at event cell rows in
      let members = in_order g held identity es in
      by_number event closing (pair g x (table_of g held (Span es closing)))
      (at_end x (table_of g rows (Span es closing)) cell)
      (entry_in_order g rows event cell identity es (into_span g (weighed x (rows closing)) (open_in es)))
      (λ once here.
      ap (λ (t : ExactTable). pair g x (span_item g t (open_in es) (held closing))) (ordered-same g rows event cell es identity (omega arith))
      ∙ held_item g rows event cell closing x (in_order g rows identity es) (open_in es) on_grid here)
      (λ other.
      ap (λ (row : ℕ → ℕ). pair g x (span_item g members (open_in es) row)) (held_other rows event cell closing other)
      ∙ item-law g x members (open_in es) (rows closing)
      ∙ ordered_down g rows event cell es identity (into_span g (weighed x (rows closing)) (open_in es)) on_grid (omega arith))

  -- items of a Sequence
  ordered_down : (g : ℕ) (rows : ℕ → ℕ → ℕ) (event cell : ℕ) (es : Elements) (before : ExactTable) (x : ExactContext) → cell < g →
      times_among event es ≡ 1 →
      pair g x (in_order g (held_at event cell rows) before es) ≡ entry_in_order g rows event cell before es x
  ordered_down g rows event cell none before x on_grid one = absurd (omega arith)
  ordered_down g rows event cell (more e es) before x on_grid one =
      let held = held_at event cell rows in
      let mine = table_of g held e in
      let later = preceding_all g rows es x in
      by_having event e (pair g x (in_order g held (then_table before mine) es))
      (entry_at g rows event cell e (into_sequence before later))
      (entry_in_order g rows event cell (then_table before (table_of g rows e)) es x)
      (λ inside.
      ap (λ (t : ExactTable). pair g x t) (ordered-same g rows event cell es (then_table before mine) (omega arith))
      ∙ ordered-law g rows es (then_table before mine) x
      ∙ sequence-law g later before mine
      ∙ down g rows event cell e (into_sequence before later) on_grid (omega arith))
      (λ nowhere.
      ap (λ (t : ExactTable). pair g x (in_order g held (then_table before t) es)) (table-same g rows event cell e nowhere)
      ∙ ordered_down g rows event cell es (then_table before (table_of g rows e)) x on_grid (omega arith))

  -- members of a Phase
  beside_down : (g : ℕ) (rows : ℕ → ℕ → ℕ) (event cell : ℕ) (es : Elements) (others : ExactTable) (x : ExactContext) → cell < g →
      times_among event es ≡ 1 →
      pair g x (side_by_side g (held_at event cell rows) others es) ≡ entry_beside g rows event cell others es x
  beside_down g rows event cell none others x on_grid one = absurd (omega arith)
  beside_down g rows event cell (more e es) others x on_grid one =
      let held = held_at event cell rows in
      let mine = table_of g held e in
      let all_others = side_by_side g rows others es in
      by_having event e (pair g x (side_by_side g held (beside others mine) es))
      (entry_at g rows event cell e (into_phase g x all_others))
      (entry_beside g rows event cell (beside others (table_of g rows e)) es x)
      (λ inside.
      ap (λ (t : ExactTable). pair g x t) (beside-same g rows event cell es (beside others mine) (omega arith))
      ∙ pair-same g x (side_by_side g rows (beside others mine) es) (beside all_others mine)
      (λ a b i j. apart g rows others mine es a b i)
      ∙ phase-law g x all_others mine
      ∙ down g rows event cell e (into_phase g x all_others) on_grid (omega arith))
      (λ nowhere.
      ap (λ (t : ExactTable). pair g x (side_by_side g held (beside others t) es)) (table-same g rows event cell e nowhere)
      ∙ beside_down g rows event cell es (beside others (table_of g rows e)) x on_grid (omega arith))

-- From the root down.
pub held_totals : EntriesAreHeldTotals
held_totals g rows tree event cell h on_grid =
    sym (root-law g (table_of g (held_at event cell rows) (element_of 0 tree))
    ∙ down g rows event cell (element_of 0 tree) root on_grid (once event tree h))

-- And so the sums of the weights.
pub totals : EntriesAreTotals
totals scene w tree event cell h on_grid =
    held_totals scene.grid.cells (rows_of scene w tree) tree event cell h on_grid ∙ pinned scene w tree event cell h (omega arith)
