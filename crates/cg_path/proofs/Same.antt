-- Without the event that is held the table of an element is the same, as a function.
use Rattle.std.proofs.Common.{◌≡◌, ℕ, cond, eqb, ne_eqb, eq-eqb, refl, sym, ap, ◌∙◌, arith}
use Rattle.std.proofs.lemmas.Bool.{cond-false}
use mathlib.Core.Path.{fun_ext}
use Rattle.cg_meaning.specs.Tree.{Sequence, Phase, After, Before}
use Rattle.cg_meaning.specs.Weights.{held_at}
use Rattle.cg_part.specs.Elements.{Element, Event, Group, Span, Elements, none, more, open_in}
use Rattle.cg_part.specs.Tables.{ExactTable, identity, row_table, then_table, beside, after_group, before_group, span_item, table_of, in_order, side_by_side}
use Rattle.cg_path.proofs.Times.{counted, times_in, times_among}

-- the row of another event
pub held_other : (rows : ℕ → ℕ → ℕ) (event cell number : ℕ) → counted (eqb event number) ≡ 0 →
    held_at event cell rows number ≡ rows number
held_other rows event cell number other =
    fun_ext (λ c. cond-false (eqb number event) (cond (eqb c cell) (rows number c) 0) (rows number c)
    (ne_eqb number event (λ same. let here : counted (eqb event number) ≡ 1 = ap counted (eq-eqb event number (sym same)) in
    absurd (omega (arith, here, other)))))

mutual
  -- an element without it
  pub table-same : (g : ℕ) (rows : ℕ → ℕ → ℕ) (event cell : ℕ) (e : Element) → times_in event e ≡ 0 →
      table_of g (held_at event cell rows) e ≡ table_of g rows e
  table-same g rows event cell (Event number) nowhere = ap (λ (row : ℕ → ℕ). row_table row) (held_other rows event cell number nowhere)
  table-same g rows event cell (Group Sequence es) nowhere = ordered-same g rows event cell es identity nowhere
  table-same g rows event cell (Group Phase es) nowhere = beside-same g rows event cell es identity nowhere
  table-same g rows event cell (Group After es) nowhere =
      ap (λ (t : ExactTable). after_group t) (beside-same g rows event cell es identity nowhere)
  table-same g rows event cell (Group Before es) nowhere =
      ap (λ (t : ExactTable). before_group g t) (beside-same g rows event cell es identity nowhere)
  table-same g rows event cell (Span es closing) nowhere =
      let members = in_order g (held_at event cell rows) identity es in
      ap (λ (row : ℕ → ℕ). span_item g members (open_in es) row) (held_other rows event cell closing (omega arith))
      ∙ ap (λ (t : ExactTable). span_item g t (open_in es) (rows closing)) (ordered-same g rows event cell es identity (omega arith))

  -- items of a Sequence without it
  pub ordered-same : (g : ℕ) (rows : ℕ → ℕ → ℕ) (event cell : ℕ) (es : Elements) (before : ExactTable) → times_among event es ≡ 0 →
      in_order g (held_at event cell rows) before es ≡ in_order g rows before es
  ordered-same g rows event cell none before nowhere = refl
  ordered-same g rows event cell (more e es) before nowhere =
      ap (λ (t : ExactTable). in_order g (held_at event cell rows) (then_table before t) es) (table-same g rows event cell e (omega arith))
      ∙ ordered-same g rows event cell es (then_table before (table_of g rows e)) (omega arith)

  -- members of a Phase without it
  pub beside-same : (g : ℕ) (rows : ℕ → ℕ → ℕ) (event cell : ℕ) (es : Elements) (others : ExactTable) → times_among event es ≡ 0 →
      side_by_side g (held_at event cell rows) others es ≡ side_by_side g rows others es
  beside-same g rows event cell none others nowhere = refl
  beside-same g rows event cell (more e es) others nowhere =
      ap (λ (t : ExactTable). side_by_side g (held_at event cell rows) (beside others t) es) (table-same g rows event cell e (omega arith))
      ∙ beside-same g rows event cell es (beside others (table_of g rows e)) (omega arith)
