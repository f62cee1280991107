-- Down the way to an event: its parts enclose the sums over the datings with it at each cell.
use Rattle.std.proofs.Common.{◌≡◌, ℕ, ◌*◌, ◌^◌, ◌<◌, Bool, true, false, eqb, arith, refl, sym, ap, ◌∙◌, subst, Some, mul-one}
use Rattle.std.specs.Prelude.{if◌then◌else◌}
use Rattle.cg_enc.specs.Enclosure.{Enclosure, exact_zero, Encloses}
use Rattle.cg_enc.proofs.WholeNumbers.{zero-IsEnclosure, zero-encloses}
use Rattle.cg_table.specs.Table.{Table}
use Rattle.cg_context.specs.Formulas.{into_sequence_of, into_span_of, root_context}
use Rattle.cg_meaning.specs.Tree.{Sequence, Phase, After, Before}
use Rattle.cg_meaning.specs.Pairs.{span_weight}
use Rattle.cg_meaning.specs.Posterior.{total_at}
use Rattle.cg_part.specs.Elements.{Element, Event, Group, Span, Elements, none, more, element_of, open_in, has}
use Rattle.cg_part.specs.Tables as part
use Rattle.cg_part.specs.Tables.{sum_from, rows_of}
use Rattle.cg_part.proofs.Ranges.{sum_from-same, sum_from-swap, sum_from-scale_right}
use Rattle.cg_part.proofs.Rows.{tree_rows}
use Rattle.cg_path.specs.Contexts as exact
use Rattle.cg_path.specs.Path as down
use Rattle.cg_path.proofs.Triangles.{sum_on-same}
use Rattle.cg_path.proofs.Down.{totals}
use Rattle.cg_recipe.specs.Recipe.{table_of, preceding, preceding_all, part_in_item, part_at, part_in_order, part_beside}
use Rattle.cg_recipe.specs.Enclosed.{EncloseSums, pass_of, PartsEncloseTotals}
use Rattle.cg_recipe.proofs.StepLemmas.{IsMade, identity-made, beside-made, made-same}
use Rattle.cg_recipe.proofs.ElementLemmas.{Given, pass, IsClosed, AreEnclosed, AreAllEnclosed, followed-made, element-made, side_by_side-made}
use Rattle.cg_recipe.proofs.TreeLemmas.{given, tree-enclosed}
use Rattle.cg_recipe.proofs.ContextLemmas.{root-made, into_phase-made, into_after-made, into_before-made, back-made, back_row-made, into_sequence-made, into_span-made, leaf-entries, member-entries, end-entries}

-- A table or context encloses an exact one over some divisor.
pub record IsOver (n : ℕ) (t : Table) (x : part.ExactTable) : Type 0 where
  pub d : ℕ
  pub made : IsMade n t x d

-- what is made is made over a divisor
pub over : {n : ℕ} {t : Table} {x : part.ExactTable} {d : ℕ} → IsMade n t x d → IsOver n t x
over {d = d} h = record { d = d; made = h }

-- no events
none-entries : (n : ℕ) → EncloseSums n (λ c. exact_zero) (λ c. 0)
none-entries n = record { divisor = 1; some = omega arith; valid = λ c h. zero-IsEnclosure; each = λ c h. zero-encloses 0 1 refl }

-- one of two
pick : (b : Bool) (n : ℕ) (e f : ℕ → Enclosure) (x y : ℕ → ℕ) → EncloseSums n e x → EncloseSums n f y →
    EncloseSums n (λ c. if b then e c else f c) (λ c. if b then x c else y c)
pick true n e f x y h k = h
pick false n e f x y h k = k

-- the same sums
entries-same : (n : ℕ) (e : ℕ → Enclosure) (x y : ℕ → ℕ) → ((c : ℕ) → c < n → x c ≡ y c) → EncloseSums n e x → EncloseSums n e y
entries-same n e x y same h = record {
  divisor = h.divisor;
  some = h.some;
  valid = h.valid;
  each = λ c less. subst (λ (k : ℕ). Encloses (e c) k h.divisor) (same c less) (h.each c less);
}

-- an event that is an item, by its own context
member-leaf : (p v : part.ExactTable) (y : ℕ) → exact.at_member p v y ≡ exact.at_leaf (exact.into_sequence p v) y
member-leaf p v y =
    sym (sum_from-swap 0 y (λ a c. p a c * v a y)
    ∙ sum_from-same 0 y (λ a. sum_from a y (λ c. p a c * v a y)) (λ a. part.cumulated p a y * v a y)
    (λ a i j. sum_from-scale_right a y (v a y) (λ c. p a c)))

-- the table of an element
table-over : (g : Given) (e : Element) → AreEnclosed g e → IsOver g.cells (table_of (pass g) e) (part.table_of g.cells g.weights e)
table-over g e h = over (element-made g e h)

-- the context of what precedes an element
preceding-over : (g : Given) (e : Element) → AreEnclosed g e → {v : Table} {V : part.ExactTable} → IsOver g.cells v V →
    IsOver g.cells (preceding (pass g) v e) (exact.back g.cells V (part.table_of g.cells g.weights e))
preceding-over g (Event number) h k = over (back_row-made k.made h)
preceding-over g (Group kind es) h k = over (back-made k.made (element-made g (Group kind es) h))
preceding-over g (Span es closing) h k = over (back-made k.made (element-made g (Span es closing) h))

-- that of what precedes the last items of a Sequence
pub preceding_all-over : (g : Given) (es : Elements) → AreAllEnclosed g es → {x : Table} {X : part.ExactTable} → IsOver g.cells x X →
    IsOver g.cells (preceding_all (pass g) es x) (down.preceding_all g.cells g.weights es X)
preceding_all-over g none h k = k
preceding_all-over g (more e es) h k = preceding-over g e h.0 (preceding_all-over g es h.1 k)

-- a Boundary that closes a span adds nothing to the context of what stands in it
closed-over : (g : Given) (closing opened : ℕ) → IsClosed g closing → {x : Table} {X : part.ExactTable} → IsOver g.cells x X →
    IsOver g.cells (into_span_of x opened) (exact.into_span g.cells (down.weighed X (g.weights closing)) opened)
closed-over g closing opened closed {x = x} {X = X} k =
    over (made-same g.cells (into_span_of x opened) (exact.into_span g.cells X opened)
    (exact.into_span g.cells (down.weighed X (g.weights closing)) opened) _
    (λ a c le less. sum_on-same g.cells c (λ b. X a b * span_weight g.cells (Some (a, b)) ^ opened)
    (λ b. X a b * g.weights closing b * span_weight g.cells (Some (a, b)) ^ opened)
    (λ b i j. ap (λ y. y * span_weight g.cells (Some (a, b)) ^ opened) (sym (ap (λ y. X a b * y) (closed b j) ∙ mul-one (X a b)))))
    (into_span-made opened g.few k.made))

-- an item with the event: by itself, or an event in it
item-entries : (g : Given) (event : ℕ) (e : Element) → AreEnclosed g e → {s : Table} {S : part.ExactTable} → IsOver g.cells s S →
    {v : Table} {V : part.ExactTable} → IsOver g.cells v V →
    EncloseSums g.cells (λ c. part_at (pass g) event c e (into_sequence_of s v)) (λ c. down.entry_at g.cells g.weights event c e (exact.into_sequence S V)) →
    EncloseSums g.cells (λ c. part_in_item (pass g) c s v e (part_at (pass g) event c e (into_sequence_of s v)))
    (λ c. down.entry_at g.cells g.weights event c e (exact.into_sequence S V))
item-entries g event (Event number) h {S = S} before {V = V} k own =
    entries-same g.cells _ (λ c. exact.at_member S V c * g.weights number c) (λ c. exact.at_leaf (exact.into_sequence S V) c * g.weights number c)
    (λ c less. ap (λ y. y * g.weights number c) (member-leaf S V c)) (member-entries before.made k.made h)
item-entries g event (Group kind es) h before k own = own
item-entries g event (Span es closing) h before k own = own

mutual
  -- An element, by any context of it.
  pub element-entries : (g : Given) (event : ℕ) (e : Element) → AreEnclosed g e → {x : Table} {X : part.ExactTable} → IsOver g.cells x X →
      EncloseSums g.cells (λ c. part_at (pass g) event c e x) (λ c. down.entry_at g.cells g.weights event c e X)
  element-entries g event (Event number) h k = leaf-entries k.made h
  element-entries g event (Group Sequence es) h k = order-entries g event es h (over (identity-made g.cells)) k
  element-entries g event (Group Phase es) h k = beside-entries g event es h (over (identity-made g.cells)) k
  element-entries g event (Group After es) h k = beside-entries g event es h (over (identity-made g.cells)) (over (into_after-made k.made))
  element-entries g event (Group Before es) h k = beside-entries g event es h (over (identity-made g.cells)) (over (into_before-made k.made))
  element-entries g event (Span es closing) h k =
      pick (eqb event closing) g.cells _ _ _ _ (end-entries k.made (element-made g (Span es closing) h))
      (order-entries g event es h.0 (over (identity-made g.cells)) (closed-over g closing (open_in es) h.1 k))

  -- among items of a Sequence
  order-entries : (g : Given) (event : ℕ) (es : Elements) → AreAllEnclosed g es → {s : Table} {S : part.ExactTable} → IsOver g.cells s S →
      {x : Table} {X : part.ExactTable} → IsOver g.cells x X →
      EncloseSums g.cells (λ c. part_in_order (pass g) event c s es x) (λ c. down.entry_in_order g.cells g.weights event c S es X)
  order-entries g event none h before k = none-entries g.cells
  order-entries g event (more e es) h before k =
      let v = preceding_all-over g es h.1 k in
      pick (has event e) g.cells _ _ _ _
      (item-entries g event e h.0 before v (element-entries g event e h.0 (over (into_sequence-made before.made v.made))))
      (order-entries g event es h.1 (over (followed-made g e h.0 before.made (element-made g e h.0))) k)

  -- among members of a Phase
  beside-entries : (g : Given) (event : ℕ) (es : Elements) → AreAllEnclosed g es → {s : Table} {S : part.ExactTable} → IsOver g.cells s S →
      {x : Table} {X : part.ExactTable} → IsOver g.cells x X →
      EncloseSums g.cells (λ c. part_beside (pass g) event c s es x) (λ c. down.entry_beside g.cells g.weights event c S es X)
  beside-entries g event none h others k = none-entries g.cells
  beside-entries g event (more e es) h others k =
      pick (has event e) g.cells _ _ _ _
      (element-entries g event e h.0 (over (into_phase-made k.made (side_by_side-made g es h.1 others.made))))
      (beside-entries g event es h.1 (over (beside-made others.made (element-made g e h.0))) k)

-- The parts of an event of a tree enclose the sums over the datings with it at each cell.
pub part-totals : PartsEncloseTotals
part-totals scene w rows m tree event few weighed inside =
    let weights = rows_of scene w tree in
    let g = given scene rows m weights few in
    entries-same scene.grid.cells (λ c. part_at (pass_of scene rows) event c (element_of 0 tree) (root_context scene.grid.cells))
    (λ c. down.entry_at scene.grid.cells weights event c (element_of 0 tree) exact.root) (total_at tree scene w event)
    (λ c less. totals scene w tree event c inside less)
    (element-entries g event (element_of 0 tree) (tree-enclosed scene w rows m weights few 0 tree weighed (tree_rows scene w tree))
    (over (root-made scene.grid.cells)))
