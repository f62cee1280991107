-- The rows of parts on the way down.
use Rattle.std.proofs.Common.{◌≡◌, ℕ, ◌+◌, ◌*◌, ◌^◌, ◌<◌, ◌≤◌, List, [], ◌∷◌, ◌++◌, length, Bool, true, false, eqb, arith, refl, sym, ap, ◌∙◌}
use Rattle.std.specs.Prelude.{if◌then◌else◌}
use Rattle.std.proofs.lemmas.Bool.{eq-eqb, ne_eqb}
use Rattle.std.proofs.lemmas.List.FromFn.{get_or-map-range_with_len, length-map-range_with_len, map-range_with_len_more, fill_by_all}
use Rattle.cg_enc.specs.Enclosure.{Enclosure, exact_zero, IsExponent}
use Rattle.cg_enc.specs.Rounding.{times}
use Rattle.cg_table.specs.Losses.{greatest_reach}
use Rattle.cg_table.specs.Row.{AreEntries}
use Rattle.cg_table.specs.Table.{Table, entry, row_entry}
use Rattle.cg_table.specs.Live.{identity_rows_of}
use Rattle.cg_table.specs.Formulas.{identity_of}
use Rattle.cg_table.proofs.ReachLemmas.{IsExponent-more}
use Rattle.cg_table.proofs.WithinLemmas.{times-within, row_entry-within}
use Rattle.cg_context.specs.Formulas.{row_by, into_phase_of, into_sequence_of, into_span_of, at_end_entry}
use Rattle.cg_part.specs.Elements.{Element, Span, Elements, more, has, has_among, open_in}
use Rattle.cg_recipe.specs.Recipe.{Pass, table_of, in_order, side_by_side, preceding_all, part_in_item, part_at, part_in_order, part_beside}
use Rattle.cg_message.proofs.AroundLemmas.{part-in_order, part-beside}
use Rattle.cg_message.proofs.ElementLemmas.{joined}
use Rattle.cg_message.proofs.CutLemmas.{cut_identity}

-- rows whose cells are the same
pub row_by-same : (cells : ℕ) (f g : ℕ → Enclosure) → ((cell : ℕ) → cell < cells → f cell ≡ g cell) → row_by cells f ≡ row_by cells g
row_by-same cells f g same =
    fill_by_all g (row_by cells f) cells exact_zero (length-map-range_with_len f 0 cells)
    (λ cell less. get_or-map-range_with_len f 0 cells cell cell exact_zero less (omega arith) ∙ same cell less)

-- as many cells
pub length-row_by : (cells : ℕ) (f : ℕ → Enclosure) → length (row_by cells f) ≡ cells
length-row_by cells f = length-map-range_with_len f 0 cells

-- a row times weights
pub weighed-row : (n cells : ℕ) (f : ℕ → Enclosure) (row w : List Enclosure) → n ≡ cells → row ≡ row_by n f →
    row_by cells (λ cell. times (row_entry row cell) (row_entry w cell)) ≡ row_by cells (λ cell. times (f cell) (row_entry w cell))
weighed-row n cells f row w same is =
    rw (is, same)
    (row_by-same cells (λ cell. times (row_entry (row_by cells f) cell) (row_entry w cell)) (λ cell. times (f cell) (row_entry w cell))
    (λ cell less. ap (λ e. times e (row_entry w cell)) (get_or-map-range_with_len f 0 cells cell cell exact_zero less (omega arith))))

-- the parts among items, by those in the item with the event
pub order-row : (pass : Pass) (event live : ℕ) (all us later : Elements) (e : Element) (x before v : Table) → all ≡ joined us (more e later) →
    has_among event us ≡ false → has event e ≡ true → x.cells ≡ pass.cells →
    ((a b : ℕ) → live ≤ a → a ≤ b → b < pass.cells → entry x a b ≡ exact_zero) →
    before ≡ in_order pass (identity_rows_of pass.cells live) us → v ≡ preceding_all pass later x →
    row_by pass.cells (λ cell. part_in_item pass cell before v e (part_at pass event cell e (into_sequence_of before v)))
    ≡ row_by pass.cells (λ cell. part_in_order pass event cell (identity_of pass.cells) all x)
order-row pass event live all us later e x before v split none own size dead first second =
    rw (first, second, split)
    (row_by-same pass.cells _ _
    (λ cell less.
    sym (part-in_order pass event cell (identity_rows_of pass.cells live) us later e x none own)
    ∙ cut_identity pass event cell live (joined us (more e later)) x less size dead))

-- those among members of a Phase
pub beside-row : (pass : Pass) (event : ℕ) (all us later : Elements) (e : Element) (x inner : Table) → all ≡ joined us (more e later) →
    has_among event us ≡ false → has event e ≡ true →
    inner ≡ into_phase_of x (side_by_side pass (side_by_side pass (identity_of pass.cells) us) later) →
    row_by pass.cells (λ cell. part_at pass event cell e inner) ≡ row_by pass.cells (λ cell. part_beside pass event cell (identity_of pass.cells) all x)
beside-row pass event all us later e x inner split none own is =
    rw (is, split) (row_by-same pass.cells _ _ (λ cell less. sym (part-beside pass event cell (identity_of pass.cells) us later e x none own)))

-- one more cell
pub cells_more : (f : ℕ → Enclosure) (n : ℕ) (parts : List Enclosure) (part : Enclosure) → part ≡ f n → parts ≡ row_by n f → parts ++ part ∷ [] ≡ row_by (n + 1) f
cells_more f n parts part is h = rw (h, is) (sym (map-range_with_len_more f 0 n n (omega arith)))

-- a part times its weight can be put to a row
pub part-near : (row w : List Enclosure) (cell : ℕ) (a b part : Enclosure) → AreEntries row → AreEntries w → greatest_reach row < 2 ^ 20 → greatest_reach w ≤ 1 →
    a ≡ row_entry row cell → b ≡ row_entry w cell → part ≡ times a b → IsExponent (2 ^ 60) part.exp
part-near row w cell a b part entries weights far near left right is =
    rw (is, left, right)
    (let product = times-within (row_entry row cell) (row_entry w cell) _ (greatest_reach row * 2 ^ 31) _ (greatest_reach w * 2 ^ 31) (row_entry-within row cell entries) (row_entry-within w cell weights) in
    IsExponent-more (times (row_entry row cell) (row_entry w cell)).exp (greatest_reach row * 2 ^ 31 + greatest_reach w * 2 ^ 31 + 63) (2 ^ 60) (omega (arith, far, near)) product.near)

-- the parts of the Boundary that closes a span, by the span's table
pub end-row : (pass : Pass) (event closing : ℕ) (es : Elements) (e : Element) (x span : Table) → e ≡ Span es closing → event ≡ closing → x.cells ≡ pass.cells → span ≡ table_of pass e →
    row_by x.cells (at_end_entry (entry x) (entry span)) ≡ row_by pass.cells (λ cell. part_at pass event cell e x)
end-row pass event closing es e x span is here size by_table =
    rw (by_table, is, size) (row_by-same pass.cells _ _ (λ cell less. sym (first (eqb event closing) _ _ (eq-eqb event closing here))))
  where
    first : (b : Bool) (f g : Enclosure) → b ≡ true → (if b then f else g) ≡ f
    first b f g h = rw h refl

-- those of an event in the span, by its elements
pub inside-row : (pass : Pass) (event closing : ℕ) (es : Elements) (e : Element) (x inner : Table) → e ≡ Span es closing → (event ≡ closing → ⊥) → inner ≡ into_span_of x (open_in es) →
    row_by pass.cells (λ cell. part_in_order pass event cell (identity_of pass.cells) es inner) ≡ row_by pass.cells (λ cell. part_at pass event cell e x)
inside-row pass event closing es e x inner is elsewhere within =
    rw (within, is) (row_by-same pass.cells _ _ (λ cell less. sym (second (eqb event closing) _ _ (ne_eqb event closing elsewhere))))
  where
    second : (b : Bool) (f g : Enclosure) → b ≡ false → (if b then f else g) ≡ g
    second b f g h = rw h refl
