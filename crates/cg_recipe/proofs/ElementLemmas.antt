-- The tables of elements enclose the exact ones, where the rows of their events do.
use Rattle.std.proofs.Common.{◌≡◌, ℕ, ◌*◌, ◌<◌, ◌≤◌, arith, sym, ap, ◌∙◌, mul-one}
use Rattle.std.proofs.Math.Nat.{mul_assoc}
use Rattle.cg_table.specs.Table.{Table}
use Rattle.cg_meaning.specs.Tree.{Sequence, Phase, After, Before}
use Rattle.cg_part.specs.Elements.{Element, Event, Group, Span, Elements, none, more, open_in}
use Rattle.cg_part.specs.Tables as exact
use Rattle.cg_recipe.specs.Recipe.{Rows, Pass, followed, table_of, in_order, side_by_side}
use Rattle.cg_recipe.specs.Enclosed.{divisor, divisors}
use Rattle.cg_recipe.proofs.StepLemmas.{IsMade, IsRow, identity-made, row-made, then_row-made, then-made, beside-made, after-made, before-made, spanned-made, made-same, made-over}

-- What tables are made from: rows, and the exact weights that they enclose over these multipliers.
pub record Given : Type 0 where
  pub cells : ℕ
  pub few : cells ≤ 512
  pub rows : Rows
  pub weights : ℕ → ℕ → ℕ
  pub m : ℕ → ℕ

abbrev pub pass : Given → Pass
pass g = record { cells = g.cells; rows = g.rows }

-- a Boundary that closes a span weighs 1 at each cell
abbrev pub IsClosed : Given → ℕ → Type 0
IsClosed g closing = (cell : ℕ) → cell < g.cells → g.weights closing cell ≡ 1

-- the row of each event of an element encloses the event's weights
abbrev mutual
  pub AreEnclosed : Given → Element → Type 0
  AreEnclosed g (Event number) = IsRow g.cells (g.rows number) (g.weights number) (g.m number)
  AreEnclosed g (Group kind es) = AreAllEnclosed g es
  AreEnclosed g (Span es closing) = AreAllEnclosed g es × IsClosed g closing

  -- and so are those of all elements
  pub AreAllEnclosed : Given → Elements → Type 0
  AreAllEnclosed g none = Unit {0}
  AreAllEnclosed g (more e es) = AreEnclosed g e × AreAllEnclosed g es

-- an element after what a table has
pub followed-made : (g : Given) (e : Element) → AreEnclosed g e → {s : Table} {x : exact.ExactTable} {d : ℕ} → IsMade g.cells s x d →
    IsMade g.cells (table_of (pass g) e) (exact.table_of g.cells g.weights e) (divisor g.cells g.m e) →
    IsMade g.cells (followed (pass g) s e (table_of (pass g) e)) (exact.then_table x (exact.table_of g.cells g.weights e)) (d * divisor g.cells g.m e)
followed-made g (Event number) h made own = then_row-made made h
followed-made g (Group kind es) h made own = then-made made own
followed-made g (Span es closing) h made own = then-made made own

-- the weight of a closing Boundary
closed : (x w : ℕ) → w ≡ 1 → x ≡ x * w
closed x w e = sym (ap (λ (n : ℕ). x * n) e ∙ mul-one x)

mutual
  -- The table of an element.
  pub element-made : (g : Given) (e : Element) → AreEnclosed g e →
      IsMade g.cells (table_of (pass g) e) (exact.table_of g.cells g.weights e) (divisor g.cells g.m e)
  element-made g (Event number) h = row-made h
  element-made g (Group Sequence es) h = made-over (omega arith) (in_order-made g es h (identity-made g.cells))
  element-made g (Group Phase es) h = made-over (omega arith) (side_by_side-made g es h (identity-made g.cells))
  element-made g (Group After es) h = after-made (made-over (omega arith) (side_by_side-made g es h (identity-made g.cells)))
  element-made g (Group Before es) h = before-made (made-over (omega arith) (side_by_side-made g es h (identity-made g.cells)))
  element-made g (Span es closing) h =
      let segment = exact.in_order g.cells g.weights exact.identity es in
      made-same g.cells (table_of (pass g) (Span es closing)) (exact.spanned g.cells segment (open_in es))
      (exact.table_of g.cells g.weights (Span es closing)) (divisor g.cells g.m (Span es closing))
      (λ a b le less. closed (exact.spanned g.cells segment (open_in es) a b) (g.weights closing b) (h.1 b less))
      (spanned-made (open_in es) g.few (made-over (omega arith) (in_order-made g es h.0 (identity-made g.cells))))

  -- elements one after another, onto what precedes them
  pub in_order-made : (g : Given) (es : Elements) → AreAllEnclosed g es → {s : Table} {x : exact.ExactTable} {d : ℕ} → IsMade g.cells s x d →
      IsMade g.cells (in_order (pass g) s es) (exact.in_order g.cells g.weights x es) (d * divisors g.cells g.m es)
  in_order-made g none h {d = d} made = made-over (sym (mul-one d)) made
  in_order-made g (more e es) h {d = d} made =
      made-over (mul_assoc d (divisor g.cells g.m e) (divisors g.cells g.m es))
      (in_order-made g es h.1 (followed-made g e h.0 made (element-made g e h.0)))

  -- elements beside each other, and beside the earlier ones
  pub side_by_side-made : (g : Given) (es : Elements) → AreAllEnclosed g es → {s : Table} {x : exact.ExactTable} {d : ℕ} → IsMade g.cells s x d →
      IsMade g.cells (side_by_side (pass g) s es) (exact.side_by_side g.cells g.weights x es) (d * divisors g.cells g.m es)
  side_by_side-made g none h {d = d} made = made-over (sym (mul-one d)) made
  side_by_side-made g (more e es) h {d = d} made =
      made-over (mul_assoc d (divisor g.cells g.m e) (divisors g.cells g.m es))
      (side_by_side-made g es h.1 (beside-made made (element-made g e h.0)))
