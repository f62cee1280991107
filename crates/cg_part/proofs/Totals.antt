-- Totals of tables, also where an event is held at a cell, and what a pair from further out and a closing Boundary add.
use Rattle.std.proofs.Common.{◌≡◌, ℕ, suc, ◌<◌, ◌-◌, ◌*◌, ◌^◌, true, cond, ◌&&◌, leb, le-leb, List, length, get_or, sym, ap, ◌∙◌, arith, None}
use Rattle.std.specs.List.{zip}
use Rattle.std.proofs.lemmas.Bool.{cond-true}
use Rattle.cg_meaning.specs.Tree.{Tree, count, datings_of, paths_of}
use Rattle.cg_meaning.specs.Scene.{Scene}
use Rattle.cg_meaning.specs.Weights.{Weighting, held_at}
use Rattle.cg_meaning.specs.Sums.{sum_below, sum_over}
use Rattle.cg_meaning.specs.Pairs.{pair_at, span_weight}
use Rattle.cg_meaning.specs.Posterior.{allows, weight_of, total}
use Rattle.cg_meaning.proofs.Sums.{sum_below-same, sum_over-same}
use Rattle.cg_meaning.proofs.Pin.{total_held}
use Rattle.cg_part.specs.Elements.{element_of, open_events}
use Rattle.cg_part.specs.Part.{own_weight, reaches}
use Rattle.cg_part.specs.Tables.{sum_from, table_of, table_total, rows_of, spanned}
use Rattle.cg_part.specs.Laws.{AreRows, TotalsAreByTables, PinnedTotals, OpenEventsCarryThePair, ClosedSpans}
use Rattle.cg_part.proofs.Blocks.{and_true}
use Rattle.cg_part.proofs.Parts.{starts, up_to, reaches-within}
use Rattle.cg_part.proofs.Groups.{begins-zero}
use Rattle.cg_part.proofs.Members.{length-paths_of}
use Rattle.cg_part.proofs.PairsRead.{cells_from, length-cells_from, spans-from}
use Rattle.cg_part.proofs.Rows.{tree_rows, held_rows}
use Rattle.cg_part.proofs.Open.{spans-open}
use Rattle.cg_part.proofs.Table.{own_sums}

-- all cells
sum_from-all : (n : ℕ) (f : ℕ → ℕ) → 0 < n → sum_below n f ≡ sum_from 0 (n - 1) f
sum_from-all n f h =
    let size : suc (n - 1) ≡ n = omega arith in
    sum_below-same n f (λ c. cond (leb 0 c) (f c) 0) (λ c l. sym (cond-true (leb 0 c) (f c) 0 (le-leb 0 c (omega arith))))
    ∙ ap (λ k. sum_below k (λ c. cond (leb 0 c) (f c) 0)) (sym size)

-- from the oldest cell to the youngest every allowed dating counts
all_parts : (scene : Scene) (w : Weighting) (t : Tree) → 0 < scene.grid.cells →
    up_to scene (λ cells. own_weight scene w 0 t cells) (paths_of t) (datings_of t) 0 (scene.grid.cells - 1)
    ≡ sum_over scene.grid.cells (count t) (λ cells. cond (allows t scene cells) (weight_of t scene w cells) 0)
all_parts scene w t some =
    let g = scene.grid.cells in
    let all : List ℕ → ℕ = λ cells. cond (allows t scene cells) (weight_of t scene w cells) 0 in
    sum_over-same g (length (paths_of t))
    (λ cells. cond (starts scene (paths_of t) (datings_of t) 0 cells && leb (reaches 0 (zip (paths_of t) cells)) (g - 1))
    (weight_of t scene w cells) 0) all
    (λ cells l within.
    let inside : reaches 0 (zip (paths_of t) cells) < g = reaches-within g 0 (paths_of t) cells within some in
    rw (begins-zero (zip (paths_of t) cells), le-leb (reaches 0 (zip (paths_of t) cells)) (g - 1) (omega arith))
    (ap (λ b. cond b (weight_of t scene w cells) 0) (and_true (allows t scene cells && true) ∙ and_true (allows t scene cells))))
    ∙ ap (λ n. sum_over g n all) (length-paths_of t)

-- The total of a table is the sum over all allowed datings, whatever gives the rows.
pub totals_by : (scene : Scene) (w : Weighting) (t : Tree) (rows : ℕ → ℕ → ℕ) → AreRows scene w 0 t rows → 0 < scene.grid.cells →
    table_total scene.grid.cells (table_of scene.grid.cells rows (element_of 0 t)) ≡ total t scene w
totals_by scene w t rows have some =
    let g = scene.grid.cells in
    sum_from-all g (λ b. table_of g rows (element_of 0 t) 0 b) some
    ∙ own_sums scene w rows t 0 0 (g - 1) have (omega arith) (omega arith) ∙ all_parts scene w t some

-- The rows of the weighting do.
pub totals : TotalsAreByTables
totals scene w t some = totals_by scene w t (rows_of scene w t) (tree_rows scene w t) some

-- Held at a cell, that over the datings with the event there.
pub pinned : PinnedTotals
pinned scene w t event cell h some =
    let rows = rows_of scene w t in
    totals_by scene (held_at event cell w) t (held_at event cell rows) (held_rows scene w 0 t rows event cell (tree_rows scene w t)) some
    ∙ total_held t scene w event cell h

-- Open events carry the pair from further out.
pub open-events : OpenEventsCarryThePair
open-events g outer n t cells =
    spans-from g cells outer n t
    ∙ spans-open g (pair_at cells outer) n t (cells_from (λ k. get_or cells k 0) n (count t)) (length-cells_from (λ k. get_or cells k 0) n (count t))
    ∙ ap (λ x. x * span_weight g (pair_at cells outer) ^ open_events (element_of n t)) (sym (spans-from g cells None n t))

-- Under admitted weights a closing Boundary adds nothing.
pub closed-spans : ClosedSpans
closed-spans scene w event admitted t opened a b within =
    ap (λ x. spanned scene.grid.cells t opened a b * x) (admitted b within) ∙ omega arith
