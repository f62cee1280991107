use Rattle.std.proofs.Common.{◌≡◌, ◌+◌, ◌-◌, ◌^◌, ◌<◌, ◌≤◌, ◌∙◌, ap, arith, vec_items}
use Rattle.std.specs.List.{range_with_len}
use Rattle.rayon.specs.Numbers.{nat_range}
use Rattle.rayon.proofs.ToStd.{nat_range-All}
use Rattle.cg_table.specs.Live.{live_rows}
use Rattle.cg_table.specs.Table.{entry, table_reach}
use Rattle.cg_context.specs.Columns.{by_columns}
use Rattle.cg_context.specs.Formulas.{back_entry}
use Rattle.cg_wide.proofs.GatherLemmas.{all-gathered}
use Rattle.cg_wide.proofs.items.preceding_rows.Goals as goal

pub collect-requires-clause-ready : goal.collect-requires-clause-ready
collect-requires-clause-ready g c κs outlives =
    let v = c.map.result.f.1.now in
    let t = c.map.result.f.2.now in
    let columns = c.map.result.f.3.now in
    let left : v ≡ c.args.v.now = ap (λ f. f.1.now) c.map.ensures.f in
    let right : t ≡ c.args.t.now = ap (λ f. f.2.now) c.map.ensures.f in
    let lent : columns ≡ c.args.columns.now = ap (λ f. f.3.now) c.map.ensures.f in
    let row : c.args.live ≤ v.cells = rw left c.requires.live.0 in
    let live : c.args.live ≤ live_rows t = rw right c.requires.live.1 in
    let cells : v.cells ≡ t.cells = rw (left, right) c.requires.cells in
    let reach : table_reach v + table_reach t < 2 ^ 20 = rw (left, right) c.requires.reach in
    let made : columns ≡ by_columns (entry t) t.cells = rw (lent, right) c.requires.columns in
    let ends = c.into_par_iter.ensures in
    let inside = nat_range-All (λ a. (a < v.cells) × (a < live_rows t) × (v.cells ≡ t.cells) × (table_reach v + table_reach t < 2 ^ 20) × (columns ≡ by_columns (entry t) t.cells)) 0 c.args.live
    (λ a low high. (omega (arith, high, row), omega (arith, high, live), cells, reach, made)) in
    rw (c.map.ensures.base, c.with_min_len.ensures.base, ends.0, ends.1) (λ k d lt. (inside k d lt, λ y p. tt))

pub returns : goal.returns
returns g c =
    let v = c.args.v.now in
    let ends = c.into_par_iter.ensures in
    let whole : c.args.live - 0 ≡ c.args.live = omega arith in
    let made = c.in_ok-collect.ensures in
    let chain = rw (c.map.ensures.base, c.map.ensures.f, c.with_min_len.ensures.base) at made.1 in
    let places = chain.1 ∙ (λ i. nat_range (ends.0 i) (ends.1 i)) ∙ ap (range_with_len 0) whole in
    all-gathered _ vec_items v.cells (back_entry v.cells (entry v) (entry c.args.t.now)) vec_items c.args.live made.0 c.in_ok-collect.field-0 made.2 (rw places at chain.2)
