use Rattle.std.proofs.Common.{◌≡◌, ◌+◌, ◌-◌, ◌^◌, ◌<◌, ◌≤◌, ◌∙◌, ap, arith, vec_items}
use Rattle.std.specs.List.{range_with_len}
use Rattle.rayon.specs.Numbers.{nat_range}
use Rattle.rayon.proofs.ToStd.{nat_range-All}
use Rattle.cg_table.specs.Table.{entry, table_reach}
use Rattle.cg_context.specs.Formulas.{into_sequence_entry}
use Rattle.cg_wide.proofs.GatherLemmas.{all-gathered}
use Rattle.cg_wide.proofs.sequence.summed_rows.Goals as goal

pub collect-requires-clause-ready : goal.collect-requires-clause-ready
collect-requires-clause-ready g c κs outlives =
    let p = c.map.result.f.1.now in
    let v = c.map.result.f.2.now in
    let left : p ≡ c.args.p.now = ap (λ f. f.1.now) c.map.ensures.f in
    let right : v ≡ c.args.v.now = ap (λ f. f.2.now) c.map.ensures.f in
    let count : c.args.count ≤ p.cells = rw left c.requires.count in
    let cells : p.cells ≡ v.cells = rw (left, right) c.requires.cells in
    let reach : table_reach p + table_reach v < 2 ^ 20 = rw (left, right) c.requires.reach in
    let ends = c.into_par_iter.ensures in
    let inside = nat_range-All (λ a. (a < p.cells) × (p.cells ≡ v.cells) × (table_reach p + table_reach v < 2 ^ 20)) 0 c.args.count (λ a low high. (omega (arith, high, count), cells, reach)) in
    rw (c.map.ensures.base, c.with_min_len.ensures.base, ends.0, ends.1) (λ k d lt. (inside k d lt, λ y p. tt))

pub returns : goal.returns
returns g c =
    let p = c.args.p.now in
    let ends = c.into_par_iter.ensures in
    let whole : c.args.count - 0 ≡ c.args.count = omega arith in
    let made = c.in_ok-collect.ensures in
    let chain = rw (c.map.ensures.base, c.map.ensures.f, c.with_min_len.ensures.base) at made.1 in
    let places = chain.1 ∙ (λ i. nat_range (ends.0 i) (ends.1 i)) ∙ ap (range_with_len 0) whole in
    all-gathered _ vec_items p.cells (into_sequence_entry (entry p) (entry c.args.v.now)) vec_items c.args.count made.0 c.in_ok-collect.field-0 made.2 (rw places at chain.2)
