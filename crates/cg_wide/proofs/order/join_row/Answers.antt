use Rattle.std.proofs.Common.{◌≡◌, ◌+◌, ◌-◌, ◌*◌, ◌^◌, ◌<◌, ◌≤◌, ◌∙◌, ℕ, length, take, drop, get_or, ap, ap₂, subst, sym, rules, arith, zero-add}
use Rattle.std.proofs.lemmas.List.{length-take, length-drop}
use Rattle.cg_enc.specs.Enclosure.{Enclosure, exact_zero, IsExponent}
use Rattle.cg_enc.specs.Rounding.{plus, times}
use Rattle.cg_table.specs.Live.{live_rows}
use Rattle.cg_table.specs.Table.{Table, entry, place, start, table_reach}
use Rattle.cg_table.proofs.JoinLemmas.{joined-none, joined-more, joined-passed, joined-all, joined-near}
use Rattle.cg_table.proofs.PlaceLemmas.{place_below}
use Rattle.cg_table.proofs.ReachLemmas.{IsExponent-more}
use Rattle.cg_table.proofs.WithinLemmas.{entry-within}
use Rattle.cg_context.proofs.SequenceLemmas.{part-entry, part-near, part_fits}
use Rattle.cg_wide.proofs.order.join_row.Goals as goal
use Rattle.cg_wide.proofs.order.join_row.Goals.{then-not-is_zero, else-not-is_zero}

pub loop-c-init : goal.loop-c-init
loop-c-init c = joined-none c.args.p.now c.args.t.now c.args.a 0 c.args.sums.now (λ i less. ap (λ (n : ℕ). get_or c.args.sums.now n exact_zero) (zero-add i) ∙ c.requires.zeros i less)

pub place_of-begin-requires-clause-len : goal.place_of-begin-requires-clause-len
place_of-begin-requires-clause-len c =
    let cells : c.cells-cells.result ≡ c.args.t.now.cells = c.cells-cells.ensures.value ∙ c.requires.cells in
    let long : length c.items-right.result.now ≡ start c.cells-cells.result c.live-c-end.result = c.items-right.ensures.len ∙ ap₂ start (sym cells) (sym c.live-c-end.ensures.value) in
    omega (arith, long, place_below c.cells-cells.result c.loop-c.c c.loop-c.c c.live-c-end.result (omega arith) (omega (arith, cells, c.live-c-end.ensures.within)) (omega arith))

-- where the row of the second table ends among those that are kept
fits : (t : Table) (cells c begin live len : ℕ) → cells ≡ t.cells → live ≡ live_rows t → len ≡ start t.cells (live_rows t) → c < live → c < t.cells → begin ≡ place cells c c → begin + (cells - c) ≤ len
fits t cells c begin live len same kept long row less at =
    part_fits cells c c begin live len (long ∙ ap₂ start (sym same) (sym kept)) row (omega arith) (omega (arith, same, less)) at

pub overflow_add-begin : goal.overflow_add-begin
overflow_add-begin c =
    let inside = fits c.args.t.now c.cells-cells.result c.loop-c.c c.place_of-begin.result c.live-c-end.result (length c.items-right.result.now) (c.cells-cells.ensures.value ∙ c.requires.cells) c.live-c-end.ensures.value c.items-right.ensures.len (omega arith) (omega (arith, c.live-c-end.ensures.within)) c.place_of-begin.ensures in
    search rules

pub offset_bounds-right-begin : goal.offset_bounds-right-begin
offset_bounds-right-begin c =
    let inside = fits c.args.t.now c.cells-cells.result c.loop-c.c c.place_of-begin.result c.live-c-end.result (length c.items-right.result.now) (c.cells-cells.ensures.value ∙ c.requires.cells) c.live-c-end.ensures.value c.items-right.ensures.len (omega arith) (omega (arith, c.live-c-end.ensures.within)) c.place_of-begin.ensures in
    search rules

pub slice_bounds-add_terms-end : goal.slice_bounds-add_terms-end
slice_bounds-add_terms-end c =
    let inside = fits c.args.t.now c.cells-cells.result c.loop-c.c c.place_of-begin.result c.live-c-end.result (length c.items-right.result.now) (c.cells-cells.ensures.value ∙ c.requires.cells) c.live-c-end.ensures.value c.items-right.ensures.len (omega arith) (omega (arith, c.live-c-end.ensures.within)) c.place_of-begin.ensures in
    search rules

pub add_terms-requires-clause-factor : goal.add_terms-requires-clause-factor
add_terms-requires-clause-factor c =
    subst (λ (e : Enclosure). IsExponent (2 ^ 52) e.exp) (sym c.get-factor.ensures.value)
    (IsExponent-more (entry c.args.p.now c.args.a c.loop-c.c).exp (table_reach c.args.p.now * 2 ^ 31) (2 ^ 52) (omega (arith, c.requires.reach)) (entry-within c.args.p.now c.args.a c.loop-c.c c.cells-cells.ensures.table).near)

pub add_terms-requires-clause-entries : goal.add_terms-requires-clause-entries
add_terms-requires-clause-entries c = part-near c.args.t.now c.items-right.result.now c.place_of-begin.result (c.place_of-begin.result + (c.cells-cells.result - c.loop-c.c) - c.place_of-begin.result) (table_reach c.args.p.now)
    c.items-right.ensures.table (omega (arith, c.requires.reach))

pub add_terms-requires-clause-sums : goal.add_terms-requires-clause-sums
add_terms-requires-clause-sums c = λ k less.
    let cells : c.cells-cells.result ≡ c.args.p.now.cells = c.cells-cells.ensures.value in
    let within : k < c.args.p.now.cells - c.loop-c.c = omega (arith, less, length-take (c.place_of-begin.result + (c.cells-cells.result - c.loop-c.c) - c.place_of-begin.result) (drop c.place_of-begin.result c.items-right.result.now), cells) in
    let at : 0 + (c.loop-c.c - c.args.a + k) ≡ c.loop-c.c - c.args.a + k = omega arith in
    rw at at (joined-near c.args.p.now c.args.t.now c.args.a c.loop-c.c 0 (c.loop-c.c - c.args.a + k) c.args.sums.now c.loop-c.sums c.cells-cells.ensures.table c.items-right.ensures.valid c.requires.reach (omega (arith, within)) c.loop-c.invariant)

pub loop-c-preserved : goal.loop-c-preserved
loop-c-preserved c =
    let p = c.args.p.now in
    let t = c.args.t.now in
    let a : ℕ = c.args.a in
    let at : ℕ = c.loop-c.c in
    let cells : c.cells-cells.result ≡ p.cells = c.cells-cells.ensures.value in
    let less : at < p.cells = omega (arith, c.requires.cells, c.live-c-end.ensures.within) in
    let le : a ≤ at = omega arith in
    elim c.if-not-is_zero.branch [
      | then-not-is_zero w ↦
          let begin : ℕ = w.place_of-begin.result in
          let wide : ℕ = begin + (c.cells-cells.result - at) - begin in
          let width : wide ≡ p.cells - at = omega (arith, cells) in
          let inside = fits t c.cells-cells.result at begin c.live-c-end.result (length c.items-right.result.now) (cells ∙ c.requires.cells) c.live-c-end.ensures.value c.items-right.ensures.len (omega arith) (omega (arith, c.live-c-end.ensures.within)) w.place_of-begin.ensures in
          let long : length (take wide (drop begin c.items-right.result.now)) ≡ wide =
          omega (arith, length-take wide (drop begin c.items-right.result.now), length-drop begin c.items-right.result.now, inside) in
          let begins : begin ≡ place t.cells at at = w.place_of-begin.ensures ∙ ap (λ (n : ℕ). place n at at) (cells ∙ c.requires.cells) in
          let none : (n : ℕ) → 0 + n ≡ n = λ n. zero-add n in
          rw (w.sums-is) (joined-more p t a at 0 c.args.sums.now c.loop-c.sums w.add_terms.new.sums le less c.loop-c.invariant (record {
            width = w.add_terms.ensures.width;
            before = λ i below. w.add_terms.ensures.before i (omega arith);
            added = λ k short.
                rw (none (at - a)) (w.add_terms.ensures.added k (omega (arith, short, width, long))
                ∙ ap (plus _) (ap₂ times c.get-factor.ensures.value (part-entry t c.items-right.result.now at at k begin wide c.items-right.ensures.each begins (omega arith) (omega (arith, short, width)))));
          }))
      | else-not-is_zero w ↦
          rw (w.sums-is) (joined-passed p t a at 0 c.args.sums.now c.loop-c.sums le less c.cells-cells.ensures.table c.items-right.ensures.valid (rw (← c.get-factor.ensures.value) ((c.is_zero.ensures.test).0 w.if-not-is_zero.false)) c.loop-c.invariant)
    ]

pub returns : goal.returns
returns c = record {
  width = c.loop-c.invariant.width;
  row = λ i less.
      ap (λ (n : ℕ). get_or c.loop-c.sums n exact_zero) (sym (zero-add i))
      ∙ joined-all c.args.p.now c.args.t.now c.args.a c.loop-c.c 0 i c.args.sums.now c.loop-c.sums c.cells-cells.ensures.table c.items-right.ensures.valid c.requires.cells (omega (arith, c.live-c-end.ensures.value)) (omega arith) less c.loop-c.invariant;
}
