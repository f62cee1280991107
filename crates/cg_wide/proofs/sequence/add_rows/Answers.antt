use Rattle.std.proofs.Common.{◌≡◌, ◌+◌, ◌-◌, ◌*◌, ◌^◌, ◌<◌, ◌≤◌, ◌∙◌, ℕ, length, take, drop, get_or, ap, ap₂, subst, sym, rules, arith, zero-add, refl}
use Rattle.std.proofs.lemmas.List.{length-take, length-drop}
use Rattle.cg_enc.specs.Enclosure.{Enclosure, exact_zero, IsExponent}
use Rattle.cg_enc.specs.Rounding.{plus, times}
use Rattle.cg_table.specs.Live.{live_rows, padded}
use Rattle.cg_table.specs.Table.{Table, entry, place, start, table_reach}
use Rattle.cg_table.proofs.PlaceLemmas.{place_below}
use Rattle.cg_table.proofs.ReachLemmas.{IsExponent-more}
use Rattle.cg_table.proofs.WithinLemmas.{entry-within}
use Rattle.cg_context.proofs.SequenceLemmas.{summed-more, summed-passed, summed-near, summed-all, part-entry, part-near, part_fits}
use Rattle.cg_wide.proofs.sequence.add_rows.Goals as goal
use Rattle.cg_wide.proofs.sequence.add_rows.Goals.{then-not-is_zero, else-not-is_zero}

pub loop-a-init : goal.loop-a-init
loop-a-init c = record {
  width = refl;
  before = λ i less. refl;
  each = λ i less. ap (λ (n : ℕ). get_or c.args.sums.now n exact_zero) (zero-add i) ∙ c.requires.zeros i less;
}

pub place_of-begin-requires-clause-len : goal.place_of-begin-requires-clause-len
place_of-begin-requires-clause-len c =
    let cells : c.cells-cells.result ≡ c.args.v.now.cells = c.cells-cells.ensures.value ∙ c.requires.cells in
    let long : length c.items-right.result.now ≡ start c.cells-cells.result c.live-2.result = c.items-right.ensures.len ∙ ap (λ (t : Table). start t.cells (live_rows t)) c.table.ensures ∙ ap₂ start (sym cells) (sym c.live-2.ensures.value) in
    omega (arith, long, place_below c.cells-cells.result c.loop-a.a c.args.c c.live-2.result (omega arith) (omega (arith, c.requires.row, c.cells-cells.ensures.value)) (omega arith))

pub overflow_add-begin : goal.overflow_add-begin
overflow_add-begin c =
    let cells : c.cells-cells.result ≡ c.args.v.now.cells = c.cells-cells.ensures.value ∙ c.requires.cells in
    let long : length c.items-right.result.now ≡ start c.cells-cells.result c.live-2.result = c.items-right.ensures.len ∙ ap (λ (t : Table). start t.cells (live_rows t)) c.table.ensures ∙ ap₂ start (sym cells) (sym c.live-2.ensures.value) in
    let fits : c.place_of-begin.result + (c.cells-cells.result - c.args.c) ≤ length c.items-right.result.now =
    part_fits c.cells-cells.result c.loop-a.a c.args.c c.place_of-begin.result c.live-2.result (length c.items-right.result.now) long (omega arith) (omega arith) (omega (arith, c.requires.row, c.cells-cells.ensures.value)) c.place_of-begin.ensures in
    search rules

pub offset_bounds-right-begin : goal.offset_bounds-right-begin
offset_bounds-right-begin c =
    let cells : c.cells-cells.result ≡ c.args.v.now.cells = c.cells-cells.ensures.value ∙ c.requires.cells in
    let long : length c.items-right.result.now ≡ start c.cells-cells.result c.live-2.result = c.items-right.ensures.len ∙ ap (λ (t : Table). start t.cells (live_rows t)) c.table.ensures ∙ ap₂ start (sym cells) (sym c.live-2.ensures.value) in
    let fits : c.place_of-begin.result + (c.cells-cells.result - c.args.c) ≤ length c.items-right.result.now =
    part_fits c.cells-cells.result c.loop-a.a c.args.c c.place_of-begin.result c.live-2.result (length c.items-right.result.now) long (omega arith) (omega arith) (omega (arith, c.requires.row, c.cells-cells.ensures.value)) c.place_of-begin.ensures in
    search rules

pub slice_bounds-add_terms-end : goal.slice_bounds-add_terms-end
slice_bounds-add_terms-end c =
    let cells : c.cells-cells.result ≡ c.args.v.now.cells = c.cells-cells.ensures.value ∙ c.requires.cells in
    let long : length c.items-right.result.now ≡ start c.cells-cells.result c.live-2.result = c.items-right.ensures.len ∙ ap (λ (t : Table). start t.cells (live_rows t)) c.table.ensures ∙ ap₂ start (sym cells) (sym c.live-2.ensures.value) in
    let fits : c.place_of-begin.result + (c.cells-cells.result - c.args.c) ≤ length c.items-right.result.now =
    part_fits c.cells-cells.result c.loop-a.a c.args.c c.place_of-begin.result c.live-2.result (length c.items-right.result.now) long (omega arith) (omega arith) (omega (arith, c.requires.row, c.cells-cells.ensures.value)) c.place_of-begin.ensures in
    search rules

pub add_terms-requires-clause-factor : goal.add_terms-requires-clause-factor
add_terms-requires-clause-factor c =
    subst (λ (e : Enclosure). IsExponent (2 ^ 52) e.exp) (sym c.get-factor.ensures.value)
    (IsExponent-more (entry c.args.p.now c.loop-a.a c.args.c).exp (table_reach c.args.p.now * 2 ^ 31) (2 ^ 52) (omega (arith, c.requires.reach)) (entry-within c.args.p.now c.loop-a.a c.args.c c.cells-cells.ensures.table).near)

pub add_terms-requires-clause-entries : goal.add_terms-requires-clause-entries
add_terms-requires-clause-entries c = part-near c.args.v.now c.items-right.result.now c.place_of-begin.result (c.place_of-begin.result + (c.cells-cells.result - c.args.c) - c.place_of-begin.result) (table_reach c.args.p.now)
    (subst (λ (t : Table). padded t.cells c.items-right.result.now ≡ t) c.table.ensures c.items-right.ensures.table) (omega (arith, c.requires.reach))

pub add_terms-requires-clause-sums : goal.add_terms-requires-clause-sums
add_terms-requires-clause-sums c = λ k less.
    let within : k < c.args.p.now.cells - c.args.c = omega (arith, less, length-take (c.place_of-begin.result + (c.cells-cells.result - c.args.c) - c.place_of-begin.result) (drop c.place_of-begin.result c.items-right.result.now), c.cells-cells.ensures.value) in
    summed-near c.args.p.now c.args.v.now c.args.c 0 c.loop-a.a k c.args.sums.now c.loop-a.sums c.cells-cells.ensures.table c.live-2.ensures.table c.requires.reach (omega (arith, c.requires.row)) within c.loop-a.invariant

pub loop-a-preserved : goal.loop-a-preserved
loop-a-preserved c =
    let p = c.args.p.now in
    let v = c.args.v.now in
    let cells : c.cells-cells.result ≡ v.cells = c.cells-cells.ensures.value ∙ c.requires.cells in
    let width : c.cells-cells.result - c.args.c ≡ p.cells - c.args.c = omega (arith, c.cells-cells.ensures.value) in
    let le : c.loop-a.a ≤ c.args.c = omega arith in
    let row : c.loop-a.a < c.live-2.result = omega arith in
    elim c.if-not-is_zero.branch [
      | then-not-is_zero w ↦
          let begin : ℕ = w.place_of-begin.result in
          let wide : ℕ = begin + (c.cells-cells.result - c.args.c) - begin in
          let same : wide ≡ p.cells - c.args.c = omega (arith, width) in
          let long : length c.items-right.result.now ≡ start c.cells-cells.result c.live-2.result = c.items-right.ensures.len ∙ ap (λ (t : Table). start t.cells (live_rows t)) c.table.ensures ∙ ap₂ start (sym cells) (sym c.live-2.ensures.value) in
          let fits : begin + (c.cells-cells.result - c.args.c) ≤ length c.items-right.result.now =
          part_fits c.cells-cells.result c.loop-a.a c.args.c begin c.live-2.result (length c.items-right.result.now) long row le (omega (arith, c.requires.row, c.cells-cells.ensures.value)) w.place_of-begin.ensures in
          let size : length (take wide (drop begin c.items-right.result.now)) ≡ wide =
          omega (arith, length-take wide (drop begin c.items-right.result.now), length-drop begin c.items-right.result.now, fits) in
          let at : begin ≡ place v.cells c.loop-a.a c.args.c = w.place_of-begin.ensures ∙ ap (λ (n : ℕ). place n c.loop-a.a c.args.c) cells in
          let each = subst (λ (t : Table). (a b : ℕ) → get_or c.items-right.result.now (place t.cells a b) exact_zero ≡ entry t a b) c.table.ensures c.items-right.ensures.each in
          rw (w.sums-is) (summed-more p v c.args.c 0 c.loop-a.a c.args.sums.now c.loop-a.sums w.add_terms.new.sums c.loop-a.invariant (record {
            width = w.add_terms.ensures.width;
            before = w.add_terms.ensures.before;
            added = λ k short.
                w.add_terms.ensures.added k (omega (arith, short, same, size))
                ∙ ap (plus _) (ap₂ times c.get-factor.ensures.value (part-entry v c.items-right.result.now c.loop-a.a c.args.c k begin wide each at le (omega (arith, short, same))));
          }))
      | else-not-is_zero w ↦
          rw (w.sums-is) (summed-passed p v c.args.c 0 c.loop-a.a c.args.sums.now c.loop-a.sums c.cells-cells.ensures.table c.live-2.ensures.table
          (rw (← c.get-factor.ensures.value) (c.is_zero.ensures.zero w.if-not-is_zero.false)) c.loop-a.invariant)
    ]

pub returns : goal.returns
returns c = record {
  width = c.loop-a.invariant.width;
  row = λ i less.
      ap (λ (n : ℕ). get_or c.loop-a.sums n exact_zero) (sym (zero-add i))
      ∙ summed-all c.args.p.now c.args.v.now c.args.c 0 c.loop-a.a i c.live.result c.live-2.result c.args.sums.now c.loop-a.sums c.cells-cells.ensures.table c.live-2.ensures.table c.requires.cells less
      c.live.ensures.dead c.live-2.ensures.dead (omega arith) (λ b low high short. omega arith) c.loop-a.invariant;
}
