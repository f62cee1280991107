use Rattle.std.proofs.Common.{◌≡◌, ◌+◌, ◌-◌, ◌*◌, ◌^◌, ◌<◌, ◌≤◌, ◌∙◌, ℕ, length, min, take, drop, ap, ap₂, subst, sym, rules, arith}
use Rattle.std.proofs.lemmas.List.{length-take, length-drop}
use Rattle.cg_enc.specs.Enclosure.{Enclosure, IsExponent}
use Rattle.cg_enc.specs.Rounding.{plus, times}
use Rattle.cg_table.specs.Live.{live_rows}
use Rattle.cg_table.specs.Table.{entry, start, table_reach}
use Rattle.cg_table.proofs.JoinLemmas.{joined-more, joined-passed, joined-all, joined-near, lent, lent-near, factor-inside, row-inside, row-next, ticks_left}
use Rattle.cg_table.proofs.LiveLemmas.{kept-entry, live_rows-most}
use Rattle.cg_table.proofs.PlaceLemmas.{start_rises}
use Rattle.cg_table.proofs.ReachLemmas.{IsExponent-more}
use Rattle.cg_table.proofs.WithinLemmas.{entry-within}
use Rattle.cg_table.proofs.join.join_row.Goals as goal
use Rattle.cg_table.proofs.join.join_row.Goals.{then-not-is_zero, else-not-is_zero}

pub start_of-own-requires-clause-within : goal.start_of-own-requires-clause-within
start_of-own-requires-clause-within g c = omega (arith, c.requires.row, c.cells-cells.ensures.value, live_rows-most c.args.p.now)

pub start_of-own-requires-clause-len : goal.start_of-own-requires-clause-len
start_of-own-requires-clause-len g c =
    omega (arith, c.items-left.ensures.len, ap (λ (n : ℕ). start n c.args.a) c.cells-cells.ensures.value, start_rises c.args.p.now.cells c.args.a (live_rows c.args.p.now) (omega (arith, c.requires.row)))

pub start_of-begin-requires-clause-len : goal.start_of-begin-requires-clause-len
start_of-begin-requires-clause-len g c =
    let cells : c.cells-cells.result ≡ c.args.t.now.cells = c.cells-cells.ensures.value ∙ c.requires.cells in
    let few : c.min.result ≤ live_rows c.args.t.now = omega (arith, c.min.ensures, c.live.ensures.value) in
    omega (arith, c.items-right.ensures.len, ap (λ (n : ℕ). start n c.min.result) cells, start_rises c.args.t.now.cells c.min.result (live_rows c.args.t.now) few)

pub overflow_add-factor : goal.overflow_add-factor
overflow_add-factor g c =
    let fits = factor-inside c.args.p.now c.cells-cells.result c.args.a c.loop-c.c c.start_of-own.result (length c.items-left.result.now) c.cells-cells.ensures.value c.requires.row (omega arith) (omega (arith, c.requires.cells, c.live-c-end.ensures.within)) c.start_of-own.ensures c.items-left.ensures.len in
    search rules

pub offset_bounds-left-own : goal.offset_bounds-left-own
offset_bounds-left-own g c =
    let fits = factor-inside c.args.p.now c.cells-cells.result c.args.a c.loop-c.c c.start_of-own.result (length c.items-left.result.now) c.cells-cells.ensures.value c.requires.row (omega arith) (omega (arith, c.requires.cells, c.live-c-end.ensures.within)) c.start_of-own.ensures c.items-left.ensures.len in
    search rules

pub bounds-left-own : goal.bounds-left-own
bounds-left-own g c = factor-inside c.args.p.now c.cells-cells.result c.args.a c.loop-c.c c.start_of-own.result (length c.items-left.result.now) c.cells-cells.ensures.value c.requires.row (omega arith) (omega (arith, c.requires.cells, c.live-c-end.ensures.within)) c.start_of-own.ensures c.items-left.ensures.len

pub overflow_add-begin : goal.overflow_add-begin
overflow_add-begin g c =
    let fits = row-inside c.args.t.now c.cells-cells.result c.loop-c.c c.loop-c.begin (length c.items-right.result.now) (c.cells-cells.ensures.value ∙ c.requires.cells) (omega (arith, c.live-c-end.ensures.value)) c.loop-c.invariant.place c.items-right.ensures.len in
    search rules

pub offset_bounds-right-begin : goal.offset_bounds-right-begin
offset_bounds-right-begin g c =
    let fits = row-inside c.args.t.now c.cells-cells.result c.loop-c.c c.loop-c.begin (length c.items-right.result.now) (c.cells-cells.ensures.value ∙ c.requires.cells) (omega (arith, c.live-c-end.ensures.value)) c.loop-c.invariant.place c.items-right.ensures.len in
    search rules

pub slice_bounds-add_row-end : goal.slice_bounds-add_row-end
slice_bounds-add_row-end g c =
    let fits = row-inside c.args.t.now c.cells-cells.result c.loop-c.c c.loop-c.begin (length c.items-right.result.now) (c.cells-cells.ensures.value ∙ c.requires.cells) (omega (arith, c.live-c-end.ensures.value)) c.loop-c.invariant.place c.items-right.ensures.len in
    search rules

pub add_row-requires-clause-factor : goal.add_row-requires-clause-factor
add_row-requires-clause-factor g c =
    let inside = factor-inside c.args.p.now c.cells-cells.result c.args.a c.loop-c.c c.start_of-own.result (length c.items-left.result.now) c.cells-cells.ensures.value c.requires.row (omega arith) (omega (arith, c.requires.cells, c.live-c-end.ensures.within)) c.start_of-own.ensures c.items-left.ensures.len in
    let read = kept-entry c.args.p.now c.args.p.now.cells c.items-left.result.now (c.start_of-own.result + (c.loop-c.c - c.args.a)) c.args.a c.loop-c.c c.index-left-own.result c.items-left.ensures.table inside
    (omega (arith, c.start_of-own.ensures, ap (λ (n : ℕ). start n c.args.a) c.cells-cells.ensures.value)) c.index-left-own.is in
    subst (λ (e : Enclosure). IsExponent (2 ^ 52) e.exp) (sym read)
    (IsExponent-more (entry c.args.p.now c.args.a c.loop-c.c).exp (table_reach c.args.p.now * 2 ^ 31) (2 ^ 52) (omega (arith, c.requires.reach)) (entry-within c.args.p.now c.args.a c.loop-c.c c.items-left.ensures.valid).near)

pub add_row-requires-clause-row : goal.add_row-requires-clause-row
add_row-requires-clause-row g c = lent-near c.args.t.now c.args.t.now.cells c.items-right.result.now c.loop-c.begin (c.loop-c.begin + (c.cells-cells.result - c.loop-c.c) - c.loop-c.begin) (table_reach c.args.p.now) c.items-right.ensures.table (omega (arith, c.requires.reach))

pub add_row-requires-clause-sums : goal.add_row-requires-clause-sums
add_row-requires-clause-sums g c = λ k less.
    let cells : c.cells-cells.result ≡ c.args.p.now.cells = c.cells-cells.ensures.value in
    let within : k < c.args.p.now.cells - c.loop-c.c = omega (arith, less, length-take (c.loop-c.begin + (c.cells-cells.result - c.loop-c.c) - c.loop-c.begin) (drop c.loop-c.begin c.items-right.result.now), cells) in
    let at : c.args.base + (c.loop-c.c - c.args.a) + k ≡ c.args.base + (c.loop-c.c - c.args.a + k) = omega arith in
    rw at (joined-near c.args.p.now c.args.t.now c.args.a c.loop-c.c c.args.base (c.loop-c.c - c.args.a + k) c.args.sums.now c.loop-c.sums c.items-left.ensures.valid c.items-right.ensures.valid c.requires.reach (omega (arith, within)) c.loop-c.invariant.sums)

pub overflow_add-begin-in-loop-c : goal.overflow_add-begin-in-loop-c
overflow_add-begin-in-loop-c g c =
    let fits = row-inside c.args.t.now c.cells-cells.result c.loop-c.c c.loop-c.begin (length c.items-right.result.now) (c.cells-cells.ensures.value ∙ c.requires.cells) (omega (arith, c.live-c-end.ensures.value)) c.loop-c.invariant.place c.items-right.ensures.len in
    search rules

pub loop-c-preserved : goal.loop-c-preserved
loop-c-preserved g c =
    let p = c.args.p.now in
    let t = c.args.t.now in
    let a : ℕ = c.args.a in
    let at : ℕ = c.loop-c.c in
    let cells : c.cells-cells.result ≡ p.cells = c.cells-cells.ensures.value in
    let live : at < live_rows t = omega (arith, c.live-c-end.ensures.value) in
    let less : at < p.cells = omega (arith, c.requires.cells, c.live-c-end.ensures.within) in
    let le : a ≤ at = omega arith in
    let next = row-next t c.cells-cells.result at c.loop-c.begin (cells ∙ c.requires.cells) live c.loop-c.invariant.place in
    let read = kept-entry p p.cells c.items-left.result.now (c.start_of-own.result + (at - a)) a at c.index-left-own.result c.items-left.ensures.table
    (factor-inside p c.cells-cells.result a at c.start_of-own.result (length c.items-left.result.now) cells c.requires.row le less c.start_of-own.ensures c.items-left.ensures.len)
    (omega (arith, c.start_of-own.ensures, ap (λ (n : ℕ). start n a) cells)) c.index-left-own.is in
    let wide : ℕ = c.loop-c.begin + (c.cells-cells.result - at) - c.loop-c.begin in
    let width : wide ≡ p.cells - at = omega (arith, cells) in
    let inside = row-inside t c.cells-cells.result at c.loop-c.begin (length c.items-right.result.now) (cells ∙ c.requires.cells) live c.loop-c.invariant.place c.items-right.ensures.len in
    let long : length (take wide (drop c.loop-c.begin c.items-right.result.now)) ≡ wide =
    omega (arith, length-take wide (drop c.loop-c.begin c.items-right.result.now), length-drop c.loop-c.begin c.items-right.result.now, inside) in
    let here : min at (live_rows t) ≡ at = omega (arith, live) in
    let begins : c.loop-c.begin ≡ start t.cells at = c.loop-c.invariant.place ∙ ap (start t.cells) here in
    elim c.if-not-is_zero.branch [
      | then-not-is_zero w ↦ record {
        sums = rw (w.sums-is) (joined-more p t a at c.args.base c.args.sums.now c.loop-c.sums w.add_row.new.sums le less c.loop-c.invariant.sums (record {
          width = w.add_row.ensures.width;
          before = w.add_row.ensures.before;
          added = λ k short.
              w.add_row.ensures.added k (omega (arith, short, width, long))
              ∙ ap (plus _) (ap₂ times read (lent t t.cells c.items-right.result.now at k c.loop-c.begin wide c.items-right.ensures.table begins (omega (arith, short, width))));
        }));
        place = next;
        ticks = ticks_left c.loop-c.steps c.if-not-is_zero.steps _ (c.cells-cells.result - at) (c.cells-cells.result - (at + 1)) (omega (arith, cells)) (omega (arith, w.steps-is, w.add_row.ensures.ticks, long, width)) c.loop-c.invariant.ticks;
      }
      | else-not-is_zero w ↦ record {
        sums = rw (w.sums-is) (joined-passed p t a at c.args.base c.args.sums.now c.loop-c.sums le less c.items-left.ensures.valid c.items-right.ensures.valid (rw (← read) ((c.is_zero.ensures.test).0 w.if-not-is_zero.false)) c.loop-c.invariant.sums);
        place = next;
        ticks = ticks_left c.loop-c.steps c.if-not-is_zero.steps _ (c.cells-cells.result - at) (c.cells-cells.result - (at + 1)) (omega (arith, cells)) (omega (arith, w.steps-is)) c.loop-c.invariant.ticks;
      }
    ]

pub returns-clause-row : goal.returns-clause-row
returns-clause-row g c = λ i less. joined-all c.args.p.now c.args.t.now c.args.a c.loop-c.c c.args.base i c.args.sums.now c.loop-c.sums c.items-left.ensures.valid c.items-right.ensures.valid c.requires.cells (omega (arith, c.live-c-end.ensures.value)) (omega arith) less c.loop-c.invariant.sums
