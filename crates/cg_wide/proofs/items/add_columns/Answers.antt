use Rattle.std.proofs.Common.{◌≡◌, ◌+◌, ◌-◌, ◌*◌, ◌^◌, ◌<◌, ◌≤◌, ◌∙◌, ℕ, suc, List, length, min, take, drop, ap, ap₂, subst, sym, rules, arith, zero-add, get_or}
use Rattle.std.proofs.lemmas.List.{length-take, length-drop}
use Rattle.cg_enc.specs.Enclosure.{Enclosure, exact_zero, IsExponent}
use Rattle.cg_enc.specs.Rounding.{plus, times}
use Rattle.cg_table.specs.Table.{Table, entry, table_reach}
use Rattle.cg_table.proofs.ReachLemmas.{IsExponent-more}
use Rattle.cg_table.proofs.WithinLemmas.{entry-within}
use Rattle.cg_context.specs.Columns.{by_columns}
use Rattle.cg_context.proofs.BackLemmas.{triangle, length-columns, column-place, column-inside, lent-column, lent-column-near, back-none, back-more, back-passed, back-all, back-near}
use Rattle.cg_wide.proofs.items.add_columns.Goals as goal
use Rattle.cg_wide.proofs.items.add_columns.Goals.{then-not-is_zero, else-not-is_zero}

-- where the column of the next cell down stands
place : (v : Table) (cells i begin : ℕ) → cells ≡ v.cells → i < cells → begin ≡ triangle (v.cells - i) → begin ≡ triangle (cells - 1 - i) + suc (cells - 1 - i)
place v cells i begin size less is = column-place v.cells i (cells - 1 - i) begin (omega (arith, size)) is

-- part of it lies within the columns
inside : (v t : Table) (cells i begin m : ℕ) (cs : List Enclosure) → cells ≡ v.cells → v.cells ≡ t.cells → i < cells → begin ≡ triangle (v.cells - i) → cs ≡ by_columns (entry t) t.cells → m ≤ cells - 1 - i + 1 →
    begin - (cells - 1 - i + 1) + m ≤ length cs
inside v t cells i begin m cs size same less is made le =
    omega (arith, place v cells i begin size less is, column-inside t cs (cells - 1 - i) made (omega (arith, size, same)), le)

pub loop-i-init : goal.loop-i-init
loop-i-init c = record {
  sums = back-none c.args.v.now c.args.t.now c.args.a 0 c.args.sums.now (λ k less. ap (λ (n : ℕ). get_or c.args.sums.now n exact_zero) (zero-add k) ∙ c.requires.zeros k less);
  begin = ap length c.requires.columns ∙ length-columns (entry c.args.t.now) c.args.t.now.cells ∙ ap triangle (let all : c.args.t.now.cells ≡ c.args.v.now.cells - 0 = omega (arith, c.requires.cells) in all);
}

pub overflow_sub-begin : goal.overflow_sub-begin
overflow_sub-begin c = omega (arith, place c.args.v.now c.cells-cells.result c.loop-i.i c.loop-i.begin c.cells-cells.ensures.value (omega arith) c.loop-i.invariant.begin)

pub offset_bounds-columns-begin : goal.offset_bounds-columns-begin
offset_bounds-columns-begin c =
    let fits = inside c.args.v.now c.args.t.now c.cells-cells.result c.loop-i.i c.loop-i.begin c.args.a c.args.columns.now c.cells-cells.ensures.value c.requires.cells (omega arith) c.loop-i.invariant.begin c.requires.columns (omega arith) in
    search rules

pub slice_bounds-add_terms-end : goal.slice_bounds-add_terms-end
slice_bounds-add_terms-end c =
    let least : c.args.a ≤ c.min.result = omega (arith, c.min.ensures, c.requires.live, c.live-live.ensures.value) in
    let fits = inside c.args.v.now c.args.t.now c.cells-cells.result c.loop-i.i c.loop-i.begin c.min.result c.args.columns.now c.cells-cells.ensures.value c.requires.cells (omega arith) c.loop-i.invariant.begin c.requires.columns (omega (arith, c.min.ensures)) in
    search rules

pub add_terms-requires-clause-factor : goal.add_terms-requires-clause-factor
add_terms-requires-clause-factor c =
    let v = c.args.v.now in
    let d : ℕ = c.cells-cells.result - 1 - c.loop-i.i in
    subst (λ (e : Enclosure). IsExponent (2 ^ 52) e.exp) (sym c.get-factor.ensures.value)
    (IsExponent-more (entry v c.args.a d).exp (table_reach v * 2 ^ 31) (2 ^ 52) (omega (arith, c.requires.reach)) (entry-within v c.args.a d c.cells-cells.ensures.table).near)

pub add_terms-requires-clause-entries : goal.add_terms-requires-clause-entries
add_terms-requires-clause-entries c = lent-column-near c.args.t.now c.args.columns.now _ _ c.requires.columns c.live-live.ensures.table (omega (arith, c.requires.reach))

pub add_terms-requires-clause-sums : goal.add_terms-requires-clause-sums
add_terms-requires-clause-sums c = λ k less.
    let d : ℕ = c.cells-cells.result - 1 - c.loop-i.i in
    let from : ℕ = c.loop-i.begin - (d + 1) + c.args.a in
    let within : k < c.args.v.now.cells - c.args.a = omega (arith, less, length-take (c.loop-i.begin - (d + 1) + c.min.result - from) (drop from c.args.columns.now), c.min.ensures, c.cells-cells.ensures.value) in
    back-near c.args.v.now c.args.t.now c.args.a 0 c.loop-i.i k c.args.sums.now c.loop-i.sums c.cells-cells.ensures.table c.live-live.ensures.table c.requires.reach within c.loop-i.invariant.sums

pub loop-i-preserved : goal.loop-i-preserved
loop-i-preserved c =
    let v = c.args.v.now in
    let t = c.args.t.now in
    let i : ℕ = c.loop-i.i in
    let d : ℕ = c.cells-cells.result - 1 - i in
    let at : suc (d + i) ≡ v.cells = omega (arith, c.cells-cells.ensures.value) in
    let begins = place v c.cells-cells.result i c.loop-i.begin c.cells-cells.ensures.value (omega arith) c.loop-i.invariant.begin in
    let rest : d ≡ v.cells - (i + 1) = omega (arith, c.cells-cells.ensures.value) in
    record {
      sums = elim c.if-not-is_zero.branch [
        | then-not-is_zero w ↦
            let from : ℕ = c.loop-i.begin - (d + 1) + c.args.a in
            let wide : ℕ = c.loop-i.begin - (d + 1) + w.min.result - from in
            let width : wide ≡ min c.live-live.result (d + 1) - c.args.a = omega (arith, w.min.ensures) in
            let fits = inside v t c.cells-cells.result i c.loop-i.begin w.min.result c.args.columns.now c.cells-cells.ensures.value c.requires.cells (omega arith) c.loop-i.invariant.begin c.requires.columns (omega (arith, w.min.ensures)) in
            let long : length (take wide (drop from c.args.columns.now)) ≡ wide =
            omega (arith, length-take wide (drop from c.args.columns.now), length-drop from c.args.columns.now, fits) in
            rw (w.sums-is) (back-more v t c.args.a 0 i d c.live-live.result wide c.args.sums.now c.loop-i.sums w.add_terms.new.sums c.cells-cells.ensures.table c.live-live.ensures.table c.requires.cells c.live-live.ensures.dead at
            (omega arith) width (omega (arith, c.requires.live, c.live-live.ensures.value)) c.loop-i.invariant.sums (record {
              width = w.add_terms.ensures.width;
              before = w.add_terms.ensures.before;
              added = λ k short.
                  w.add_terms.ensures.added k (omega (arith, short, long))
                  ∙ ap (plus _) (ap₂ times c.get-factor.ensures.value (lent-column t c.args.columns.now c.args.a d k from wide c.requires.columns (omega (arith, begins)) (omega (arith, at, c.requires.cells)) (omega (arith, short, width)) short));
              behind = λ k past. w.add_terms.ensures.behind k (omega (arith, past, long));
            }))
        | else-not-is_zero w ↦
            rw (w.sums-is) (back-passed v t c.args.a 0 i d c.args.sums.now c.loop-i.sums c.cells-cells.ensures.table c.live-live.ensures.table at
            (rw (← c.get-factor.ensures.value) ((c.is_zero.ensures.test).0 w.if-not-is_zero.false)) c.loop-i.invariant.sums)
      ];
      begin = omega (arith, begins, ap triangle rest);
    }

pub returns : goal.returns
returns c = record {
  width = c.loop-i.invariant.sums.width;
  row = λ k less.
      ap (λ (n : ℕ). get_or c.loop-i.sums n exact_zero) (sym (zero-add k))
      ∙ back-all c.args.v.now c.args.t.now c.args.a 0 c.loop-i.i k c.args.sums.now c.loop-i.sums (omega (arith, c.cells-cells.ensures.value)) less c.loop-i.invariant.sums;
}
