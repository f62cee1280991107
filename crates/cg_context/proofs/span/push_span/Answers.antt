use Rattle.std.proofs.Common.{◌≡◌, ◌+◌, ◌-◌, ◌++◌, ◌∙◌, ℕ, List, length, replicate, get_or, ap, sym, arith}
use Rattle.std.proofs.lemmas.List.{length-replicate}
use Rattle.cg_enc.specs.Enclosure.{Enclosure, exact_zero}
use Rattle.cg_table.specs.Table.{entry}
use Rattle.cg_table.proofs.JoinLemmas.{written}
use Rattle.cg_context.specs.Formulas.{into_span_entry}
use Rattle.cg_context.proofs.RowLemmas.{row-behind}
use Rattle.cg_context.proofs.span.push_span.Goals as goal

pub returns : goal.returns
returns g c =
    let cells = c.args.x.now.cells in
    let front = c.args.entries.now.items in
    let zeros : List Enclosure = replicate (c.cells.result - c.args.a) exact_zero in
    let new = c.fill_span.new.sums in
    let base : c.len-base.result ≡ length front = omega (arith, c.len-base.ensures) in
    let all : c.push_zeros.new.entries.items ≡ front ++ zeros = c.in_ok-push_zeros.ensures in
    let lent : c.deref_mut.result.now ≡ front ++ zeros = c.deref_mut.ensures.value ∙ all in
    let long : length new ≡ length c.push_zeros.new.entries.items = c.fill_span.ensures.width ∙ ap length c.deref_mut.ensures.value in
    record {
      row = written new c.push_zeros.new.entries.items c.push_zeros.new.entries.len long (omega arith)
          ∙ row-behind cells c.args.a (into_span_entry cells (entry c.args.x.now) c.args.n c.args.a) front zeros new (length-replicate (c.cells.result - c.args.a) exact_zero ∙ ap (λ (n : ℕ). n - c.args.a) c.cells.ensures.value)
          (long ∙ ap length all) (λ i less. c.fill_span.ensures.before i (omega (arith, base, less)) ∙ ap (λ (xs : List Enclosure). get_or xs i exact_zero) lent)
          (λ i less. ap (λ (n : ℕ). get_or new (n + i) exact_zero) (sym base) ∙ c.fill_span.ensures.row i less);
      ticks = c.fill_span.ensures.ticks;
      at_most = omega (arith, c.fill_span.ensures.ticks);
    }
