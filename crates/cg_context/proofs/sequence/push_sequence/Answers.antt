use Rattle.std.proofs.Common.{◌≡◌, ◌+◌, ◌-◌, ◌++◌, ◌∙◌, ℕ, List, length, replicate, get_or, ap, sym, arith}
use Rattle.std.proofs.lemmas.List.{length-replicate, get_or-append-add, get_or-replicate}
use Rattle.cg_enc.specs.Enclosure.{Enclosure, exact_zero}
use Rattle.cg_table.specs.Table.{entry}
use Rattle.cg_table.proofs.JoinLemmas.{written}
use Rattle.cg_context.specs.Formulas.{into_sequence_entry}
use Rattle.cg_context.proofs.RowLemmas.{row-behind}
use Rattle.cg_context.proofs.sequence.push_sequence.Goals as goal

pub add_rows-requires-clause-zeros : goal.add_rows-requires-clause-zeros
add_rows-requires-clause-zeros g c = λ i less.
    let front = c.args.entries.now.items in
    let room : ℕ = c.cells.result - c.args.c in
    let base : c.len-base.result ≡ length front = omega (arith, c.len-base.ensures) in
    rw (c.deref_mut.ensures.value, c.in_ok-push_zeros.ensures, base)
    (get_or-append-add front (replicate room exact_zero) i exact_zero ∙ get_or-replicate room i exact_zero exact_zero (omega (arith, less, c.cells.ensures.value)))

pub returns : goal.returns
returns g c =
    let cells = c.args.p.now.cells in
    let front = c.args.entries.now.items in
    let zeros : List Enclosure = replicate (c.cells.result - c.args.c) exact_zero in
    let new = c.add_rows.new.sums in
    let base : c.len-base.result ≡ length front = omega (arith, c.len-base.ensures) in
    let all : c.push_zeros.new.entries.items ≡ front ++ zeros = c.in_ok-push_zeros.ensures in
    let lent : c.deref_mut.result.now ≡ front ++ zeros = c.deref_mut.ensures.value ∙ all in
    let long : length new ≡ length c.push_zeros.new.entries.items = c.add_rows.ensures.width ∙ ap length c.deref_mut.ensures.value in
    record {
      row = written new c.push_zeros.new.entries.items c.push_zeros.new.entries.len long (omega arith)
          ∙ row-behind cells c.args.c (into_sequence_entry (entry c.args.p.now) (entry c.args.v.now) c.args.c) front zeros new (length-replicate (c.cells.result - c.args.c) exact_zero ∙ ap (λ (n : ℕ). n - c.args.c) c.cells.ensures.value)
          (long ∙ ap length all) (λ i less. c.add_rows.ensures.before i (omega (arith, base, less)) ∙ ap (λ (xs : List Enclosure). get_or xs i exact_zero) lent)
          (λ i less. ap (λ (n : ℕ). get_or new (n + i) exact_zero) (sym base) ∙ c.add_rows.ensures.row i less);
      ticks = c.add_rows.ensures.ticks;
    }
