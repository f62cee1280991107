use Rattle.std.proofs.Common.{◌≡◌, ◌+◌, ◌-◌, ◌++◌, ◌∙◌, ℕ, List, length, replicate, get_or, ap, sym, arith}
use Rattle.std.proofs.lemmas.List.{length-replicate, get_or-append-add, get_or-replicate}
use Rattle.cg_enc.specs.Enclosure.{Enclosure, exact_zero}
use Rattle.cg_table.specs.Table.{entry}
use Rattle.cg_table.proofs.JoinLemmas.{written}
use Rattle.cg_context.specs.Formulas.{back_entry}
use Rattle.cg_context.proofs.RowLemmas.{row-behind}
use Rattle.cg_context.proofs.items.push_back.Goals as goal

pub add_columns-requires-clause-zeros : goal.add_columns-requires-clause-zeros
add_columns-requires-clause-zeros g c = λ i less.
    let front = c.args.entries.now.items in
    let room : ℕ = c.cells.result - c.args.a in
    let base : c.len-base.result ≡ length front = omega (arith, c.len-base.ensures) in
    rw (c.deref_mut.ensures.value, c.in_ok-push_zeros.ensures, base)
    (get_or-append-add front (replicate room exact_zero) i exact_zero ∙ get_or-replicate room i exact_zero exact_zero (omega (arith, less, c.cells.ensures.value)))

pub returns-clause-row : goal.returns-clause-row
returns-clause-row g c =
    let v = c.args.v.now in
    let front = c.args.entries.now.items in
    let room : ℕ = c.cells.result - c.args.a in
    let zeros : List Enclosure = replicate room exact_zero in
    let new = c.add_columns.new.sums in
    let base : c.len-base.result ≡ length front = omega (arith, c.len-base.ensures) in
    let all : c.push_zeros.new.entries.items ≡ front ++ zeros = c.in_ok-push_zeros.ensures in
    let lent : c.deref_mut.result.now ≡ front ++ zeros = c.deref_mut.ensures.value ∙ all in
    let long : length new ≡ length c.push_zeros.new.entries.items = c.add_columns.ensures.width ∙ ap length c.deref_mut.ensures.value in
    written new c.push_zeros.new.entries.items c.push_zeros.new.entries.len long (omega arith)
    ∙ row-behind v.cells c.args.a (back_entry v.cells (entry v) (entry c.args.t.now) c.args.a) front zeros new
    (length-replicate room exact_zero ∙ ap (λ (n : ℕ). n - c.args.a) c.cells.ensures.value) (long ∙ ap length all)
    (λ i less. c.add_columns.ensures.before i (omega (arith, base, less)) ∙ ap (λ (xs : List Enclosure). get_or xs i exact_zero) lent)
    (λ i less. ap (λ (n : ℕ). get_or new (n + i) exact_zero) (sym base) ∙ c.add_columns.ensures.row i less)
