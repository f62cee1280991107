use Rattle.std.proofs.Common.{◌≡◌, ◌+◌, ◌-◌, ◌++◌, ◌∙◌, ℕ, List, length, replicate, get_or, ap, sym, arith}
use Rattle.std.proofs.lemmas.List.{length-replicate}
use Rattle.cg_enc.specs.Enclosure.{Enclosure, exact_zero}
use Rattle.cg_table.specs.Table.{entry, row_entry}
use Rattle.cg_table.proofs.JoinLemmas.{written}
use Rattle.cg_context.specs.Formulas.{back_row_entry}
use Rattle.cg_context.proofs.RowLemmas.{row-behind}
use Rattle.cg_context.proofs.later.push_back_row.Goals as goal

pub returns-clause-row : goal.returns-clause-row
returns-clause-row g c =
    let v = c.args.v.now in
    let front = c.args.entries.now.items in
    let room : ℕ = c.cells.result - c.args.a in
    let zeros : List Enclosure = replicate room exact_zero in
    let new = c.fall.new.sums in
    let base : c.len-base.result ≡ length front = omega (arith, c.len-base.ensures) in
    let all : c.push_zeros.new.entries.items ≡ front ++ zeros = c.in_ok-push_zeros.ensures in
    let lent : c.deref_mut.result.now ≡ front ++ zeros = c.deref_mut.ensures.value ∙ all in
    let long : length new ≡ length c.push_zeros.new.entries.items = c.fall.ensures.width ∙ ap length c.deref_mut.ensures.value in
    written new c.push_zeros.new.entries.items c.push_zeros.new.entries.len long (omega arith)
    ∙ row-behind v.cells c.args.a (back_row_entry v.cells (entry v) (row_entry c.args.w.now) c.args.a) front zeros new
    (length-replicate room exact_zero ∙ ap (λ (n : ℕ). n - c.args.a) c.cells.ensures.value) (long ∙ ap length all)
    (λ i less. c.fall.ensures.before i (omega (arith, base, less)) ∙ ap (λ (xs : List Enclosure). get_or xs i exact_zero) lent)
    (λ i less. ap (λ (n : ℕ). get_or new (n + i) exact_zero) (sym base) ∙ c.fall.ensures.row i less)
