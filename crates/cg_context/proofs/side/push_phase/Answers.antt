use Rattle.std.proofs.Common.{◌≡◌, ℕ, ◌+◌, ◌-◌, ◌++◌, ◌∙◌, List, length, get_or, ap, sym, arith}
use Rattle.std.proofs.lemmas.List.{get_or-append-add, length-append}
use Rattle.std.proofs.lemmas.List.FromFn.{get_or-map-range_with_len, length-map-range_with_len}
use Rattle.cg_enc.specs.Enclosure.{Enclosure, exact_zero}
use Rattle.cg_table.specs.Table.{entry, row}
use Rattle.cg_table.proofs.JoinLemmas.{written}
use Rattle.cg_context.specs.Formulas.{into_phase_entry}
use Rattle.cg_context.proofs.PhaseLemmas.{own-term}
use Rattle.cg_context.proofs.RowLemmas.{row-behind}
use Rattle.cg_context.proofs.side.push_phase.Goals as goal

pub add_later-requires-clause-width : goal.add_later-requires-clause-width
add_later-requires-clause-width g c =
    let cells : ℕ = c.args.x.now.cells in
    let front = c.args.entries.now.items in
    let own : List Enclosure = row cells (own-term c.args.x.now c.args.others.now) c.args.a in
    let lent : c.deref_mut.result.now ≡ front ++ own = c.deref_mut.ensures.value ∙ c.in_ok-push_own.ensures.row in
    omega (arith, ap length lent, length-append front own, length-map-range_with_len (own-term c.args.x.now c.args.others.now c.args.a) c.args.a (cells - c.args.a), c.len-base.ensures)

pub add_later-requires-clause-own : goal.add_later-requires-clause-own
add_later-requires-clause-own g c = λ d le less.
    let x = c.args.x.now in
    let q = c.args.others.now in
    let front = c.args.entries.now.items in
    let own : List Enclosure = row x.cells (own-term x q) c.args.a in
    let base : c.len-base.result ≡ length front = omega (arith, c.len-base.ensures) in
    rw (c.deref_mut.ensures.value, c.in_ok-push_own.ensures.row, base)
    (get_or-append-add front own (d - c.args.a) exact_zero ∙ get_or-map-range_with_len (own-term x q c.args.a) c.args.a (x.cells - c.args.a) (d - c.args.a) d exact_zero (omega (arith, le, less)) (omega (arith, le)))

pub returns-clause-row : goal.returns-clause-row
returns-clause-row g c =
    let x = c.args.x.now in
    let q = c.args.others.now in
    let a : ℕ = c.args.a in
    let front = c.args.entries.now.items in
    let own : List Enclosure = row x.cells (own-term x q) a in
    let new = c.add_later.new.sums in
    let base : c.len-base.result ≡ length front = omega (arith, c.len-base.ensures) in
    let all : c.push_own.new.entries.items ≡ front ++ own = c.in_ok-push_own.ensures.row in
    let lent : c.deref_mut.result.now ≡ front ++ own = c.deref_mut.ensures.value ∙ all in
    let long : length new ≡ length c.push_own.new.entries.items = c.add_later.ensures.width ∙ ap length c.deref_mut.ensures.value in
    written new c.push_own.new.entries.items c.push_own.new.entries.len long (omega arith)
    ∙ row-behind x.cells a (into_phase_entry x.cells (entry x) (entry q) a) front own new (length-map-range_with_len (own-term x q a) a (x.cells - a))
    (long ∙ ap length all) (λ i less. c.add_later.ensures.before i (omega (arith, base, less)) ∙ ap (λ (xs : List Enclosure). get_or xs i exact_zero) lent)
    (λ i less. ap (λ (n : ℕ). get_or new (n + i) exact_zero) (sym base) ∙ c.add_later.ensures.row i less)
