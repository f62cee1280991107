use Rattle.std.proofs.Common.{◌≡◌, ◌-◌, ◌∙◌, ℕ, length, ap, arith}
use Rattle.std.proofs.lemmas.List.{length-replicate}
use Rattle.cg_enc.specs.Enclosure.{exact_zero}
use Rattle.cg_table.specs.Formulas.{then_entry}
use Rattle.cg_table.specs.Table.{entry}
use Rattle.cg_table.proofs.JoinLemmas.{written}
use Rattle.cg_table.proofs.LiveLemmas.{live_rows-most}
use Rattle.cg_wide.proofs.GatherLemmas.{whole-row}
use Rattle.cg_wide.proofs.order.joined_row.Goals as goal

pub overflow_sub-cells : goal.overflow_sub-cells
overflow_sub-cells c = omega (arith, c.requires.row, c.cells.ensures.value, live_rows-most c.args.p.now)

pub returns : goal.returns
returns c =
    let new = c.join_row.new.sums in
    let made = c.in_ok-sums.sums in
    let long : length new ≡ length made.items = c.join_row.ensures.width ∙ ap length c.deref_mut.ensures.value in
    let wide : length made.items ≡ c.args.p.now.cells - c.args.a =
    ap length c.in_ok-sums.ensures ∙ length-replicate (c.cells.result - c.args.a) exact_zero ∙ ap (λ (n : ℕ). n - c.args.a) c.cells.ensures.value in
    written new made.items made.len long (omega arith)
    ∙ whole-row c.args.p.now.cells c.args.a (then_entry (entry c.args.p.now) (entry c.args.t.now)) new (long ∙ wide) c.join_row.ensures.row
