use Rattle.std.proofs.Common.{◌≡◌, ◌-◌, ◌∙◌, ℕ, length, ap, arith}
use Rattle.std.proofs.lemmas.List.{length-replicate}
use Rattle.cg_enc.specs.Enclosure.{exact_zero}
use Rattle.cg_table.specs.Table.{entry}
use Rattle.cg_table.proofs.JoinLemmas.{written}
use Rattle.cg_context.specs.Formulas.{back_entry}
use Rattle.cg_wide.proofs.GatherLemmas.{whole-row}
use Rattle.cg_wide.proofs.items.preceding_row.Goals as goal

pub returns : goal.returns
returns c =
    let new = c.add_columns.new.sums in
    let made = c.in_ok-sums.sums in
    let long : length new ≡ length made.items = c.add_columns.ensures.width ∙ ap length c.deref_mut.ensures.value in
    let wide : length made.items ≡ c.args.v.now.cells - c.args.a =
    ap length c.in_ok-sums.ensures ∙ length-replicate (c.cells.result - c.args.a) exact_zero ∙ ap (λ (n : ℕ). n - c.args.a) c.cells.ensures.value in
    written new made.items made.len long (omega arith)
    ∙ whole-row c.args.v.now.cells c.args.a (back_entry c.args.v.now.cells (entry c.args.v.now) (entry c.args.t.now)) new (long ∙ wide) c.add_columns.ensures.row
