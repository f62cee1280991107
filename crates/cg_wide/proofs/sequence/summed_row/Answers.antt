use Rattle.std.proofs.Common.{◌≡◌, ◌-◌, ◌∙◌, ℕ, length, ap, arith}
use Rattle.std.proofs.lemmas.List.{length-replicate}
use Rattle.cg_enc.specs.Enclosure.{exact_zero}
use Rattle.cg_table.specs.Table.{entry}
use Rattle.cg_table.proofs.JoinLemmas.{written}
use Rattle.cg_context.specs.Formulas.{into_sequence_entry}
use Rattle.cg_wide.proofs.GatherLemmas.{whole-row}
use Rattle.cg_wide.proofs.sequence.summed_row.Goals as goal

pub returns : goal.returns
returns c =
    let new = c.add_rows.new.sums in
    let made = c.in_ok-sums.sums in
    let long : length new ≡ length made.items = c.add_rows.ensures.width ∙ ap length c.deref_mut.ensures.value in
    let wide : length made.items ≡ c.args.p.now.cells - c.args.c =
    ap length c.in_ok-sums.ensures ∙ length-replicate (c.cells.result - c.args.c) exact_zero ∙ ap (λ (n : ℕ). n - c.args.c) c.cells.ensures.value in
    written new made.items made.len long (omega arith)
    ∙ whole-row c.args.p.now.cells c.args.c (into_sequence_entry (entry c.args.p.now) (entry c.args.v.now)) new (long ∙ wide) c.add_rows.ensures.row
