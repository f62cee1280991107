use Rattle.std.proofs.Common.{◌≡◌, ℕ, List, ◌∙◌, arith, replicate, refl}
use Rattle.std.proofs.lemmas.Bool.{ne_eqb}
use Rattle.std.proofs.lemmas.List.{get_or-replicate, length-replicate}
use Rattle.cg_enc.specs.Enclosure.{Enclosure, exact_zero}
use Rattle.cg_enc.specs.Rounding.{of_whole}
use Rattle.cg_context.specs.Formulas.{root_entry, row_by}
use Rattle.cg_context.proofs.CallLemmas.{root-within}
use Rattle.cg_context.proofs.RowLemmas.{is-row_by, row-near, oldest-alone}
use Rattle.cg_context.proofs.tree.filled_root.Goals as goal

-- the oldest row of the root's context
whole : (cells : ℕ) (xs : List Enclosure) → xs ≡ replicate cells (of_whole 1) → xs ≡ row_by cells (root_entry 0)
whole cells xs is =
    is ∙ is-row_by cells (root_entry 0) (replicate cells (of_whole 1)) (length-replicate cells (of_whole 1))
    (λ i less. get_or-replicate cells i (of_whole 1) exact_zero less)

pub of_rows-requires-clause-near : goal.of_rows-requires-clause-near
of_rows-requires-clause-near c = row-near c.in_ok-entries.entries.items c.args.cells (root_entry 0) 0 66 (λ b less. root-within 0 b) (omega arith) (whole c.args.cells c.in_ok-entries.entries.items c.in_ok-entries.ensures)

pub returns : goal.returns
returns c =
    c.of_rows.ensures
    ∙ oldest-alone c.args.cells root_entry c.in_ok-entries.entries.items (whole c.args.cells c.in_ok-entries.entries.items c.in_ok-entries.ensures) (λ a b low le less. rw (ne_eqb a 0 (λ e. absurd (omega arith))) refl)
