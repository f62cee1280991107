use Rattle.std.proofs.Common.{◌≡◌, ◌∙◌, IfOk, ap, subst}
use Rattle.cg_table.specs.Table.{Table}
use Rattle.cg_context.specs.Formulas.{into_sequence_of, root_context}
use Rattle.cg_bench.proofs.fold.context.Goals as goal

pub returns-clause-value : goal.returns-clause-value
returns-clause-value g c =
    subst (λ (t : Table). IfOk c.into_sequence.result (λ x. x ≡ into_sequence_of c.args.made.now t)) (c.in_ok-tree.ensures.value ∙ ap root_context c.cells.ensures.value) c.into_sequence.ensures.value
