use Rattle.std.proofs.Common.{◌≡◌, ◌∙◌, ℕ, ap, ap₂, refl, sym}
use Rattle.cg_table.specs.Table.{Table}
use Rattle.cg_context.specs.Formulas.{back_of, into_sequence_of, root_context}
use Rattle.cg_bench.specs.declared.call.Call.{Call}
use Rattle.cg_bench.specs.Fold.{called, check_of, made_context, made_table}
use Rattle.cg_bench.proofs.fold.counted.Goals as goal

-- the context of a table that is made
context-made : (context made : Table) (cells : ℕ) → context ≡ into_sequence_of made (root_context made.cells) → made ≡ made_table cells → context ≡ made_context cells
context-made context made cells is e = is ∙ ap (λ (t : Table). into_sequence_of t (root_context t.cells)) e

-- the check sum of what a call gives
check-called : (call one : Call) (cells sum : ℕ) (t : Table) → call ≡ one → t ≡ called one cells → (called one cells).cells ≡ cells → sum ≡ check_of t t.cells → sum ≡ check_of (called call cells) cells
check-called call one cells sum t is gives all e =
    e ∙ ap (λ (u : Table). check_of u u.cells) gives ∙ ap (check_of (called one cells)) all ∙ sym (ap (λ (c : Call). check_of (called c cells) cells) is)

pub returns-in-Back : goal.returns-in-Back
returns-in-Back g c =
    let made = c.in_ok-made.ensures.value in
    let context = context-made c.in_ok-context-in-Back.context c.in_ok-made.made c.args.cells c.in_ok-context-in-Back.ensures.value made in
    check-called c.args.call _ c.args.cells c.check-in-Back.result _ c.in-Back.is (c.table-in-Back.ensures ∙ c.in_ok-back-in-Back.ensures.value ∙ ap₂ back_of context made) refl c.check-in-Back.ensures

pub returns : goal.returns
returns g c =
    let made = c.in_ok-made.ensures.value in
    let context = context-made c.in_ok-context-in-IntoSequence.context c.in_ok-made.made c.args.cells c.in_ok-context-in-IntoSequence.ensures.value made in
    check-called c.args.call _ c.args.cells c.check-in-IntoSequence.result _ c.in-IntoSequence.is (c.table-in-IntoSequence.ensures ∙ c.in_ok-into_sequence-in-IntoSequence.ensures.value ∙ ap₂ into_sequence_of made context) refl c.check-in-IntoSequence.ensures
