use Rattle.std.proofs.Common.{◌≡◌, ◌∙◌, sym, take, arith}
use Rattle.std.specs.List.{All}
use Rattle.std.proofs.lemmas.List.{take_all}
use Rattle.std.proofs.lemmas.List.Elements.{All-more, All-same}
use Rattle.cg_enc.specs.Enclosure.{Enclosure, exact_zero}
use Rattle.cg_table.proofs.LiveLemmas.{none_live}
use Rattle.cg_table.proofs.tri.has_live.Goals as goal
use Rattle.cg_table.proofs.tri.has_live.Goals.{After-loop-e}

pub loop-e-preserved : goal.loop-e-preserved
loop-e-preserved c = All-more (λ (e : Enclosure). e ≡ exact_zero) c.args.row.now c.loop-e.e-index c.e-item.result c.loop-e-test.true c.loop-e.invariant (sym c.e-item.is ∙ c.is_zero.ensures.zero c.if-not-is_zero.false)

-- at the end all of them were looked at
zeros : (c : After-loop-e) → All (λ (e : Enclosure). e ≡ exact_zero) c.args.row.now
zeros c = All-same (λ (e : Enclosure). e ≡ exact_zero) c.args.row.now (take c.loop-e.e-index c.args.row.now) (sym (take_all c.loop-e.e-index c.args.row.now (omega arith))) c.loop-e.invariant

pub returns-clause-value : goal.returns-clause-value
returns-clause-value c = sym (none_live c.args.row.now (zeros c))

pub returns-clause-zeros : goal.returns-clause-zeros
returns-clause-zeros c = λ _. zeros c
