use Rattle.std.proofs.Common.{◌^◌, sym, subst}
use Rattle.std.specs.List.{All}
use Rattle.std.proofs.lemmas.List.Elements.{All-push}
use Rattle.cg_enc.specs.Enclosure.{IsExponent}
use Rattle.tests_numbers.proofs.tables.entries.Goals as goal

pub loop-ends-preserved : goal.loop-ends-preserved
loop-ends-preserved g c = subst (All (λ e. IsExponent (2 ^ 60) e.exp)) (sym c.in_ok-push.ensures.items)
    (All-push (λ e. IsExponent (2 ^ 60) e.exp) c.loop-ends.entries.items c.enc.result c.loop-ends.invariant c.enc.ensures)
