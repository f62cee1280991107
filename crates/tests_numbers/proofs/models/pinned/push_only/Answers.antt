use Rattle.std.proofs.Common.{◌^◌, sym, subst}
use Rattle.std.specs.List.{All}
use Rattle.std.proofs.lemmas.List.Elements.{All-push}
use Rattle.cg_enc.specs.Enclosure.{IsExponent}
use Rattle.tests_numbers.proofs.models.pinned.push_only.Goals as goal

pub loop-b-preserved : goal.loop-b-preserved
loop-b-preserved c = subst (All (λ e. IsExponent (2 ^ 60) e.exp)) (sym c.in_ok-push.ensures.items)
    (All-push (λ e. IsExponent (2 ^ 60) e.exp) c.loop-b.entries.items c.kept.result c.loop-b.invariant (c.kept.ensures c.get.ensures.near))
