use Rattle.std.proofs.Common.{◌∙◌, sym, ap, subst}
use Rattle.cg_meaning.specs.Tree.{Phase}
use Rattle.cg_model.specs.Limits.{AreInPlace, AreInRange}
use Rattle.cg_model.specs.Node.{trees_of}
use Rattle.cg_model.proofs.PushLemmas.{AreInPlace-trees_with, AreInRange-trees_with, IsInPlace-Leaf, IsInRange-Leaf}
use Rattle.tests_chronology.proofs.tests.site.model.Goals as goal

pub new-requires-clause-placed : goal.new-requires-clause-placed
new-requires-clause-placed c =
    let read = subst (λ ts. AreInPlace Phase ts) (sym (ap trees_of c.in_ok-top.ensures ∙ c.top.ensures.top)) c.top.ensures.placed in
    rw c.in_ok-push.ensures.trees (AreInPlace-trees_with Phase (trees_of c.in_ok-top.top) _ read (IsInPlace-Leaf Phase _ _))

pub new-requires-clause-ranged : goal.new-requires-clause-ranged
new-requires-clause-ranged c =
    let read = subst (λ ts. AreInRange ts) (sym (ap trees_of c.in_ok-top.ensures ∙ c.top.ensures.top)) c.top.ensures.ranged in
    rw c.in_ok-push.ensures.trees (AreInRange-trees_with (trees_of c.in_ok-top.top) _ read (IsInRange-Leaf _ _ tt))
