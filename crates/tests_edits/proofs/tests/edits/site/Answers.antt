use Rattle.std.proofs.Common.{◌∙◌, sym, ap, subst}
use Rattle.cg_meaning.specs.Tree.{Phase}
use Rattle.cg_model.specs.Limits.{AreInPlace, AreInRange}
use Rattle.cg_model.specs.Node.{trees_of}
use Rattle.tests_edits.proofs.tests.edits.site.Goals as goal

pub new-requires-clause-placed : goal.new-requires-clause-placed
new-requires-clause-placed c = subst (λ ts. AreInPlace Phase ts) (sym (ap trees_of c.in_ok-copy.ensures ∙ c.top.ensures.top)) c.top.ensures.placed

pub new-requires-clause-ranged : goal.new-requires-clause-ranged
new-requires-clause-ranged c = subst (λ ts. AreInRange ts) (sym (ap trees_of c.in_ok-copy.ensures ∙ c.top.ensures.top)) c.top.ensures.ranged
