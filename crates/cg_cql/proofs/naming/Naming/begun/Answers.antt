use Rattle.std.proofs.Common.{sym, ◌∙◌}
use Rattle.cg_token.specs.View.{kind_of}
use Rattle.cg_cql.proofs.CurveLineLemmas.{other-line, word-line}
use Rattle.cg_cql.proofs.naming.Naming.begun.Goals as goal

pub returns-then-is_curve : goal.returns-then-is_curve
returns-then-is_curve c = word-line (kind_of c.args.token) (sym c.is_curve.ensures ∙ c.if-is_curve.true)

pub returns-else-is_curve : goal.returns-else-is_curve
returns-else-is_curve c = other-line (kind_of c.args.token) (sym c.is_curve.ensures ∙ c.if-is_curve.false)
