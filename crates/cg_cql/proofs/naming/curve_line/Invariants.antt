use Rattle.std.proofs.Common.{length}
use Rattle.cg_cql.proofs.CurveLineLemmas.{Names}
use Rattle.cg_cql.proofs.naming.curve_line.Given as goal

abbrev pub invariant-pieces : goal.invariant-pieces
invariant-pieces l = Names l.fn.bytes l.lexer.line l.lexer.rest.now l.naming

abbrev pub decreases-pieces : goal.decreases-pieces
decreases-pieces l = length l.lexer.rest.now
