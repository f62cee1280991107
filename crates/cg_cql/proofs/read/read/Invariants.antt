use Rattle.std.proofs.Common.{length}
use Rattle.cg_cql.specs.View.{state_of}
use Rattle.cg_cql.proofs.LoopLemmas.{Follows}
use Rattle.cg_cql.proofs.read.read.Given as goal

abbrev pub invariant-pieces : goal.invariant-pieces
invariant-pieces l = Follows l.fn.base l.fn.bytes l.lexer.line l.lexer.rest.now l.before (state_of l.reader)

abbrev pub decreases-pieces : goal.decreases-pieces
decreases-pieces l = length l.lexer.rest.now
