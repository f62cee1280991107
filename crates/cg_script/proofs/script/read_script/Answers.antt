use Rattle.cg_script.proofs.ScriptLemmas.{bounded_script}
use Rattle.cg_script.proofs.script.read_script.Goals as goal

pub invariant_of-result : goal.invariant_of-result
invariant_of-result c = bounded_script c.args.bytes.now _ c.in_ok-lines_of.ensures.ok

pub returns-clause-bounded : goal.returns-clause-bounded
returns-clause-bounded c = bounded_script c.args.bytes.now _ c.in_ok-lines_of.ensures.ok
