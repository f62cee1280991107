use Rattle.std.proofs.Common.{subst, sym}
use Rattle.cg_meaning.specs.Tree.{Chronology}
use Rattle.cg_grammar.specs.Text.{Spells}
use Rattle.cg_cql.specs.View.{state_of}
use Rattle.cg_grammar.proofs.DecidedLemmas.{reads-script}
use Rattle.cg_cql.proofs.ReaderLemmas.{reads-model}
use Rattle.cg_cql.proofs.model.read_model.Goals as goal

pub new-requires : goal.new-requires
new-requires c = let m = reads-model c.args.bytes.now (state_of c.in-Ok.reader) c.in-Ok.ensures.found in record { placed = m.placed; ranged = m.ranged }

pub unreachable-requires : goal.unreachable-requires
unreachable-requires c = let m = reads-model c.args.bytes.now (state_of c.in-Ok.reader) c.in-Ok.ensures.found in let wrong = c.in-Err-new.ensures.within.1 m.limits in absurd cc

pub returns-in-Ok-new-clause-ok : goal.returns-in-Ok-new-clause-ok
returns-in-Ok-new-clause-ok c = subst (λ (x : Chronology). Spells c.args.bytes.now x) (sym c.in-Ok-new.ensures.ok) (reads-script c.args.bytes.now (state_of c.in-Ok.reader) c.in-Ok.ensures.found)
