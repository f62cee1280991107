use Rattle.std.proofs.Common.{subst, sym, ap, ◌∙◌}
use Rattle.cg_meaning.specs.Tree.{Tree}
use Rattle.cg_model.specs.Node.{tree_of, items_of}
use Rattle.cg_model.proofs.NodeLemmas.{trees_of-all}
use Rattle.cg_grammar.specs.Text.{SpellsStatement}
use Rattle.cg_cql.specs.View.{state_of}
use Rattle.cg_cql.proofs.ReaderLemmas.{first-of-one, some-of-one}
use Rattle.cg_grammar.proofs.StatementLemmas.{reads-statement}
use Rattle.cg_cql.proofs.model.read_statement.Goals as goal

pub get-requires : goal.get-requires
get-requires c =
    let r = reads-statement c.args.bytes.now (state_of c.in-Ok.reader) c.in-Ok.ensures.found in
    some-of-one (items_of c.in-Ok.reader.members) r.0 (sym (trees_of-all c.in-Ok.reader.members) ∙ r.1)

pub returns-in-Ok-copy-clause-ok : goal.returns-in-Ok-copy-clause-ok
returns-in-Ok-copy-clause-ok c =
    let r = reads-statement c.args.bytes.now (state_of c.in-Ok.reader) c.in-Ok.ensures.found in
    let one = first-of-one (items_of c.in-Ok.reader.members) r.0 c.get.result.now (sym (trees_of-all c.in-Ok.reader.members) ∙ r.1) c.get.ensures in
    subst (λ (t : Tree). SpellsStatement c.args.bytes.now t) (sym (ap tree_of c.in-Ok-copy.ensures ∙ one)) r.2
