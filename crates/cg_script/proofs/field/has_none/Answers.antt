use Rattle.std.proofs.Common.{◌∙◌}
use Rattle.cg_script.proofs.FieldLemmas.{blanks_none}
use Rattle.cg_script.proofs.field.has_none.Goals as goal

pub returns : goal.returns
returns c = c.are_blanks.ensures ∙ blanks_none c.args.bytes.now
