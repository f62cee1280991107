use Rattle.std.proofs.Common.{◌≡◌, ◌∙◌, sym, rules}
use Rattle.cg_curve.specs.Reading.{first_row}
use Rattle.cg_curve.proofs.FieldLemmas.{row_of_is_first}
use Rattle.cg_curve.proofs.row.row_of.Goals as goal

pub returns : goal.returns
unfolding first_row
returns c = let h : c.whole_row.result ≡ first_row c.args.line.now = search rules in h ∙ sym (row_of_is_first c.args.line.now)
