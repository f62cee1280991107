use Rattle.cg_grammar.proofs.CurveLineLemmas.{each-curve-line}
use Rattle.cg_grammar.proofs.laws.each_file_has_one_curve_line.Goals as goal

pub returns : goal.returns
returns c = each-curve-line
