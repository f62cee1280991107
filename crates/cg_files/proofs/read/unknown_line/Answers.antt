use Rattle.cg_files.specs.Inputs.{names_of}
use Rattle.cg_files.proofs.KnownLemmas.{known_without}
use Rattle.cg_files.proofs.read.unknown_line.Goals as goal

pub returns-else-is_known-clause-none : goal.returns-else-is_known-clause-none
returns-else-is_known-clause-none c =
    known_without (names_of c.args.curves.now) c.args.model.now.curve c.curve_line.result (c.curve_line.ensures.named c.args.model.now c.requires.spelled)
