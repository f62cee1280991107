use Rattle.cg_io.proofs.ReaderLemmas.{Appends-whole}
use Rattle.cg_io.proofs.file_shelf.append_rest.Goals as goal

pub returns-in-Ok-Whole-clause-appends : goal.returns-in-Ok-Whole-clause-appends
returns-in-Ok-Whole-clause-appends g c =
    Appends-whole c.args.limit c.args.into.now.items c.append_parts.new.into.items c.append_parts.ensures.kept c.append_parts.ensures.within
