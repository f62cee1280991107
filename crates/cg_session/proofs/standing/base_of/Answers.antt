use Rattle.std.proofs.Common.{sym}
use Rattle.cg_session.proofs.BaseLemmas.{head_of-at, head_of-missing}
use Rattle.cg_session.proofs.standing.base_of.Goals as goal

pub returns-in-Some : goal.returns-in-Some
returns-in-Some c = sym (head_of-at c.args.name.now c.args.bases.now c.in-Some.place c.index-bases-place.result (sym c.in-Some.ensures))

pub returns-in-None : goal.returns-in-None
returns-in-None c = sym (head_of-missing c.args.name.now c.args.bases.now (sym c.in-None.ensures))
