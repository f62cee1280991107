use Rattle.cg_meaning.specs.Tree.{datings_of, root_of}
use Rattle.cg_sharing.specs.Course.{scene_by}
use Rattle.cg_sharing.proofs.CoverLemmas.{all-covered}
use Rattle.cg_session.specs.Calibration.{calibration_of}
use Rattle.cg_session.proofs.search.event_in.Goals as goal

pub returns-in-Ok-clause-covered : goal.returns-in-Ok-clause-covered
returns-in-Ok-clause-covered c =
    all-covered (scene_by (calibration_of c.args.curves.now) c.args.model.now c.args.grid.now) (datings_of (root_of c.args.model.now)) c.in-Ok.ensures.ok
