use Rattle.std.proofs.Common.{map}
use Rattle.cg_meaning.specs.Scene.{scene_of}
use Rattle.cg_model.specs.Dating.{dating_of}
use Rattle.cg_message.specs.Curve.{rows_at}
use Rattle.cg_message.proofs.LightLemmas.{light-by}
use Rattle.cg_message.proofs.pass.Pass.new.Goals as goal

pub returns-clause-ready : goal.returns-clause-ready
returns-clause-ready c = record {
  some = c.requires.scene.grid.some;
  few = c.requires.scene.grid.few;
  light = light-by (scene_of c.args.grid.now (rows_at c.args.curves.now c.args.curve)) (map dating_of c.args.datings.now) c.weights_enclose.ensures c.requires.scene c.requires.ranged c.requires.covered;
  grid = c.requires.scene.grid;
  curve = c.ranges.curve.fits;
  ranged = c.requires.ranged;
  made = c.requires.made;
}
