use Rattle.std.proofs.Common.{option_map, subst, sym, List}
use Rattle.std.proofs.lemmas.Result.{IfOk-weaker}
use Rattle.cg_meaning.specs.Scene.{scene_of}
use Rattle.cg_enc.specs.Enclosure.{Enclosure}
use Rattle.cg_model.specs.Dating.{dating_of}
use Rattle.cg_like.specs.Cover.{rows_of}
use Rattle.cg_like.specs.Likelihood.{IsLikelihood}
use Rattle.cg_like.proofs.MeasuredLemmas.{on_known_curve}
use Rattle.cg_like.proofs.RowLemmas.{weights-IsLikelihood, weights-HasWeights}
use Rattle.cg_like.proofs.row.weights.Goals as goal

pub returns-clause-encloses : goal.returns-clause-encloses
returns-clause-encloses c =
    let curve = option_map (λ c. c.now) c.args.curve in
    let scene = scene_of c.args.grid.now (rows_of curve) in
    let dating = dating_of c.args.dating.now in
    let all = weights-IsLikelihood scene dating (on_known_curve curve dating c.filled.ensures.known) c.requires.ranged c.requires.covered in
    IfOk-weaker c.filled.result _ _ (λ row is. subst (λ (r : List Enclosure). IsLikelihood scene dating r) (sym is) all) c.filled.ensures.value

pub returns-clause-some : goal.returns-clause-some
returns-clause-some c =
    let curve = option_map (λ c. c.now) c.args.curve in
    let dating = dating_of c.args.dating.now in
    weights-HasWeights (scene_of c.args.grid.now (rows_of curve)) dating (on_known_curve curve dating c.filled.ensures.known) c.requires.ranged c.requires.covered
