use Rattle.cg_like.proofs.MeasuredLemmas.{on_any_curve}
use Rattle.cg_like.proofs.RowLemmas.{weights-IsLikelihood, weights-HasWeights}
use Rattle.cg_like.proofs.laws.weights_enclose.Goals as goal

pub returns : goal.returns
returns c = λ scene dating is ranged covered.
    let curve = on_any_curve scene.curve dating is.curve in
    (weights-IsLikelihood scene dating curve ranged covered, weights-HasWeights scene dating curve ranged covered)
