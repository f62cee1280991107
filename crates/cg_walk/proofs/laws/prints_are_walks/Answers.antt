use Rattle.std.proofs.Common.{List, [], subst, append-nil}
use Rattle.cg_walk.specs.Walk.{Step, Runs, wants}
use Rattle.cg_walk.proofs.WalkLemmas.{walk_is}
use Rattle.cg_walk.proofs.GetsLemmas.{walk_runs}
use Rattle.cg_walk.proofs.laws.prints_are_walks.Goals as goal

pub returns : goal.returns
returns c = λ gets steps.
    let R : List Step → Type 0 = λ l. Runs (wants gets []) l [] in
    ((λ runs. walk_is gets steps runs), (λ walk. subst R (append-nil steps) (walk_runs gets steps walk)))
