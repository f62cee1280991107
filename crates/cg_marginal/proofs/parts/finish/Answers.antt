use Rattle.std.proofs.Common.{◌≡◌, ◌↔◌, List, sym, refl}
use Rattle.std.specs.List.{All}
use Rattle.std.proofs.lemmas.Result.{IfOk-weaker}
use Rattle.cg_enc.specs.Enclosure.{Enclosure, IsZero}
use Rattle.cg_marginal.specs.declared.marginal.Marginal.{Marginal}
use Rattle.cg_marginal.specs.declared.marginal.Marginal.TheVariants.{Impossible, Pairs}
use Rattle.cg_marginal.specs.Finished.{finished}
use Rattle.cg_marginal.specs.Marginal.{pairs_of}
use Rattle.cg_marginal.proofs.FinishedLemmas.{finished-impossible, impossible-finished, finished-told, finished-length}
use Rattle.cg_marginal.proofs.parts.finish.Goals as goal

impossible : (row : List Enclosure) (m : Marginal) → pairs_of m ≡ finished row → (m ≡ Impossible) ↔ All IsZero row
impossible row Impossible e = (λ _. impossible-finished row (sym e), λ _. refl)
impossible row (Pairs pairs) e = (λ same. absurd (cc), λ zeros. let none = finished-impossible row zeros in absurd (cc))

pub returns-clause-cells : goal.returns-clause-cells
returns-clause-cells c = IfOk-weaker c.shares.result _ _ (λ m e. rw e (finished-length c.args.n.now)) c.shares.ensures.value

pub returns-clause-impossible : goal.returns-clause-impossible
returns-clause-impossible c = IfOk-weaker c.shares.result _ _ (impossible c.args.n.now) c.shares.ensures.value

pub returns-clause-holds : goal.returns-clause-holds
returns-clause-holds c = λ x d some h. IfOk-weaker c.shares.result _ _
    (λ m e. rw e (finished-told c.args.n.now x d c.shares.ensures.entries.valid c.requires.few c.requires.loss some h)) c.shares.ensures.value
