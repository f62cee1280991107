use Rattle.std.proofs.Common.{◌≢◌, map, arith, length-append}
use Rattle.std.proofs.lemmas.List.{map-append}
use Rattle.std.proofs.lemmas.List.Quantifiers.{all_pairs_push}
use Rattle.cg_sharing.specs.Versions.{StartModel}
use Rattle.cg_versions.specs.Plain.{start_in}
use Rattle.cg_versions.proofs.start.StartModels.push.Goals as goal

pub invariant_of-self-2 : goal.invariant_of-self-2
invariant_of-self-2 c =
    let models = map start_in c.self.inside.models.items in
    let few = rw (← c.self.view_is) at c.requires.few in
    rw ((c.in_ok-push.ensures {u = tt}).items, map-append) (record {
      few = simp length-append (omega (arith, few));
      distinct = all_pairs_push (λ (a b : StartModel). a.name ≢ b.name) models _ c.self.invariant.distinct (rw (← c.self.view_is) at c.requires.fresh);
    })
