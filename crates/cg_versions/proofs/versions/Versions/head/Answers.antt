use Rattle.std.proofs.Common.{ℕ, ◌<◌, sym, subst, IfSome, Option, length, map}
use Rattle.cg_versions.specs.Plain.{version_in}
use Rattle.cg_versions.proofs.HeadLemmas.{head-lookup, known-head}
use Rattle.cg_versions.proofs.versions.Versions.head.Goals as goal

pub returns-in-None-clause-head : goal.returns-in-None-clause-head
returns-in-None-clause-head c =
    rw (← c.self.view_is, head-lookup c.args.name.now c.self.inside.heads.entries, ← c.text.ensures.text) (c.in-None.ensures {u = tt}).value

pub returns-in-Some-clause-head : goal.returns-in-Some-clause-head
returns-in-Some-clause-head c =
    rw (← c.self.view_is, head-lookup c.args.name.now c.self.inside.heads.entries, ← c.text.ensures.text) (c.in-Some.ensures {u = tt}).value

pub returns-in-Some-clause-known : goal.returns-in-Some-clause-known
returns-in-Some-clause-known c =
    let found = returns-in-Some-clause-head c in
    rw (← c.self.view_is) (subst (λ (o : Option ℕ). IfSome o (λ v. v < length (map version_in c.self.inside.versions.items))) (sym (rw (← c.self.view_is) at found)) (known-head _ c.args.name.now _ c.self.invariant.heads_known))
