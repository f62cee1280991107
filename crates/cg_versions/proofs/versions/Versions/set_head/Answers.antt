use Rattle.std.proofs.Common.{◌≡◌, ◌<◌, refl, sym, map, length, None}
use Rattle.cg_sharing.specs.Versions.{head_of}
use Rattle.cg_versions.specs.Plain.{head_in, version_in}
use Rattle.cg_versions.proofs.HeadLemmas.{head-lookup, with_head-set, with_head-none, known-with_head}
use Rattle.cg_versions.proofs.versions.Versions.set_head.Goals as goal

pub returns-in_default : goal.returns-in_default
returns-in_default c =
    let entries = c.self.inside.heads.entries in
    let none : head_of c.args.name.now (map head_in entries) ≡ None =
    rw (head-lookup c.args.name.now entries, ← c.text.ensures.text) (sym (c.in_default.ensures {u = tt}).value) in
    rw (c.get_mut.follows.holds-at-none, ← c.self.view_is, with_head-none c.args.name.now c.args.number (map head_in entries) none) refl

pub invariant_of-self-2 : goal.invariant_of-self-2
invariant_of-self-2 c =
    let entries = c.self.inside.heads.entries in
    let less : c.args.number < length (map version_in c.self.inside.versions.items) = rw (← c.self.view_is) at c.requires in
    rw ((c.get_mut.follows.holds c.args.number).0, with_head-set c.text.result.now c.args.number entries) (record {
      few = c.self.invariant.few;
      parents = c.self.invariant.parents;
      heads_known = known-with_head _ c.args.number c.text.result.now (map head_in entries) less c.self.invariant.heads_known;
    })

pub returns : goal.returns
returns c =
    let entries = c.self.inside.heads.entries in
    rw (← c.self.view_is, ← c.text.ensures.text, ← with_head-set c.text.result.now c.args.number entries, ← (c.get_mut.follows.holds c.args.number).0) refl
