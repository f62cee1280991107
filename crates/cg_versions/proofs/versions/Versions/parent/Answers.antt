use Rattle.std.proofs.Common.{◌<◌, sym, ap, ◌∙◌, subst, IfSome, length, map}
use Rattle.std.proofs.lemmas.List.{length-map, get_or-map}
use Rattle.cg_sharing.specs.Versions.{Version}
use Rattle.cg_versions.specs.Plain.{version_in}
use Rattle.cg_versions.proofs.versions.Versions.parent.Goals as goal

pub returns-clause-known : goal.returns-clause-known
returns-clause-known c =
    let v = c.index.result.now in
    let items = c.self.inside.versions.items in
    let less : c.args.number < length (map version_in items) = rw (← c.self.view_is) at c.requires in
    let within : c.args.number < length items = simp length-map at less in
    let h = c.self.invariant.parents c.args.number (version_in v) less in
    let same = get_or-map version_in items c.args.number v (version_in v) within ∙ ap version_in (sym c.index.ensures) in
    rw (← c.self.view_is) (subst (λ (w : Version). IfSome w.parent (λ parent. parent < length (map version_in items))) same h)
