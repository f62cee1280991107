use Rattle.std.proofs.Common.{◌∙◌, sym, ap, Some}
use Rattle.std.proofs.lemmas.Result.{IfOk-weaker}
use Rattle.std.specs.Arc.{arc_value}
use Rattle.cg_rings.specs.declared.which.Which.TheVariants.{Ready}
use Rattle.cg_cache.specs.Slots.{held_in}
use Rattle.cg_cache.proofs.ViewLemmas.{entry_at, not_none, some_of}
use Rattle.cg_cache.proofs.cache.Cache.payload_in.Goals as goal

pub unreachable-requires : goal.unreachable-requires
unreachable-requires g c =
    let f = held_in g.P.Payload.code_of g.P.Payload.origin_of in
    let slot = rw (← c.self.view_is) at c.requires.slot in
    let ready = rw (← c.self.view_is) at c.requires.ready in
    let e = entry_at f (arc_value c.self.inside.origin) c.self.inside.rings c.self.inside.entries.items c.self.invariant c.args.slot c.index.result.now slot c.index.ensures in
    let fits = c.self.invariant.fits c.args.slot Ready ready in
    not_none (λ payload. (g.P.Payload.code_of (arc_value payload), g.P.Payload.origin_of (arc_value payload))) c.index.result.now.payload _ (ap (λ h. h.payload) (sym e) ∙ fits.2) c.in_default.is

pub returns-clause-code : goal.returns-clause-code
returns-clause-code g c =
    let f = held_in g.P.Payload.code_of g.P.Payload.origin_of in
    let slot = rw (← c.self.view_is) at c.requires.slot in
    let ready = rw (← c.self.view_is) at c.requires.ready in
    let e = entry_at f (arc_value c.self.inside.origin) c.self.inside.rings c.self.inside.entries.items c.self.invariant c.args.slot c.index.result.now slot c.index.ensures in
    let fits = c.self.invariant.fits c.args.slot Ready ready in
    let is = some_of (λ payload. (g.P.Payload.code_of (arc_value payload), g.P.Payload.origin_of (arc_value payload))) c.index.result.now.payload c.in-Some.payload _ (ap (λ h. h.payload) (sym e) ∙ fits.2) c.in-Some.is in
    rw (← c.self.view_is) (IfOk-weaker c.try_clone.result _ _ (λ a same. fits.1 ∙ ap (λ code. Some code) (sym (ap (λ v. g.P.Payload.code_of v) same ∙ ap (λ q. q.0) is))) c.try_clone.ensures)

pub returns-clause-origin : goal.returns-clause-origin
returns-clause-origin g c =
    let f = held_in g.P.Payload.code_of g.P.Payload.origin_of in
    let slot = rw (← c.self.view_is) at c.requires.slot in
    let ready = rw (← c.self.view_is) at c.requires.ready in
    let e = entry_at f (arc_value c.self.inside.origin) c.self.inside.rings c.self.inside.entries.items c.self.invariant c.args.slot c.index.result.now slot c.index.ensures in
    let fits = c.self.invariant.fits c.args.slot Ready ready in
    let is = some_of (λ payload. (g.P.Payload.code_of (arc_value payload), g.P.Payload.origin_of (arc_value payload))) c.index.result.now.payload c.in-Some.payload _ (ap (λ h. h.payload) (sym e) ∙ fits.2) c.in-Some.is in
    rw (← c.self.view_is) (IfOk-weaker c.try_clone.result _ _ (λ a same. ap (λ v. g.P.Payload.origin_of v) same ∙ ap (λ q. q.1) is) c.try_clone.ensures)
