use Rattle.std.proofs.Common.{◌∙◌, sym, refl}
use Rattle.std.proofs.lemmas.Bool.{false≢true}
use Rattle.std.specs.Arc.{arc_value}
use Rattle.cg_cache.specs.Slots.{held_in}
use Rattle.cg_cache.proofs.FoundLemmas.{not_ready}
use Rattle.cg_cache.proofs.ViewLemmas.{used_after}
use Rattle.cg_cache.proofs.cache.Cache.use_ready.Goals as goal

pub unreachable-requires : goal.unreachable-requires
unreachable-requires g c =
    false≢true (sym (not_ready _ c.slot_in.ensures.cache c.args.code.now (c.in_default.ensures.none refl)) ∙ c.requires)

pub invariant_of-self : goal.invariant_of-self
invariant_of-self g c =
    let found = rw (← c.self.view_is) at c.in-Some.ensures.found in
    (used_after (held_in g.P.Payload.code_of g.P.Payload.origin_of) (arc_value c.self.inside.origin) c.self.inside.rings c.move_front.new.rings c.self.inside.entries.items c.self.invariant c.in-Some.slot c.args.code.now found.1 found.2 c.move_front.ensures.lists c.move_front.ensures.apart).0

pub returns-clause-used : goal.returns-clause-used
returns-clause-used g c =
    let found = rw (← c.self.view_is) at c.in-Some.ensures.found in
    rw (← c.self.view_is) (used_after (held_in g.P.Payload.code_of g.P.Payload.origin_of) (arc_value c.self.inside.origin) c.self.inside.rings c.move_front.new.rings c.self.inside.entries.items c.self.invariant c.in-Some.slot c.args.code.now found.1 found.2 c.move_front.ensures.lists c.move_front.ensures.apart).1
