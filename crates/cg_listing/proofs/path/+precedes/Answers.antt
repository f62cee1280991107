use Rattle.std.proofs.Common.{◌≡◌, ◌∷◌, ◌∙◌, sym}
use Rattle.cg_listing.proofs.PathLemmas.{precedes-parting}
use Rattle.cg_listing.proofs.path.+precedes.Goals as goal

pub returns-else-s-t : goal.returns-else-s-t
returns-else-s-t t c =
    let arm = c.in-Some-Some in
    let first : c.args.p.now ≡ arm.s.now ∷ arm.p.now = arm.ensures.cases.0 in
    let second : c.args.q.now ≡ arm.t.now ∷ arm.q.now = arm.ensures'.cases.0 in
    rw (first, second) (c.is_bound.ensures ∙ sym (precedes-parting arm.s.now arm.t.now arm.p.now arm.q.now c.if-s-t.false))
