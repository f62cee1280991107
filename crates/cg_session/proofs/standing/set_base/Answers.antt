use Rattle.std.proofs.Common.{◌≡◌, bytes_eq, position, None, Some, sym, ap, ◌∙◌, map}
use Rattle.cg_session.specs.Standing.{base_in}
use Rattle.cg_session.specs.declared.standing.Base.{Base}
use Rattle.cg_session.proofs.BaseLemmas.{with_base-at, with_base-more}
use Rattle.cg_session.proofs.standing.set_base.Goals as goal

pub returns-in-Some : goal.returns-in-Some
returns-in-Some c =
    let at : position (λ (base : Base). bytes_eq c.args.name base.name) c.args.bases.now.items ≡ Some c.in-Some.place = ap (λ bs. position (λ (base : Base). bytes_eq c.args.name base.name) bs) (sym c.deref.ensures.value) ∙ sym c.in-Some.ensures in
    let is = with_base-at c.args.name c.args.version c.args.bases.now.items c.in-Some.place c.index_mut.result.now at in
    rw (← c.index_mut.ensures.value) at is

pub returns-in-None : goal.returns-in-None
returns-in-None c =
    let missing : position (λ (base : Base). bytes_eq c.args.name base.name) c.args.bases.now.items ≡ None = ap (λ bs. position (λ (base : Base). bytes_eq c.args.name base.name) bs) (sym c.deref.ensures.value) ∙ sym c.in-None.ensures in
    ap (λ bs. map base_in bs) c.push_reserved.ensures.items ∙ with_base-more c.args.name c.args.version c.args.bases.now.items missing
