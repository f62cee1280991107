use Rattle.std.proofs.Common.{[], ◌∷◌, map, sym, ap, ◌∙◌, append_assoc}
use Rattle.std.proofs.lemmas.List.{map-append}
use Rattle.cg_sharing.specs.Versions.{State}
use Rattle.cg_versions.specs.Plain.{start_in, with_model}
use Rattle.cg_versions.proofs.StartLemmas.{fresh-next, start-more}
use Rattle.cg_versions.proofs.versions.Versions.new.Goals as goal

pub begin-requires-clause-fresh : goal.begin-requires-clause-fresh
begin-requires-clause-fresh c =
    let before = map start_in c.loop-name.yielded in
    let rest = map start_in c.next.new.self.rest.items in
    let whole = rw ((c.in-Some.ensures {u = tt}).steps.0, map-append) at c.loop-name.invariant.whole in
    let start = rw (← whole) at c.into_models-name-items.ensures.start in
    rw c.loop-name.invariant.so_far (fresh-next before (start_in c.in-Some.field-0) rest start)

pub loop-name-preserved : goal.loop-name-preserved
loop-name-preserved c =
    let whole = rw ((c.in-Some.ensures {u = tt}).steps.0) at c.loop-name.invariant.whole in
    record {
      whole = rw (append_assoc c.loop-name.yielded (c.in-Some.field-0 ∷ []) c.next.new.self.rest.items) whole;
      so_far = rw map-append ((c.in_ok-begin.ensures {u = tt}
          ∙ ap (λ (state : State). with_model state c.in-Some.field-0.name c.in-Some.field-0.tree) c.loop-name.invariant.so_far)
          ∙ sym (start-more (map start_in c.loop-name.yielded) (start_in c.in-Some.field-0)));
    }
