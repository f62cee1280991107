use Rattle.std.proofs.Common.{◌≡◌, ◌*◌, length, ap, refl, get_or, arith, ◌^◌, ◌++◌, ◌∷◌, [], ◌∙◌, ap₂, sym, subst, zero-add}
use Rattle.std.specs.List.{All}
use Rattle.std.proofs.lemmas.List.Elements.{All-push}
use Rattle.std.proofs.lemmas.List.FromFn.{map-range_with_len_more}
use Rattle.cg_enc.specs.Enclosure.{IsExponent}
use Rattle.cg_table.proofs.ReachLemmas.{IsExponent-more, greatest_reach-least}
use Rattle.cg_table.proofs.PlaceLemmas.{start_twice}
use Rattle.cg_table.specs.Table.{start}
use Rattle.std.proofs.lemmas.List.FromFn.{length-map-range_with_len}
use Rattle.cg_bench.specs.Fold.{made}
use Rattle.cg_bench.proofs.fold.table.Goals as goal

pub loop-place-preserved : goal.loop-place-preserved
loop-place-preserved c = record {
  value = c.in_ok-push.ensures.items
      ∙ ap₂ (λ xs x. xs ++ x ∷ []) c.loop-place.invariant.value c.made.ensures.value
      ∙ sym (map-range_with_len_more made 0 c.loop-place.place c.loop-place.place (zero-add c.loop-place.place));
  near = subst (All (λ e. IsExponent (2 ^ 20) e.exp)) (sym c.in_ok-push.ensures.items)
      (All-push (λ e. IsExponent (2 ^ 20) e.exp) c.loop-place.entries.items c.made.result c.loop-place.invariant.near c.made.ensures.near);
}

pub of_entries-requires-clause-count : goal.of_entries-requires-clause-count
of_entries-requires-clause-count c =
    let all : c.loop-place.place ≡ start c.args.cells c.args.cells = omega (arith, c.start-place-end.ensures) in
    omega (arith, ap length c.loop-place.invariant.value, length-map-range_with_len made 0 c.loop-place.place, all, start_twice c.args.cells c.args.cells 0 (omega arith))

pub of_entries-requires-clause-near : goal.of_entries-requires-clause-near
of_entries-requires-clause-near c = λ k d less. IsExponent-more (get_or c.loop-place.entries.items k d).exp (2 ^ 20) (2 ^ 60) (omega arith) (c.loop-place.invariant.near k d less)

pub returns-clause-value : goal.returns-clause-value
returns-clause-value c =
    let all : c.loop-place.place ≡ start c.args.cells c.args.cells = omega (arith, c.start-place-end.ensures) in
    c.of_entries.ensures ∙ rw (c.loop-place.invariant.value, all) refl

pub returns-clause-reach : goal.returns-clause-reach
returns-clause-reach c =
    rw c.of_entries.ensures (greatest_reach-least c.loop-place.entries.items 1
    (λ k d less. IsExponent-more (get_or c.loop-place.entries.items k d).exp (2 ^ 20) (1 * 2 ^ 31) (omega arith) (c.loop-place.invariant.near k d less)))
