use Rattle.std.proofs.Common.{◌≡◌, ◌*◌, map, vec_items}
use Rattle.std.specs.List.{range_with_len}
use Rattle.cg_gen.specs.Draws.{after}
use Rattle.cg_gen.specs.Texts.{script_text}
use Rattle.cg_gen.proofs.inputs.scripts.Given as goal

abbrev pub invariant-loop-k : goal.invariant-loop-k
invariant-loop-k l = record {
  texts : map vec_items l.scripts.items ≡ map (λ k. script_text k (after l.fn.draws (3 * k))) (range_with_len 0 l.k);
  draws : l.draws ≡ after l.fn.draws (3 * l.k);
}
