use Rattle.std.proofs.Common.{◌≡◌, ◌-◌, ◌*◌, ◌++◌, codes}
use Rattle.std.specs.List.{flat_map, range_with_len}
use Rattle.cg_writing.specs.Text.{line}
use Rattle.cg_gen.specs.Draws.{after}
use Rattle.cg_gen.specs.Texts.{drawn_row}
use Rattle.cg_gen.proofs.curve.curve_text.Given as goal

abbrev pub invariant-loop-i : goal.invariant-loop-i
invariant-loop-i l = record {
  text : l.text.items ≡ line 0 (codes "# generated") ++ flat_map (λ i. drawn_row (3000 - 10 * i) (after l.fn.draws (2 * i))) (range_with_len 0 l.i);
  draws : l.draws ≡ after l.fn.draws (2 * l.i);
}
