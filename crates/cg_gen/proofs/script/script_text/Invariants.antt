use Rattle.std.proofs.Common.{◌≡◌, ◌+◌, ◌*◌, ◌++◌, codes}
use Rattle.std.specs.List.{flat_map, range_with_len}
use Rattle.cg_gen.specs.Texts.{print_line}
use Rattle.cg_gen.proofs.script.script_text.Given as goal

abbrev pub invariant-loop-i : goal.invariant-loop-i
invariant-loop-i l = l.text.items ≡ codes "open main\ngrid 2799 2600\n" ++ flat_map (λ i. print_line (5 * l.k + i)) (range_with_len 0 l.i)
