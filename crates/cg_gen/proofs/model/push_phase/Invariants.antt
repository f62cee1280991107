use Rattle.std.proofs.Common.{◌≡◌, ◌+◌, ◌*◌, ◌++◌, [], codes}
use Rattle.std.specs.List.{flat_map, range_with_len}
use Rattle.cg_writing.specs.Text.{call_text, line, name_text, statement_text}
use Rattle.cg_gen.specs.Draws.{after}
use Rattle.cg_gen.specs.Texts.{drawn_date, numbered}
use Rattle.cg_gen.proofs.model.push_phase.Given as goal

-- the opening and the dates so far
abbrev pub invariant-loop-i : goal.invariant-loop-i
invariant-loop-i l = record {
  text : l.text.items ≡ (l.fn.text.items ++ line 1 (call_text (codes "Phase") (name_text (numbered (codes "p") l.number) []) ++ codes "{"))
      ++ flat_map (λ i. statement_text 2 (drawn_date (10 * l.number + i) l.least (after l.fn.draws (2 * i)))) (range_with_len 0 l.i);
  draws : l.draws ≡ after l.fn.draws (2 * l.i);
}
