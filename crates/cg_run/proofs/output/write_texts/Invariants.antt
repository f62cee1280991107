use Rattle.std.proofs.Common.{◌≡◌, ◌≤◌, map, take, length}
use Rattle.std.specs.List.{concat}
use Rattle.cg_io.specs.Sink.{Takes}
use Rattle.cg_run.proofs.output.write_texts.Given as goal

-- the texts so far were taken
abbrev pub invariant-loop-text : goal.invariant-loop-text
invariant-loop-text g l = record {
  count : l.taken ≡ length (concat (map (λ text. text.items) (take l.text-index l.texts)));
  took : Takes (g.K.Sink.taken l.initial.out) (g.K.Sink.taken l.out) (concat (map (λ text. text.items) (take l.text-index l.texts)));
  later : g.K.Sink.faults l.initial.out ≤ g.K.Sink.faults l.out;
}
