use Rattle.std.proofs.Common.{◌≡◌, ◌<◌, ◌^◌, map, take, length}
use Rattle.std.specs.List.{concat}
use Rattle.cg_run.proofs.output.fits_usize.Given as goal

-- the bytes of the texts so far
abbrev pub invariant-loop-text : goal.invariant-loop-text
invariant-loop-text l = record {
  count : l.total ≡ length (concat (map (λ text. text.items) (take l.text-index l.texts)));
  fits : l.total < 2 ^ 64;
}
