use Rattle.std.proofs.Common.{◌≡◌, ◌<◌, ◌^◌}
use Rattle.cg_meaning.specs.Pairs.{factorial}
use Rattle.cg_listing.proofs.size.factorial.Given as goal

abbrev pub invariant-loop-done : goal.invariant-loop-done
invariant-loop-done l = record {
  product : l.product ≡ factorial l.done;
  fits : l.product < 2 ^ 128;
}
