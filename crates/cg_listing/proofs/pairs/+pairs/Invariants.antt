use Rattle.std.proofs.Common.{◌≡◌, ◌+◌, ◌-◌, ◌^◌, ◌≤◌, ◌++◌, length, None}
use Rattle.cg_meaning.specs.Tree.{count_all}
use Rattle.cg_meaning.specs.Pairs.{pairs_of_all, pairs_in_sequence}
use Rattle.cg_model.specs.Node.{trees_of}
use Rattle.cg_model.proofs.NodeLemmas.{trees_from}
use Rattle.cg_listing.proofs.pairs.+pairs.Given as goal

-- the pairs so far and those of the members that are left are all
abbrev pub invariant-put_all-loop-node : goal.invariant-put_all-loop-node
invariant-put_all-loop-node l = record {
  fits : length l.pairs.items + count_all (trees_from l.node-items l.node-index) ≤ 2 ^ 64 - 1;
  all : l.pairs.items ++ pairs_of_all l.outer (length l.pairs.items) (trees_from l.node-items l.node-index)
      ≡ l.initial.pairs.items ++ pairs_of_all l.outer (length l.initial.pairs.items) (trees_of l.members);
}

abbrev pub invariant-put_in_sequence-loop-place : goal.invariant-put_in_sequence-loop-place
invariant-put_in_sequence-loop-place l = record {
  fits : length l.pairs.items + count_all (trees_from l.node-items l.place) ≤ 2 ^ 64 - 1;
  all : l.pairs.items ++ pairs_in_sequence l.outer l.before (length l.pairs.items) (trees_from l.node-items l.place)
      ≡ l.initial.pairs.items ++ pairs_in_sequence l.outer None (length l.initial.pairs.items) (trees_of l.members);
}
