use Rattle.std.proofs.Common.{◌≡◌, take, vec_items}
use Rattle.std.specs.List.{flat_map}
use Rattle.cg_wide.proofs.terms.joined.Given as goal

abbrev pub invariant-loop-row : goal.invariant-loop-row
invariant-loop-row l = l.entries.items ≡ flat_map vec_items (take l.row-index l.rows)
