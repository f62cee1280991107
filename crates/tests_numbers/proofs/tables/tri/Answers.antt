use Rattle.std.proofs.Common.{arith}
use Rattle.tests_numbers.proofs.tables.tri.Goals as goal

pub of_entries-made-requires-clause-count : goal.of_entries-made-requires-clause-count
of_entries-made-requires-clause-count g c = omega arith

pub of_entries-made-requires-clause-near : goal.of_entries-made-requires-clause-near
of_entries-made-requires-clause-near g c = c.in_ok-entries.ensures
