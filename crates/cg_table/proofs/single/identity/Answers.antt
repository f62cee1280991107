use Rattle.std.proofs.Common.{◌≡◌, ◌∙◌, arith, refl}
use Rattle.cg_table.specs.Exact.{exact_identity}
use Rattle.cg_table.specs.Formulas.{identity_entry, identity_of}
use Rattle.cg_table.proofs.FormulaLemmas.{identity-within, identity-encloses}
use Rattle.cg_table.proofs.PlaceLemmas.{count_rows}
use Rattle.cg_table.proofs.TableLemmas.{rows-near, table-loss, table-reach, table-encloses}
use Rattle.cg_table.proofs.single.identity.Goals as goal
use Rattle.cg_table.proofs.single.identity.Goals.{After-of_entries}

pub of_entries-requires-clause-count : goal.of_entries-requires-clause-count
of_entries-requires-clause-count c = count_rows c.args.cells identity_entry c.in_ok-entries.entries.items c.args.cells refl c.in_ok-entries.ensures

pub of_entries-requires-clause-near : goal.of_entries-requires-clause-near
of_entries-requires-clause-near c = rows-near c.args.cells identity_entry 0 66 c.args.cells c.in_ok-entries.entries.items (λ a b le less. identity-within a b) (omega arith) c.in_ok-entries.ensures

-- the value
made : (c : After-of_entries) → c.of_entries.result ≡ identity_of c.args.cells
made c = c.of_entries.ensures ∙ rw (c.in_ok-entries.ensures) refl

pub returns-clause-encloses : goal.returns-clause-encloses
returns-clause-encloses c = table-encloses c.of_entries.result c.args.cells identity_entry exact_identity 1 (λ a b le less. identity-encloses a b) (made c)

pub returns-clause-loss : goal.returns-clause-loss
returns-clause-loss c = let none = table-loss c.of_entries.result c.args.cells identity_entry 0 66 (λ a b le less. identity-within a b) (made c) in omega (arith, none)

pub returns-clause-reach : goal.returns-clause-reach
returns-clause-reach c = table-reach c.of_entries.result c.args.cells identity_entry 0 66 1 (λ a b le less. identity-within a b) (omega arith) (made c)
