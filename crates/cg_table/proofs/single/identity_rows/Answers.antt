use Rattle.std.proofs.Common.{◌≡◌, ◌∙◌, List, length, ap, arith}
use Rattle.cg_enc.specs.Enclosure.{Enclosure}
use Rattle.cg_table.specs.Formulas.{identity_entry}
use Rattle.cg_table.specs.Live.{identity_rows_entry, identity_rows_of, padded}
use Rattle.cg_table.proofs.FormulaLemmas.{identity-within, identity_rows-within}
use Rattle.cg_table.proofs.LiveLemmas.{identity-rows}
use Rattle.cg_table.proofs.PlaceLemmas.{length-rows}
use Rattle.cg_table.proofs.TableLemmas.{rows-near, table-loss, table-reach}
use Rattle.cg_table.proofs.single.identity_rows.Goals as goal
use Rattle.cg_table.proofs.single.identity_rows.Goals.{After-of_rows}

pub of_rows-requires-clause-count : goal.of_rows-requires-clause-count
of_rows-requires-clause-count c = ap length c.in_ok-entries.ensures ∙ length-rows c.args.cells identity_entry c.args.live

pub of_rows-requires-clause-near : goal.of_rows-requires-clause-near
of_rows-requires-clause-near c = rows-near c.args.cells identity_entry 0 66 c.args.live c.in_ok-entries.entries.items (λ a b le less. identity-within a b) (omega arith) c.in_ok-entries.ensures

-- the value
made : (c : After-of_rows) → c.of_rows.result ≡ identity_rows_of c.args.cells c.args.live
made c = c.of_rows.ensures ∙ ap (λ (es : List Enclosure). padded c.args.cells es) c.in_ok-entries.ensures ∙ identity-rows c.args.cells c.args.live c.requires.within

pub returns-clause-value : goal.returns-clause-value
returns-clause-value c = made c

pub returns-clause-loss : goal.returns-clause-loss
returns-clause-loss c =
    let none = table-loss c.of_rows.result c.args.cells (identity_rows_entry c.args.live) 0 66 (λ a b le less. identity_rows-within c.args.live a b) (made c) in
    omega (arith, none)

pub returns-clause-reach : goal.returns-clause-reach
returns-clause-reach c = table-reach c.of_rows.result c.args.cells (identity_rows_entry c.args.live) 0 66 1 (λ a b le less. identity_rows-within c.args.live a b) (omega arith) (made c)
