use Rattle.std.proofs.Common.{◌≡◌, sym, subst}
use Rattle.cg_code.specs.Content as content
use Rattle.cg_message.specs.Value.{IsTable, message_of}
use Rattle.cg_message.proofs.PassLemmas.{table-value}
use Rattle.cg_message.proofs.pass.Pass.table.Goals as goal

pub table_in-requires : goal.table_in-requires
table_in-requires c =
    let pass = c.args.self.now in
    let has = c.requires.table.1 in
    let found = rw c.in-Some.is at c.get.ensures in
    let seen : c.deref.result.now ≡ message_of pass.curves.now (content.Table has.tree) pass.grid pass.curve = cc (found, has.got, c.deref.ensures) in
    subst IsTable (sym (table-value pass has.tree _ _ c.requires.ready has.node seen c.body.ensures)) tt

pub returns : goal.returns
returns c = λ e has.
    let pass = c.args.self.now in
    let found = rw c.in-Some.is at c.get.ensures in
    let seen : c.deref.result.now ≡ message_of pass.curves.now (content.Table has.tree) pass.grid pass.curve = cc (found, has.got, c.deref.ensures) in
    let value = table-value pass has.tree _ _ c.requires.ready has.node seen c.body.ensures in
    cc (value, has.table_is, c.table_in.ensures)
