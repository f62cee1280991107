use Rattle.std.proofs.Common.{◌≡◌, sym, subst}
use Rattle.cg_code.specs.Content as content
use Rattle.cg_message.specs.Value.{IsRow, message_of}
use Rattle.cg_message.proofs.PassLemmas.{row-part, row-value}
use Rattle.cg_message.proofs.pass.Pass.row.Goals as goal

pub row_in-requires : goal.row_in-requires
row_in-requires c =
    let pass = c.args.self.now in
    let part = row-part pass c.args.number c.args.place c.index-self-number.result c.requires.ready c.requires.row c.in_default.is in
    let found = rw c.in-Some-get.is at c.get.ensures in
    let seen : c.deref.result.now ≡ message_of pass.curves.now (content.Row part.dating) pass.grid pass.curve = cc (found, part.got, c.deref.ensures) in
    subst IsRow (sym (row-value pass part.dating _ _ c.requires.ready part.ranged seen c.body.ensures)) tt

pub unreachable-requires : goal.unreachable-requires
unreachable-requires c =
    let part = row-part c.args.self.now c.args.number c.args.place c.index-self-number.result c.requires.ready c.requires.row c.in_default.is in
    let found = rw c.in-None.is at c.get.ensures in
    cc (found, part.got)

pub returns : goal.returns
returns c =
    let pass = c.args.self.now in
    let part = row-part pass c.args.number c.args.place c.index-self-number.result c.requires.ready c.requires.row c.in_default.is in
    let found = rw c.in-Some-get.is at c.get.ensures in
    let seen : c.deref.result.now ≡ message_of pass.curves.now (content.Row part.dating) pass.grid pass.curve = cc (found, part.got, c.deref.ensures) in
    let value = row-value pass part.dating _ _ c.requires.ready part.ranged seen c.body.ensures in
    cc (value, part.row_is, c.row_in.ensures)
