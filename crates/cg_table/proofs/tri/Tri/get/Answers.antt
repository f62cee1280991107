use Rattle.std.proofs.Common.{◌≡◌, ◌∙◌, ap, sym, subst, arith}
use Rattle.cg_enc.specs.Enclosure.{IsEnclosure}
use Rattle.cg_table.specs.Live.{live_rows}
use Rattle.cg_table.specs.Table.{Table, IsTable}
use Rattle.cg_table.proofs.LiveLemmas.{dead-zero, entry-near, kept-entry, kept-inside}
use Rattle.cg_table.proofs.WithinLemmas.{entry-within}
use Rattle.cg_table.proofs.tri.Tri.get.Goals as goal

pub returns-then-a-self-clause-value : goal.returns-then-a-self-clause-value
returns-then-a-self-clause-value c =
    let live : c.self.inside.live ≡ live_rows c.args.self.now = c.self.invariant.2 ∙ ap (λ (t : Table). live_rows t) c.self.view_is in
    c.zero.ensures.value ∙ sym (dead-zero c.args.self.now c.args.a c.args.b (subst IsTable c.self.view_is c.self.invariant.0) (omega (arith, live, c.if-a-self.true)) c.requires.order c.requires.within)

pub place_of-requires-clause-len : goal.place_of-requires-clause-len
place_of-requires-clause-len c =
    let inside = kept-inside c.self.inside.cells c.self.inside.live c.args.a c.args.b c.args.self.now.cells c.self.inside.entries.items c.self.invariant.1 c.requires.order c.requires.within (ap (λ (t : Table). t.cells) c.self.view_is) c.if-a-self.false in
    omega (arith, inside, c.len.ensures)

pub index-requires : goal.index-requires
index-requires c =
    let inside = kept-inside c.self.inside.cells c.self.inside.live c.args.a c.args.b c.args.self.now.cells c.self.inside.entries.items c.self.invariant.1 c.requires.order c.requires.within (ap (λ (t : Table). t.cells) c.self.view_is) c.if-a-self.false in
    omega (arith, inside, c.place_of.ensures)

pub returns-clause-value : goal.returns-clause-value
returns-clause-value c =
    let inside = kept-inside c.self.inside.cells c.self.inside.live c.args.a c.args.b c.args.self.now.cells c.self.inside.entries.items c.self.invariant.1 c.requires.order c.requires.within (ap (λ (t : Table). t.cells) c.self.view_is) c.if-a-self.false in
    kept-entry c.args.self.now c.self.inside.cells c.self.inside.entries.items c.place_of.result c.args.a c.args.b c.index.result.now c.self.view_is (omega (arith, inside, c.place_of.ensures)) c.place_of.ensures c.index.ensures

pub returns-clause-valid : goal.returns-clause-valid
returns-clause-valid c =
    let inside = kept-inside c.self.inside.cells c.self.inside.live c.args.a c.args.b c.args.self.now.cells c.self.inside.entries.items c.self.invariant.1 c.requires.order c.requires.within (ap (λ (t : Table). t.cells) c.self.view_is) c.if-a-self.false in
    subst IsEnclosure (sym (kept-entry c.args.self.now c.self.inside.cells c.self.inside.entries.items c.place_of.result c.args.a c.args.b c.index.result.now c.self.view_is (omega (arith, inside, c.place_of.ensures)) c.place_of.ensures c.index.ensures))
    (entry-within c.args.self.now c.args.a c.args.b (subst IsTable c.self.view_is c.self.invariant.0)).valid

pub returns-clause-near : goal.returns-clause-near
returns-clause-near c =
    let inside = kept-inside c.self.inside.cells c.self.inside.live c.args.a c.args.b c.args.self.now.cells c.self.inside.entries.items c.self.invariant.1 c.requires.order c.requires.within (ap (λ (t : Table). t.cells) c.self.view_is) c.if-a-self.false in
    entry-near c.args.self.now c.args.a c.args.b c.index.result.now (subst IsTable c.self.view_is c.self.invariant.0)
    (kept-entry c.args.self.now c.self.inside.cells c.self.inside.entries.items c.place_of.result c.args.a c.args.b c.index.result.now c.self.view_is (omega (arith, inside, c.place_of.ensures)) c.place_of.ensures c.index.ensures)
