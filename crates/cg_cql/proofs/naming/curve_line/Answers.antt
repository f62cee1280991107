use Rattle.std.proofs.Common.{sym, ◌∙◌}
use Rattle.cg_token.specs.View.{kind_of}
use Rattle.cg_grammar.proofs.CurveLineLemmas.{line-where-curve}
use Rattle.cg_cql.proofs.LoopLemmas.{piece-shorter}
use Rattle.cg_cql.proofs.CurveLineLemmas.{names-begin, names-on, names-end}
use Rattle.cg_cql.proofs.naming.curve_line.Goals as goal

pub pieces-init : goal.pieces-init
pieces-init c = names-begin c.args.bytes.now _ _ c.new-lexer.ensures.line c.new-lexer.ensures.rest

pub returns-then-is_last-clause-line : goal.returns-then-is_last-clause-line
returns-then-is_last-clause-line c =
    let l = c.pieces in
    let n = c.next-token in
    rw c.line.ensures (names-end c.args.bytes.now l.lexer.line l.lexer.rest.now l.naming c.after-naming.result (kind_of n.result) l.invariant n.ensures.kind c.after-naming.ensures (sym c.is_last.ensures ∙ c.if-is_last.true))

pub returns-then-is_last-clause-named : goal.returns-then-is_last-clause-named
returns-then-is_last-clause-named c = λ chronology spelled. line-where-curve c.args.bytes.now c.line.result chronology (returns-then-is_last-clause-line c) spelled

pub pieces-smaller : goal.pieces-smaller
pieces-smaller c =
    let l = c.pieces in
    let n = c.next-token in
    piece-shorter l.lexer.rest.now (kind_of n.result) n.ensures.kind (sym c.is_last.ensures ∙ c.if-is_last.false) n.new.self.rest.now n.ensures.rest

pub pieces-preserved : goal.pieces-preserved
pieces-preserved c =
    let l = c.pieces in
    let n = c.next-token in
    names-on c.args.bytes.now l.lexer.line l.lexer.rest.now l.naming c.after-naming.result (kind_of n.result) l.invariant n.ensures.kind c.after-naming.ensures (sym c.is_last.ensures ∙ c.if-is_last.false)
    n.new.self.line n.new.self.rest.now n.ensures.line n.ensures.rest n.ensures.kept
