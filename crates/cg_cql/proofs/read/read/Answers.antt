use Rattle.std.proofs.Common.{sym, ◌∙◌}
use Rattle.cg_token.specs.View.{kind_of}
use Rattle.cg_cql.specs.View.{state_of}
use Rattle.cg_grammar.proofs.DecidedLemmas.{begins-at}
use Rattle.cg_cql.proofs.LoopLemmas.{begun-follows, gap-on, token-on, gap-shorter, token-shorter, reads-all, fails-at, follows-sound}
use Rattle.cg_cql.proofs.read.read.Goals as goal

pub pieces-init : goal.pieces-init
pieces-init c =
    begun-follows c.args.base c.args.bytes.now _ _ (state_of c.new-reader.result) c.new-lexer.ensures.line c.new-lexer.ensures.rest c.new-reader.ensures

pub take-requires-clause-sound : goal.take-requires-clause-sound
take-requires-clause-sound c =
    let l = c.pieces in
    follows-sound c.args.base c.args.bytes.now l.lexer.line l.lexer.rest.now l.before (state_of l.reader) (begins-at c.args.base c.requires.start) l.invariant

pub returns-in-Err-clause-refused : goal.returns-in-Err-clause-refused
returns-in-Err-clause-refused c =
    let l = c.pieces in
    let n = c.next-token in
    rw c.told.ensures (fails-at c.args.base c.args.bytes.now l.lexer.line l.lexer.rest.now l.before (state_of l.reader) (kind_of n.result) c.in-Err.refusal l.invariant n.ensures.kind
    (sym c.is_gap.ensures ∙ c.if-not-is_gap.true) c.in-Err.ensures.made)

pub returns-then-is_complete-clause-found : goal.returns-then-is_complete-clause-found
returns-then-is_complete-clause-found c =
    let l = c.pieces in
    let n = c.next-token in
    reads-all c.args.base c.args.bytes.now l.lexer.line l.lexer.rest.now l.before (state_of l.reader) (state_of c.take.new.self) (kind_of n.result) (begins-at c.args.base c.requires.start) l.invariant n.ensures.kind
    (sym c.is_gap.ensures ∙ c.if-not-is_gap.true) c.in_default.ensures.made (sym c.is_complete.ensures ∙ c.if-is_complete.true)

pub pieces-preserved : goal.pieces-preserved
pieces-preserved c =
    let l = c.pieces in
    let n = c.next-token in
    gap-on c.args.base c.args.bytes.now l.lexer.line l.lexer.rest.now l.before (state_of l.reader) (kind_of n.result) l.invariant n.ensures.kind (sym c.is_gap.ensures ∙ c.if-not-is_gap.false)
    n.new.self.line n.new.self.rest.now n.ensures.line n.ensures.rest n.ensures.kept

pub pieces-smaller : goal.pieces-smaller
pieces-smaller c =
    let l = c.pieces in
    let n = c.next-token in
    gap-shorter l.lexer.rest.now (kind_of n.result) n.ensures.kind (sym c.is_gap.ensures ∙ c.if-not-is_gap.false) n.new.self.rest.now n.ensures.rest

pub pieces-preserved-then-not-is_gap : goal.pieces-preserved-then-not-is_gap
pieces-preserved-then-not-is_gap c =
    let l = c.pieces in
    let n = c.next-token in
    token-on c.args.base c.args.bytes.now l.lexer.line l.lexer.rest.now l.before (state_of l.reader) (state_of c.take.new.self) (kind_of n.result) (begins-at c.args.base c.requires.start) l.invariant n.ensures.kind
    (sym c.is_gap.ensures ∙ c.if-not-is_gap.true) c.in_default.ensures.made (sym c.is_complete.ensures ∙ c.if-is_complete.false) n.new.self.line n.new.self.rest.now n.ensures.line n.ensures.rest n.ensures.kept

pub pieces-smaller-then-not-is_gap : goal.pieces-smaller-then-not-is_gap
pieces-smaller-then-not-is_gap c =
    let l = c.pieces in
    let n = c.next-token in
    token-shorter c.args.base c.args.bytes.now l.lexer.line l.lexer.rest.now l.before (state_of l.reader) (state_of c.take.new.self) (kind_of n.result) (begins-at c.args.base c.requires.start) l.invariant n.ensures.kind
    c.in_default.ensures.made (sym c.is_complete.ensures ∙ c.if-is_complete.false) n.new.self.rest.now n.ensures.rest
