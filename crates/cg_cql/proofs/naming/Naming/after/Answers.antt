use Rattle.std.proofs.Common.{subst, sym}
use Rattle.cg_token.specs.View.{kind_of}
use Rattle.cg_cql.specs.declared.naming.Naming.{Naming}
use Rattle.cg_cql.proofs.CurveLineLemmas.{Says, word-passed, equals-passed, paren-passed}
use Rattle.cg_cql.proofs.naming.Naming.after.Goals as goal

pub returns-in_default-token : goal.returns-in_default-token
returns-in_default-token c =
    let m = c.begun-in_default-token in
    subst (λ (n : Naming). Says n c.args.line (kind_of c.args.token) m.result) (sym c.in-Word.is) (word-passed m.result c.args.token c.args.line c.in_default.not-Gap c.in_default-token.not-Mark m.ensures)

pub returns-in_default-token-2 : goal.returns-in_default-token-2
returns-in_default-token-2 c =
    let m = c.begun-in_default-token-2 in
    subst (λ (n : Naming). Says n c.args.line (kind_of c.args.token) m.result) (sym c.in-Equated.is) (equals-passed m.result c.args.token c.args.line c.in_default.not-Gap c.in_default-token-2.not-Text m.ensures)

pub returns-in_default-token-3 : goal.returns-in_default-token-3
returns-in_default-token-3 c =
    let m = c.begun-in_default-token-3 in
    subst (λ (n : Naming). Says n c.args.line (kind_of c.args.token) m.result) (sym c.in-Opening.is) (paren-passed m.result c.args.token c.args.line c.in_default.not-Gap c.in_default-token-3.not-Text m.ensures)
