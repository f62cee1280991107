use Rattle.std.proofs.Common.{◌≡◌, length, reverse, arith}
use Rattle.std.proofs.lemmas.Bool.Decides.{nat_tests}
use Rattle.std.proofs.lemmas.Result.{err_from_is_err_and}
use Rattle.cg_curve.proofs.FileLemmas.{line_taken, line_refused, at_end}
use Rattle.cg_curve.proofs.file.read_rows.Goals as goal

pub returns-in_err-take_line-clause-fault : goal.returns-in_err-take_line-clause-fault
returns-in_err-take_line-clause-fault c =
    let l = c.loop-rest in
    let p = err_from_is_err_and c.from_residual.result c.from_residual.ensures.1 in
    rw (p.1, p.2)
    (line_refused c.args.bytes.now l.rest.now c.first_line.result.1.now l.number c.first_line.result.0.now l.rows.items (reverse c.take_line.new.rows.items)
    c.in_err-take_line.field-0.0 l.invariant.0 c.first_line.ensures.lines c.in_err-take_line.ensures)

pub loop-rest-preserved : goal.loop-rest-preserved
loop-rest-preserved c =
    let l = c.loop-rest in (
      line_taken c.args.bytes.now l.rest.now c.first_line.result.1.now l.number c.first_line.result.0.now l.rows.items c.take_line.new.rows.items
          l.invariant.0 c.first_line.ensures.lines c.in_ok-take_line.ensures,
      omega (arith, l.invariant.1, c.first_line.ensures.shorter),
    )

pub returns-clause-said : goal.returns-clause-said
returns-clause-said c =
    let l = c.loop-rest in
    let none : length l.rest.now ≡ 0 = grind (arith, nat_tests, c.loop-rest-test.ensures) in
    (at_end c.args.bytes.now l.rest.now l.number l.rows.items l.invariant.0 none).0
