use Rattle.std.proofs.Common.{◌≤◌, length, arith}
use Rattle.cg_curve.proofs.CurveLemmas.{curve_of_good, file_of_good}
use Rattle.cg_curve.proofs.file.read_curve.Goals as goal

pub of_rows-requires : goal.of_rows-requires
of_rows-requires c =
    let rows = c.in_ok-rows.rows.items in
    let some : 2 ≤ length rows = omega (arith, c.if-len-lt2.false, c.len.ensures) in
    rw c.put_oldest_first.ensures (curve_of_good rows c.in_ok-rows.ensures.good some)

pub returns-clause-ok : goal.returns-clause-ok
returns-clause-ok c =
    let rows = c.in_ok-rows.rows.items in
    let some : 2 ≤ length rows = omega (arith, c.if-len-lt2.false, c.len.ensures) in
    rw (c.of_rows.ensures, c.put_oldest_first.ensures) (file_of_good c.args.bytes.now rows c.in_ok-rows.ensures.said c.in_ok-rows.ensures.good some)
