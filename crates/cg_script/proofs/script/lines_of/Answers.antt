use Rattle.std.proofs.Common.{◌≡◌, length, map, sym, ◌∙◌, arith}
use Rattle.std.proofs.lemmas.Bool.Decides.{nat_tests}
use Rattle.std.proofs.lemmas.Result.{err_from_is_err_and}
use Rattle.cg_script.specs.Command.{line_in}
use Rattle.cg_script.proofs.ScriptLemmas.{skipped, taken, refused, at_end}
use Rattle.cg_script.proofs.script.lines_of.Goals as goal
use Rattle.cg_script.proofs.script.lines_of.Goals.{then-not-is_skipped+in_ok-take_line, else-not-is_skipped}

pub take_line-requires : goal.take_line-requires
take_line-requires c = omega (arith, c.requires, c.first_line.ensures.within, c.loop-rest.invariant.left)

pub returns-in_err-take_line-clause-fault : goal.returns-in_err-take_line-clause-fault
returns-in_err-take_line-clause-fault c =
    let l = c.loop-rest in
    let p = err_from_is_err_and c.from_residual.result c.from_residual.ensures.1 in
    rw (p.1, p.2)
    (refused c.args.bytes.now l.rest.now c.first_line.result.1.now l.number c.first_line.result.0.now (map line_in l.lines.items) c.in_err-take_line.field-0.0
    l.invariant.so_far c.first_line.ensures.lines (sym c.is_skipped.ensures ∙ c.if-not-is_skipped.true) c.in_err-take_line.ensures)

pub loop-rest-preserved : goal.loop-rest-preserved
loop-rest-preserved c =
    let l = c.loop-rest in
    let behind = c.first_line.result.1.now in
    let line = c.first_line.result.0.now in
    record {
      so_far = elim c.if-not-is_skipped.branch [
        | then-not-is_skipped+in_ok-take_line w ↦
            rw w.lines-is
            (taken c.args.bytes.now l.rest.now behind l.number line (map line_in l.lines.items) (map line_in w.take_line.new.lines.items)
            l.invariant.so_far c.first_line.ensures.lines (sym c.is_skipped.ensures ∙ w.if-not-is_skipped.true) w.in_ok-take_line.ensures)
        | else-not-is_skipped w ↦
            rw w.lines-is
            (skipped c.args.bytes.now l.rest.now behind l.number line (map line_in l.lines.items) l.invariant.so_far c.first_line.ensures.lines
            (sym c.is_skipped.ensures ∙ w.if-not-is_skipped.false))
      ];
      few = omega (arith, l.invariant.few, c.first_line.ensures.shorter);
      left = omega (arith, l.invariant.left, c.first_line.ensures.shorter);
    }

pub returns-clause-ok : goal.returns-clause-ok
returns-clause-ok c =
    let l = c.loop-rest in
    let none : length l.rest.now ≡ 0 = grind (arith, nat_tests, c.loop-rest-test.ensures) in
    at_end c.args.bytes.now l.rest.now l.number (map line_in l.lines.items) l.invariant.so_far none
