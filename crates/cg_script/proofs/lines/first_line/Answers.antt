use Rattle.std.proofs.Common.{◌≡◌, ◌<◌, ◌≤◌, ◌-◌, ◌∙◌, ap, length, take, drop, arith, take_all, length-drop}
use Rattle.std.specs.Str.Lines.{strip_carriage_return}
use Rattle.std.proofs.lemmas.Bool.Decides.{nat_tests}
use Rattle.cg_script.proofs.LineLemmas.{last_line, ended_line}
use Rattle.cg_script.proofs.lines.first_line.Goals as goal

pub returns-then-is_empty-clause-lines : goal.returns-then-is_empty-clause-lines
returns-then-is_empty-clause-lines c =
    let none : length c.split_at.result.1.now ≡ 0 = grind (arith, nat_tests) in
    last_line c.args.bytes.now c.line_len.result c.split_at.result.0.now c.split_at.result.1.now c.line_len.ensures.value c.split_at.ensures.front c.split_at.ensures.back c.requires none

pub returns-else-is_empty-clause-lines : goal.returns-else-is_empty-clause-lines
returns-else-is_empty-clause-lines c =
    let rest = c.split_at.result.1.now in
    let some : 0 < length rest = grind (arith, nat_tests) in
    let some' : 0 < length (drop c.line_len.result c.args.bytes.now) = omega (arith, some, ap length c.split_at.ensures.back) in
    let short : length (drop 1 rest) ≤ length rest - 1 = omega (arith, length-drop 1 rest) in
    ended_line c.args.bytes.now c.line_len.result c.without_return.result.now (take (length rest - 1) (drop 1 rest)) c.line_len.ensures.value
    (c.without_return.ensures ∙ ap strip_carriage_return c.split_at.ensures.front) (take_all (length rest - 1) (drop 1 rest) short ∙ ap (drop 1) c.split_at.ensures.back) some'
